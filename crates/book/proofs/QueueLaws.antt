-- A price against a queue of one side: it is better than the first's limit just where it is better than each.
use mathlib.Core.Path.{◌≡◌, refl, ap, sym, ◌∙◌}
use mathlib.Core.Bool.{Bool, true, false, ◌&&◌, ◌||◌, not}
use mathlib.Core.List.{List, [], ◌∷◌}
use Prim.Native.Nat.{ℕ}
use native.Mathlib.Omega.{arith}
use borrow.Author.Tests.{ltb-true, ltb-false, lt-ltb, not-false}
use Rattle.std.specs.Prelude.{Option, Some, None}
use Rattle.std.specs.Option.{is_some}
use Rattle.rules.specs.Basics.{pick}
use Rattle.rules.specs.Book.{Entry, only, any, by_price, better, same_side, is_queued}
use Rattle.rules.specs.Auction.{queue, first_in, beats_found}
use Rattle.book.specs.Questions.{is_across, is_unbeaten, front_of, front_with}
use Rattle.book.specs.declared.Front.{Front}
use Rattle.book.proofs.ScanLaws.{neither, front_put, front_better, front_beats}

-- ---- better

better_both : (b : Bool) (p x y : ℕ) → better b x y ≡ true → better b p x ≡ true → better b p y ≡ true
better_both true p x y h k = lt-ltb y p (omega (arith, ltb-true y x h, ltb-true x p k))
better_both false p x y h k = lt-ltb p y (omega (arith, ltb-true x y h, ltb-true p x k))

better-back : (b : Bool) (p x y : ℕ) → better b x y ≡ false → better b p y ≡ true → better b p x ≡ true
better-back true p x y h k = lt-ltb x p (omega (arith, ltb-false y x h, ltb-true y p k))
better-back false p x y h k = lt-ltb p x (omega (arith, ltb-false x y h, ltb-true p y k))

same_is : (a b : Bool) → same_side a b ≡ true → b ≡ a
same_is true b h = h
same_is false true h = let z : ◌≡◌ {A = ℕ} 0 1 = cc in absurd (omega arith)
same_is false false h = refl

-- ---- one more

stays : (b u x : Bool) → not u ≡ x → (x ≡ true → b ≡ true) → not (not b || u) ≡ x
stays true u x h k = h
stays false u true h k = k refl
stays false u false h k = refl

comes : (b u x : Bool) → not u ≡ x → (b ≡ true → x ≡ true) → not (not b || u) ≡ b
comes true u x h k = h ∙ k refl
comes false u x h k = refl

module _ (buy : Bool) (p : ℕ) where
  -- what is known of the first of a queue on that side, and of whether the price is not better than some limit
  Agrees : Option Front → Bool → Type 0
  Agrees None u = u ≡ false
  Agrees (Some a) u = (a.buy ≡ buy) × (not u ≡ better buy p a.price)

  with-one : (a : Option Front) (u : Bool) (e : Entry) → Agrees a u → e.buy ≡ buy → Agrees (Some (front_with e.buy e.price a)) (not (better buy p e.price) || u)
  unfolding Agrees
  with-one None u e g s = (s, comes (better buy p e.price) u true (ap not g) (λ z. refl))
  with-one (Some a) u e g s = let z : better a.buy a.price e.price ≡ better buy a.price e.price = rw g.0 in rw z (ahead (better buy a.price e.price) refl)
    where
      ahead : (d : Bool) → better buy a.price e.price ≡ d → Agrees (Some (pick d a (record { buy = e.buy; price = e.price }))) (not (better buy p e.price) || u)
      ahead true h = (g.0, stays (better buy p e.price) u _ g.1 (better_both buy p a.price e.price h))
      ahead false h = (s, comes (better buy p e.price) u _ g.1 (better-back buy p a.price e.price h))

  -- the first of the queue
  abbrev front_in : List Entry → Option Front
  front_in es = front_of (first_in (queue es))

  front-one : (e : Entry) (es : List Entry) → is_queued e.stage ≡ true → front_in (e ∷ es) ≡ Some (front_with e.buy e.price (front_in es))
  unfolding only by_price
  front-one e es h = rw h (sym (front_put e (queue es)))

  front-other : (e : Entry) (es : List Entry) → is_queued e.stage ≡ false → front_in (e ∷ es) ≡ front_in es
  unfolding only
  front-other e es h = rw h

  agrees : (es : List Entry) → any (is_across buy) es ≡ false → Agrees (front_in es) (any (is_unbeaten buy p) es)
  unfolding only by_price Agrees
  agrees [] h = refl
  agrees (e ∷ es) h = let n = neither (is_across buy e) (any (is_across buy) es) h in by (is_queued e.stage) refl n.0 (agrees es n.1)
    where
      by : (q : Bool) → is_queued e.stage ≡ q → is_across buy e ≡ false → Agrees (front_in es) (any (is_unbeaten buy p) es) → Agrees (front_in (e ∷ es)) (any (is_unbeaten buy p) (e ∷ es))
      by true q n g = rw (front-one e es q, q) (with-one (front_in es) (any (is_unbeaten buy p) es) e g (same_is buy e.buy (not-false _ (rw q at n))))
      by false q n g = rw (front-other e es q, q) g

  there : (es : List Entry) → is_some (front_in es) ≡ any (λ e. is_queued e.stage) es
  unfolding only by_price
  there [] = refl
  there (e ∷ es) = by (is_queued e.stage) refl (there es)
    where
      by : (q : Bool) → is_queued e.stage ≡ q → is_some (front_in es) ≡ any (λ e. is_queued e.stage) es → is_some (front_in (e ∷ es)) ≡ (q || any (λ e. is_queued e.stage) es)
      by true q h = ap is_some (front-one e es q)
      by false q h = ap is_some (front-other e es q) ∙ h

  -- better than the first's limit, and so than all
  pub beats-all : (es : List Entry) → any (is_across buy) es ≡ false → (any (λ e. is_queued e.stage) es && not (any (is_unbeaten buy p) es)) ≡ beats_found buy p (first_in (queue es))
  unfolding Agrees
  beats-all es h = rw (← there es) (by (front_in es) (any (is_unbeaten buy p) es) (agrees es h)) ∙ front_beats buy p (first_in (queue es))
    where
      by : (a : Option Front) (u : Bool) → Agrees a u → (is_some a && not u) ≡ front_better buy p a
      by None u g = refl
      by (Some a) u g = g.1
