-- The rules' phases: no turn, one phase after another, and what is left after an auction.
use mathlib.Core.Path.{◌≡◌, refl, ap, ap₂, sym, ◌∙◌}
use mathlib.Core.Bool.{Bool, true, false, ◌||◌, not, true≢false}
use mathlib.Core.List.{List, [], ◌∷◌, ◌++◌}
use Prim.Native.Nat.{ℕ}
use native.Mathlib.Omega.{arith}
use lib.Dec.{eqb}
use lib.ListN.{set}
use lib.Seq.{get_or-set_same}
use Rattle.rules.specs.Basics.{pick}
use Rattle.rules.specs.Prices.{Derived}
use Rattle.rules.specs.Book.{Entry, found, find, any, ids_of, released_all, expired}
use Rattle.rules.specs.State.{State, Auction, none, pending, with_book, with_auction, is_pending, contra_price}
use Rattle.rules.specs.Auction.{queue}
use Rattle.rules.specs.Execution.{Mode, from_queue, legs_pass, Reply, still, then, ready, execute_found, execute, serve}
use Rattle.rules.specs.Step.{go_live, live_of, pass_legs, steps, closed, ending, quiet}
use Rattle.state.specs.Layout as L
use Rattle.state.specs.Layout.{WordsSized}
use Rattle.state.specs.View.{state_of}
use Rattle.state.proofs.StoreLaws.{kept_all, kept_set}
use Rattle.state.proofs.StateLaws.{auction-alone}
use Rattle.execution.proofs.ServeLaws.{serve_both}

-- ---- no turn

found-still : (m : Mode) (s : State) (i : ℕ) (es : List Entry) → any (ready m s) es ≡ false → execute_found m s (find i es) ≡ still s
unfolding find
found-still m s i [] h = refl
found-still m s i (e ∷ es) h = by (eqb e.id i) (ready m s e) refl h (found-still m s i es)
  where
    by : (x y : Bool) → ready m s e ≡ y → (y || any (ready m s) es) ≡ false → (any (ready m s) es ≡ false → execute_found m s (find i es) ≡ still s) → execute_found m s (pick x (found e) (find i es)) ≡ still s
    by x true q h f = absurd (true≢false h)
    by true false q h f = rw q refl
    by false false q h f = f h

-- where no order is ready, none has a turn
pub serve-still : (m : Mode) (is : List ℕ) (s : State) → any (ready m s) s.book ≡ false → serve m is s ≡ still s
unfolding serve execute
serve-still m [] s h = refl
serve-still m (i ∷ is) s h = ap (λ (r : Reply). then r (serve m is)) (found-still m s i s.book h) ∙ serve-still m is s h

-- ---- no auction pending

-- the derived contra price of either side
pub contra_is : (s : State) (d e : Derived) → d ≡ contra_price s true → e ≡ contra_price s false → (b : Bool) → pick b d e ≡ contra_price s b
contra_is s d e p q true = p
contra_is s d e p q false = q

-- buyers before sellers
pub pass_is : (is js : List ℕ) (s : State) → is ≡ live_of (λ e. e.buy) s.book → js ≡ live_of (λ e. not e.buy) s.book → then (serve legs_pass is s) (serve legs_pass js) ≡ pass_legs s
pass_is is js s p q = sym (serve_both legs_pass is js s) ∙ ap₂ (λ (x y : List ℕ). serve legs_pass (x ++ y) s) p q

pub steps_are : (s : State) → then (go_live s) pass_legs ≡ steps s
unfolding steps
steps_are s = refl

module _ (s : State) where
  pub quiet-still : {b : Bool} → b ≡ is_pending s.auction → b ≡ true → quiet s s.auction ≡ still s
  quiet-still {b} e q = by s.auction (sym e ∙ q)
    where
      by : (a : Auction) → is_pending a ≡ true → quiet s a ≡ still s
      by none h = absurd (true≢false (sym h))
      by (pending p) h = refl

  pub quiet-steps : {b : Bool} → b ≡ is_pending s.auction → b ≡ false → steps s ≡ quiet s s.auction
  quiet-steps {b} e q = by s.auction (sym e ∙ q)
    where
      by : (a : Auction) → is_pending a ≡ false → steps s ≡ quiet s a
      by none h = refl
      by (pending p) h = absurd (true≢false h)

-- ---- the end of an auction

no_auction : (a l : List ℕ) → WordsSized l → state_of a (set l L.pending 0) ≡ with_auction (state_of a l) none
no_auction a l z =
    auction-alone a a l (set l L.pending 0) (kept_all _ _ a) (kept_set L.pending L.symbols l l L.pending 0 (omega arith) (omega arith) (kept_all _ _ l))
    ∙ ap (λ (x : Auction). with_auction (state_of a l) x) (rw (get_or-set_same l L.pending 0 0 (omega arith)) refl)

-- the book closed, and no auction
pub closed_is : (a l b m : List ℕ) → WordsSized m → state_of b m ≡ with_book (state_of a l) (released_all (expired (state_of a l).book)) → state_of b (set m L.pending 0) ≡ closed (state_of a l)
closed_is a l b m z e = no_auction b m z ∙ ap (λ (s : State). with_auction s none) e

pub ending_is : (is : List ℕ) (s : State) → is ≡ ids_of (queue s.book) → then (serve from_queue is s) (λ r. steps (closed r)) ≡ ending s
unfolding ending
ending_is is s e = ap (λ (x : List ℕ). then (serve from_queue x s) (λ r. steps (closed r))) e
