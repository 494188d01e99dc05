-- One entry more, or none left, of what a scan asks of a table.
use mathlib.Core.Path.{◌≡◌, refl, ap, sym, ◌∙◌}
use mathlib.Core.Bool.{Bool, true, false, ◌||◌, not, or_assoc, or-false}
use mathlib.Core.List.{List, [], ◌∷◌}
use Prim.Native.Nat.{ℕ, ◌+◌, ◌≤◌, ◌<◌}
use native.Mathlib.Omega.{arith}
use lib.Dec.{eqb}
use lib.ListN.{length}
use Rattle.std.specs.Prelude.{Option, Some, None}
use Rattle.rules.specs.Basics.{pick}
use Rattle.rules.specs.Book.{Entry, Found, nobody, found, find, any, count, units_if, only, without, put_by_price, by_price, better, is_queued, is_response}
use Rattle.rules.specs.Refusals.{is_order}
use Rattle.rules.specs.Auction.{queue, first_in, beats_found}
use Rattle.types.specs.View.{from}
use Rattle.types.proofs.TableLaws.{from_cons, from_end}
use Rattle.book.specs.Questions.{front_of, front_with}
use Rattle.book.specs.declared.Front.{Front}

module _ (f : ℕ → Entry) (k n : ℕ) where
  -- ---- the entry under an id

  pub find-hit : (i : ℕ) → k < n → eqb (f k).id i ≡ true → find i (from f k n) ≡ found (f k)
  unfolding find
  find-hit i h e = rw (from_cons f k n h, e)

  pub find-miss : (i : ℕ) → k < n → eqb (f k).id i ≡ false → find i (from f (k + 1) n) ≡ find i (from f k n)
  unfolding find
  find-miss i h e = rw (from_cons f k n h, e)

  pub find-end : (i : ℕ) → n ≤ k → find i (from f k n) ≡ nobody
  unfolding find
  find-end i h = rw (from_end f k n h)

  -- ---- sums, and those that meet a condition

  module _ (p : Entry → Bool) where
    pub count-step : k < n → count p (from f k n) ≡ pick (p (f k)) 1 0 + count p (from f (k + 1) n)
    count-step h = ap (count p) (from_cons f k n h)

    pub count-end : n ≤ k → count p (from f k n) ≡ 0
    count-end h = ap (count p) (from_end f k n h)

    pub units-step : k < n → units_if p (from f k n) ≡ pick (p (f k)) (f k).units 0 + units_if p (from f (k + 1) n)
    units-step h = ap (units_if p) (from_cons f k n h)

    pub units-end : n ≤ k → units_if p (from f k n) ≡ 0
    units-end h = ap (units_if p) (from_end f k n h)

    pub only_step : k < n → pick (p (f k)) (f k ∷ only p (from f (k + 1) n)) (only p (from f (k + 1) n)) ≡ only p (from f k n)
    unfolding only
    only_step h = rw (from_cons f k n h)

    pub only_end : n ≤ k → only p (from f k n) ≡ []
    unfolding only
    only_end h = rw (from_end f k n h)

-- nobody is under the id, so that nobody leaves
pub without_nobody : (i : ℕ) (es : List Entry) → find i es ≡ nobody → without i es ≡ es
unfolding find only
without_nobody i [] h = refl
without_nobody i (e ∷ es) h = by (eqb e.id i) h (without_nobody i es)
  where
    by : (b : Bool) → pick b (found e) (find i es) ≡ nobody → (find i es ≡ nobody → without i es ≡ es) → pick (not b) (e ∷ without i es) (without i es) ≡ e ∷ es
    by true q r = let z : ◌≡◌ {A = ℕ} 0 1 = cc in absurd (omega arith)
    by false q r = ap (λ (t : List Entry). e ∷ t) (r q)

-- ---- whether one meets a condition

-- what was seen so far, with what is left, is all
abbrev pub Seen : Bool → (Entry → Bool) → (ℕ → Entry) → ℕ → ℕ → Type 0
Seen b p f k n = (b || any p (from f k n)) ≡ any p (from f 0 n)

module _ (p : Entry → Bool) (f : ℕ → Entry) (k n : ℕ) (b : Bool) (s : Seen b p f k n) where
  pub seen_step : {x : Bool} → k < n → x ≡ p (f k) → Seen (b || x) p f (k + 1) n
  seen_step {x} h e = rw e (or_assoc b (p (f k)) (any p (from f (k + 1) n)) ∙ ap (λ (es : List Entry). b || any p es) (sym (from_cons f k n h)) ∙ s)

  pub seen_end : n ≤ k → b ≡ any p (from f 0 n)
  seen_end h = sym (or-false b) ∙ ap (λ (es : List Entry). b || any p es) (sym (from_end f k n h)) ∙ s

-- nothing seen before, and nothing now
pub neither : (b x : Bool) → (b || x) ≡ false → (b ≡ false) × (x ≡ false)
neither true x h = let z : ◌≡◌ {A = ℕ} 0 1 = cc in absurd (omega arith)
neither false x h = (refl, h)

-- ---- orders and responses

-- who is no response is an order
pub orders_left : (es : List Entry) → count is_order es + count (λ e. is_response e.stage) es ≡ length es
orders_left [] = refl
orders_left (e ∷ es) = by (is_response e.stage) (orders_left es)
  where
    by : (b : Bool) → count is_order es + count (λ e. is_response e.stage) es ≡ length es
        → pick (not b) 1 0 + count is_order es + (pick b 1 0 + count (λ e. is_response e.stage) es) ≡ length (e ∷ es)
    by true q = omega arith
    by false q = omega arith

-- ---- the first of the queue

-- the front with an entry put before all others
pub front_put : (e : Entry) (l : List Entry) → Some (front_with e.buy e.price (front_of (first_in l))) ≡ front_of (first_in (put_by_price e l))
unfolding put_by_price
front_put e [] = refl
front_put e (h ∷ t) = by (better h.buy h.price e.price)
  where
    by : (b : Bool) → Some (pick b (record { buy = h.buy; price = h.price }) (record { buy = e.buy; price = e.price })) ≡ front_of (first_in (pick b (h ∷ put_by_price e t) (e ∷ h ∷ t)))
    by true = refl
    by false = refl

module _ (f : ℕ → Entry) (k n : ℕ) (h : k < n) where
  pub front-hit : is_queued (f k).stage ≡ true → Some (front_with (f k).buy (f k).price (front_of (first_in (queue (from f (k + 1) n))))) ≡ front_of (first_in (queue (from f k n)))
  unfolding only by_price
  front-hit e = rw (from_cons f k n h, e) (front_put (f k) (queue (from f (k + 1) n)))

  pub front-miss : is_queued (f k).stage ≡ false → front_of (first_in (queue (from f (k + 1) n))) ≡ front_of (first_in (queue (from f k n)))
  unfolding only
  front-miss e = rw (from_cons f k n h, e)

-- the first is worse than that price
abbrev pub front_better : Bool → ℕ → Option Front → Bool
front_better buy p None = false
front_better buy p (Some a) = better buy p a.price

pub front_beats : (buy : Bool) (p : ℕ) (x : Found) → front_better buy p (front_of x) ≡ beats_found buy p x
front_beats buy p nobody = refl
front_beats buy p (found e) = refl
