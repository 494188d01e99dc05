-- The opening that is read from a tape is the opening of the tape, also where its legs are too many.
use mathlib.Core.Path.{◌≡◌, refl, sym, ap, ap₂, ◌∙◌}
use mathlib.Core.Bool.{false}
use mathlib.Core.List.{List}
use Prim.Native.Nat.{ℕ, zero, suc, ◌+◌, ◌-◌, ◌*◌, ◌≤◌, ◌<◌}
use native.Mathlib.Decide.{dec_le}
use native.Mathlib.Omega.{arith}
use borrow.Author.Tests.{lt-leb}
use lib.Dec.{leb}
use lib.ListN.{length, drop}
use lib.Seq.{drop-drop}
use Rattle.rules.specs.Basics.{between}
use Rattle.rules.specs.Strategy.{Leg, Strategy, opening_refusal}
use Rattle.rules.specs.Run.{refused_opening, opening}
use Rattle.rules.specs.Tape.{header_of, leg_bytes, leg_of, legs_from, strategy_of}
use Rattle.rules.proofs.TestLaws.{and_no}
use Rattle.types.specs.View.{upto, leg_at, opening_of}
use Rattle.types.specs.declared.Opening.{Opening as Stored}
use Rattle.types.proofs.TableLaws.{from-length}
use Rattle.tape.specs.View.{strategy_from, Reads}

-- ---- four legs, one behind another

pub four_legs : (f : ℕ → Leg) (t : List ℕ) (at : ℕ) → f 0 ≡ leg_of (drop at t) → f 1 ≡ leg_of (drop (at + leg_bytes) t)
    → f 2 ≡ leg_of (drop (at + leg_bytes + leg_bytes) t) → f 3 ≡ leg_of (drop (at + leg_bytes + leg_bytes + leg_bytes) t)
    → (k : ℕ) → k < 4 → f k ≡ leg_of (drop (at + leg_bytes * k) t)
four_legs f t at a b c d zero h = let z : at + leg_bytes * 0 ≡ at = omega arith in a ∙ ap (λ (i : ℕ). leg_of (drop i t)) (sym z)
four_legs f t at a b c d (suc zero) h = let z : at + leg_bytes * 1 ≡ at + leg_bytes = omega arith in b ∙ ap (λ (i : ℕ). leg_of (drop i t)) (sym z)
four_legs f t at a b c d (suc (suc zero)) h = let z : at + leg_bytes * 2 ≡ at + leg_bytes + leg_bytes = omega arith in c ∙ ap (λ (i : ℕ). leg_of (drop i t)) (sym z)
four_legs f t at a b c d (suc (suc (suc zero))) h = let z : at + leg_bytes * 3 ≡ at + leg_bytes + leg_bytes + leg_bytes = omega arith in d ∙ ap (λ (i : ℕ). leg_of (drop i t)) (sym z)
four_legs f t at a b c d (suc (suc (suc (suc k)))) h = absurd (omega arith)

-- ---- what is read is what the tape holds

legs_from_lem : (f : ℕ → Leg) (t : List ℕ) (at k n : ℕ) → ((i : ℕ) → k ≤ i → i < k + n → f i ≡ leg_of (drop (at + leg_bytes * i) t)) → upto f k n ≡ legs_from n (drop (at + leg_bytes * k) t)
unfolding upto
legs_from_lem f t at k zero h = refl
legs_from_lem f t at k (suc n) h =
    let z : at + leg_bytes * k + leg_bytes ≡ at + leg_bytes * (k + 1) = omega arith in
    rw (h k (omega arith) (omega arith), drop-drop leg_bytes (at + leg_bytes * k) t, z, legs_from_lem f t at (k + 1) n (λ i a b. h i (omega arith) (omega arith)))

tape_length : (n : ℕ) (p : List ℕ) → length (legs_from n p) ≡ n
tape_length zero p = refl
tape_length (suc n) p = ap suc (tape_length n (drop leg_bytes p))

reads_few : (at : ℕ) (t : List ℕ) (r : Stored) → Reads at t r → r.count ≤ 4 → opening_of r ≡ strategy_from at t
reads_few at t r e h =
    let n : r.count - 0 ≡ (header_of t).leg_count = omega (arith, e.count) in
    let z : at + leg_bytes * 0 ≡ at = omega arith in
    let ls = legs_from_lem (leg_at r) t at 0 (r.count - 0) (λ i a b. e.legs i (omega arith)) ∙ ap₂ (λ (m : ℕ) (i : ℕ). legs_from m (drop i t)) n z in
    λ i. record { legs = ls i; settings = e.settings i }

-- ---- too many legs

too_many : (o : Strategy) → 4 < length o.legs → opening o ≡ refused_opening 1
unfolding opening opening_refusal
too_many o h = let e : between 2 (length o.legs) 4 ≡ false = and_no (leb 2 (length o.legs)) (leb (length o.legs) 4) (lt-leb (length o.legs) 4 h) in rw e

-- ---- openings

-- of the legs from an offset on
pub reads_opening : (at : ℕ) (t : List ℕ) (r : Stored) → Reads at t r → opening (opening_of r) ≡ opening (strategy_from at t)
reads_opening at t r e =
    elim (dec_le r.count 4) [
      | yes h ↦ ap opening (reads_few at t r e h)
      | no h ↦
          too_many (opening_of r) (omega (arith, from-length (leg_at r) 0 r.count))
          ∙ sym (too_many (strategy_from at t) (omega (arith, tape_length (header_of t).leg_count (drop at t), e.count)))
    ]

-- from the offset that the header names
pub reads_tape : (t : List ℕ) (r : Stored) → Reads (header_of t).leg_offset t r → opening (opening_of r) ≡ opening (strategy_of t)
unfolding strategy_of
reads_tape t r e = reads_opening (header_of t).leg_offset t r e
