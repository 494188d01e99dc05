-- A table that is changed word by word, from the top down: before, after one word more, and at the end.
use mathlib.Core.Path.{◌≡◌, refl, sym, ap, ap₂, ◌∙◌}
use mathlib.Core.Bool.{Bool, ◌&&◌, ◌||◌, or-false}
use mathlib.Core.List.{List}
use Prim.Native.Nat.{ℕ, ◌+◌, ◌-◌, ◌*◌, ◌/◌, ◌%◌, ◌≤◌, ◌<◌}
use native.Mathlib.Decide.{ℕ_discrete, dec_le}
use native.Mathlib.Omega.{arith}
use borrow.Author.Tests.{le-leb, lt-leb, ne_eqb}
use lib.Dec.{eqb, leb}
use lib.ListN.{length, get_or, set, length-set}
use lib.Seq.{get_or-set_same, get_or-set_other}
use Rattle.rules.specs.Basics.{pick}
use Rattle.legprices.specs.Sums.{stands}
use Rattle.legprices.specs.Tables.{bit, Merged, Changed, moved}
use Rattle.legprices.proofs.BitLaws.{bit-zero, bit_past}

-- the words from place k on are changed, of so many
pub record Going (words b k : ℕ) (old new : List ℕ) (rule : ℕ → Bool) : Type 0 where
  pub sized : length new ≡ 44
  pub left : (i : ℕ) → i < b + k → get_or new i 0 ≡ get_or old i 0
  pub above : (i : ℕ) → b + words ≤ i → get_or new i 0 ≡ get_or old i 0
  pub done : (s : ℕ) → k ≤ s / 64 → s < words * 64 → stands new b s ≡ rule s

module _ (words b : ℕ) (old : List ℕ) (rule : ℕ → Bool) where
  pub going-none : length old ≡ 44 → Going words b words old old rule
  going-none h = record {
    sized = h;
    left = λ i j. refl;
    above = λ i j. refl;
    done = λ s j l. absurd (omega arith);
  }

  pub going-one : (i j k w : ℕ) (new : List ℕ) → b + words ≤ 44 → j ≤ words → i ≡ b + k → j ≡ k + 1 → ((s : ℕ) → s / 64 ≡ k → bit w (s % 64) ≡ rule s)
      → Going words b j old new rule → Going words b k old (set new i w) rule
  going-one i j k w new f l e z r g =
      let in-range : i < length new = omega (arith, g.sized) in
      record {
        sized = length-set new i w ∙ g.sized;
        left = λ x h. get_or-set_other new i x w 0 (omega arith) ∙ g.left x (omega arith);
        above = λ x h. get_or-set_other new i x w 0 (omega arith) ∙ g.above x h;
        done = λ s h m.
            elim (ℕ_discrete (s / 64) k) [
              | yes y ↦ rw (ap (λ (x : ℕ). get_or (set new i w) (b + x) 0) y ∙ ap (λ (x : ℕ). get_or (set new i w) x 0) (sym e) ∙ get_or-set_same new i w 0 in-range) (r s y)
              | no n ↦ rw (get_or-set_other new i (b + s / 64) w 0 (omega arith)) (g.done s (omega arith) m)
            ];
      }

  pub going-all : (k : ℕ) (new : List ℕ) → k ≤ words → ((s : ℕ) → s / 64 < k → stands old b s ≡ rule s) → Going words b k old new rule → Changed words b old new rule
  going-all k new l r g =
      record {
        sized = g.sized;
        inside = λ s j.
            elim (dec_le k (s / 64)) [
              | yes m ↦ g.done s m j
              | no n ↦ rw (g.left (b + s / 64) (omega arith)) (r s (omega arith))
            ];
        below = λ i j. g.left i (omega arith);
        above = g.above;
      }

-- ---- the words of a table that is moved up by a number and joined with itself

module _ (old : List ℕ) (b a : ℕ) where
  -- the bit that a sum less a has
  back : (k low high : ℕ) → a / 64 ≤ k → high ≡ get_or old (b + (k - a / 64)) 0 → (a / 64 < k → low ≡ get_or old (b + (k - a / 64 - 1)) 0) → (k ≡ a / 64 → low ≡ 0)
      → (s : ℕ) → s / 64 ≡ k → pick (leb (a % 64) (s % 64)) (bit high (s % 64 - a % 64)) (bit low (s % 64 + 64 - a % 64)) ≡ (leb a s && stands old b (s - a))
  back k low high l here near none s j =
      elim (dec_le (a % 64) (s % 64)) [
        | yes i ↦
            let d : (s - a) / 64 ≡ k - a / 64 = omega arith in
            let r : (s - a) % 64 ≡ s % 64 - a % 64 = omega arith in
            rw (le-leb (a % 64) (s % 64) i, le-leb a s (omega arith), d, r, here)
        | no n ↦
            elim (ℕ_discrete k (a / 64)) [
              | yes x ↦ rw (lt-leb (a % 64) (s % 64) (omega arith), lt-leb a s (omega arith), none x) (bit-zero (s % 64 + 64 - a % 64))
              | no x ↦
                  let d : (s - a) / 64 ≡ k - a / 64 - 1 = omega arith in
                  let r : (s - a) % 64 ≡ s % 64 + 64 - a % 64 = omega arith in
                  rw (lt-leb (a % 64) (s % 64) (omega arith), le-leb a s (omega arith), d, r, near (omega arith))
            ]
      ]

  pub going-moved : (words j k h low w : ℕ) (new : List ℕ) → b + words ≤ 44 → j ≤ words → j ≡ k + 1 → b + k ≡ h + a / 64 → a / 64 ≤ k
      → (a / 64 < k → low ≡ get_or new (h - 1) 0) → (k ≡ a / 64 → low ≡ 0) → Merged (get_or new (b + k) 0) low (get_or new h 0) (a % 64) w
      → Going words b j old new (moved (stands old b) a) → Going words b k old (set new (b + k) w) (moved (stands old b) a)
  going-moved words j k h low w new f l z e m near none merge g = going-one words b old (moved (stands old b) a) (b + k) j k w new f l refl z word g
    where
      at : (x y : ℕ) → x < b + j → x ≡ y → get_or new x 0 ≡ get_or old y 0
      at x y i q = g.left x i ∙ ap (λ (v : ℕ). get_or old v 0) q

      word : (s : ℕ) → s / 64 ≡ k → bit w (s % 64) ≡ moved (stands old b) a s
      word s q =
          merge (s % 64) (omega arith)
          ∙ ap₂ (λ (x : ℕ) (y : Bool). bit x (s % 64) || y) (at (b + k) (b + s / 64) (omega arith) (omega arith))
          (back k low (get_or new h 0) m (at h (b + (k - a / 64)) (omega arith) (omega arith)) (λ i. near i ∙ at (h - 1) (b + (k - a / 64 - 1)) (omega arith) (omega arith)) none s q)

  pub moved-low : (s : ℕ) → s / 64 < a / 64 → stands old b s ≡ moved (stands old b) a s
  moved-low s j = rw (lt-leb a s (omega arith)) (sym (or-false (stands old b s)))

-- ---- the words of the table of no leg

pub zero_word : (k : ℕ) → 1 ≤ k → (s : ℕ) → s / 64 ≡ k → bit 0 (s % 64) ≡ eqb s 0
zero_word k h s j = bit-zero (s % 64) ∙ sym (ne_eqb s 0 (omega arith))

pub one_word : (s : ℕ) → s / 64 ≡ 0 → bit 1 (s % 64) ≡ eqb s 0
one_word s j =
    elim (ℕ_discrete s 0) [
      | yes e ↦ rw e
      | no n ↦ bit_past 1 1 (s % 64) (omega arith) (omega arith) ∙ sym (ne_eqb s 0 n)
    ]
