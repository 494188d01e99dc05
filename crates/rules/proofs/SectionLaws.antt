-- M-100: the sections of a tape that meets neither 60 nor 61, and a header that meets no 60.
use mathlib.Core.Path.{◌≡◌, refl, ap}
use mathlib.Core.Bool.{Bool, true, false, ◌&&◌, ◌||◌, not}
use mathlib.Core.List.{List}
use mathlib.Core.Logic.{◌⊎◌, inl, inr}
use Prim.Native.Nat.{ℕ, ◌+◌, ◌-◌, ◌*◌, ◌≤◌, ◌<◌}
use native.Mathlib.Decide.{dec_lt}
use native.Mathlib.Omega.{arith}
use borrow.Author.Tests.{lt-ltb, le-ltb, le-leb, ltb-false}
use lib.Dec.{ltb}
use lib.ListN.{length, drop}
use Rattle.rules.specs.Basics.{pick, between}
use Rattle.rules.specs.Tape.{Header, header_of, Section, leg_section, message_section, is_misplaced, overlaps, is_damaged, known_kinds, has_unknown_kind, tape_refusal}
use Rattle.rules.proofs.TestLaws.{and_no, or_no, not_true, between_low, between_high}

-- ---- sections

abbrev section_at : ℕ → ℕ → Section
section_at s z = record { start = s; size = z }

-- a section that is not empty stands behind the header and ends within the tape
placed : (s z n : ℕ) → is_misplaced (section_at s z) n ≡ false → 0 < z → (40 ≤ s) × (s + z ≤ n)
placed s z n h l =
    let k : (ltb s 40 || ltb n (s + z)) ≡ false = rw (lt-ltb 0 z l) at h in
    let o : (ltb s 40 ≡ false) × (ltb n (s + z) ≡ false) = or_no (ltb s 40) (ltb n (s + z)) k in
    (ltb-false s 40 o.0, ltb-false n (s + z) o.1)

-- two that are not empty: one ends before the other begins
beside : (s z r y : ℕ) → overlaps (section_at s z) (section_at r y) ≡ false → 0 < z → 0 < y → (r + y ≤ s) ⊎ (s + z ≤ r)
beside s z r y h l k =
    elim (dec_lt s (r + y)) [
      | yes q ↦ inr (ltb-false r (s + z) (rw (lt-ltb 0 z l, lt-ltb 0 y k, lt-ltb s (r + y) q) at h))
      | no q ↦ inl (omega arith)
    ]

-- "at most 65,535 bytes": what the sections of an accepted tape come to
within : (s z r y n : ℕ) → 40 ≤ n → is_misplaced (section_at s z) n ≡ false → is_misplaced (section_at r y) n ≡ false → overlaps (section_at s z) (section_at r y) ≡ false → 40 + z + y ≤ n
within s z r y n h a b o =
    elim (dec_lt 0 z) [
      | yes l ↦
          elim (dec_lt 0 y) [
            | yes k ↦ (
                let p : (40 ≤ s) × (s + z ≤ n) = placed s z n a l in
                let q : (40 ≤ r) × (r + y ≤ n) = placed r y n b k in
                elim (beside s z r y o l k) [
                  | inl e ↦ omega arith
                  | inr e ↦ omega arith
                ]
                )
            | no k ↦ omega (arith, placed s z n a l)
          ]
      | no l ↦
          elim (dec_lt 0 y) [
            | yes k ↦ omega (arith, placed r y n b k)
            | no k ↦ omega arith
          ]
    ]

misplaced_no : (s z n : ℕ) → 40 ≤ s → s + z ≤ n → is_misplaced (section_at s z) n ≡ false
misplaced_no s z n h k = and_no (ltb 0 z) (ltb s 40 || ltb n (s + z)) (rw (le-ltb s 40 h, le-ltb n (s + z) k))

overlaps_no : (s z r y : ℕ) → s + z ≤ r → overlaps (section_at s z) (section_at r y) ≡ false
overlaps_no s z r y h = and_no (ltb 0 z && ltb 0 y && ltb s (r + y)) (ltb r (s + z)) (le-ltb r (s + z) h)

-- ---- what an accepted tape's tests say

row-passed : (d u : Bool) → ◌≡◌ {A = ℕ} (pick d 60 (pick u 61 0)) 0 → (d ≡ false) × (u ≡ false)
row-passed true u h = absurd (omega arith)
row-passed false true h = absurd (omega arith)
row-passed false false h = (refl, refl)

pub record Sound (t : List ℕ) : Type 0 where
  pub least : 40 ≤ length t
  pub most : length t ≤ 65_535
  pub legs : (header_of t).leg_count * 24 ≤ length t - (header_of t).leg_offset
  pub messages : (header_of t).message_count * 36 ≤ length t - (header_of t).message_offset
  pub room : 40 + (header_of t).leg_count * 24 + (header_of t).message_count * 36 ≤ length t
  pub kinds : known_kinds (header_of t).message_count (drop (header_of t).message_offset t) ≡ true

inside : (s z n : ℕ) → is_misplaced (section_at s z) n ≡ false → z ≤ n - s
inside s z n h =
    elim (dec_lt 0 z) [
      | yes l ↦ omega (arith, placed s z n h l)
      | no l ↦ omega arith
    ]

pub sound : (t : List ℕ) → tape_refusal t ≡ 0 → Sound t
unfolding tape_refusal
sound t h =
    let p : (is_damaged t ≡ false) × (has_unknown_kind t ≡ false) = row-passed (is_damaged t) (has_unknown_kind t) h in
    let n : ℕ = length t in
    let e : Header = header_of t in
    let a : Bool = not (between 40 n 65_535) in
    let b : Bool = is_misplaced (leg_section e) n in
    let c : Bool = is_misplaced (message_section e) n in
    let d : Bool = overlaps (leg_section e) (message_section e) in
    let o : ((a || b || c) ≡ false) × (d ≡ false) = or_no (a || b || c) d p.0 in
    let q : ((a || b) ≡ false) × (c ≡ false) = or_no (a || b) c o.0 in
    let r : (a ≡ false) × (b ≡ false) = or_no a b q.0 in
    let k : between 40 n 65_535 ≡ true = not_true (between 40 n 65_535) r.0 in
    record {
      least = between_low 40 n 65_535 k;
      most = between_high 40 n 65_535 k;
      legs = inside e.leg_offset (e.leg_count * 24) n r.1;
      messages = inside e.message_offset (e.message_count * 36) n q.1;
      room = within e.leg_offset (e.leg_count * 24) e.message_offset (e.message_count * 36) n (between_low 40 n 65_535 k) r.1 q.1 o.1;
      kinds = not_true (known_kinds e.message_count (drop e.message_offset t)) p.1;
    }

-- a header whose sections stand one after another from 40 to the end
pub whole-fits : (e : Header) (n legs messages : ℕ) → e.leg_count ≡ legs → e.leg_offset ≡ 40 → e.message_count ≡ messages → e.message_offset ≡ 40 + legs * 24 → n ≡ 40 + legs * 24 + messages * 36
    → n ≤ 65_535 → (not (between 40 n 65_535) || is_misplaced (leg_section e) n || is_misplaced (message_section e) n || overlaps (leg_section e) (message_section e)) ≡ false
whole-fits e n legs messages a b c d k h =
    let z : e.leg_count * 24 ≡ legs * 24 = ap (λ (x : ℕ). x * 24) a in
    let y : e.message_count * 36 ≡ messages * 36 = ap (λ (x : ℕ). x * 36) c in
    rw (
      misplaced_no e.leg_offset (e.leg_count * 24) n (omega arith) (omega arith),
      misplaced_no e.message_offset (e.message_count * 36) n (omega arith) (omega arith),
      overlaps_no e.leg_offset (e.leg_count * 24) e.message_offset (e.message_count * 36) (omega arith),
      le-leb 40 n (omega arith),
      le-leb n 65_535 h,
    )
