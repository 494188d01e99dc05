-- The kinds of message records, one after another, and the row "Tape".
use mathlib.Core.Path.{◌≡◌, ap, ◌∙◌}
use mathlib.Core.Bool.{Bool, ◌&&◌, not}
use mathlib.Core.List.{List}
use Prim.Native.Nat.{ℕ, suc, ◌+◌, ◌-◌, ◌<◌}
use native.Mathlib.Omega.{arith}
use lib.ListN.{get_or, drop}
use lib.Seq.{get_or-drop, drop-drop}
use Rattle.rules.specs.Basics.{pick}
use Rattle.rules.specs.Tape.{Header, header_of, is_damaged, is_kind, known_kinds, message_bytes, tape_refusal}

-- the first kind, and those behind it
pub known_next : (t : List ℕ) (at n : ℕ) → 0 < n → known_kinds n (drop at t) ≡ (is_kind (get_or t at 0) && known_kinds (n - 1) (drop (at + message_bytes) t))
known_next t at n h =
    let q : n ≡ suc (n - 1) = omega arith in
    let z : at + 0 ≡ at = omega arith in
    ap (λ (k : ℕ). known_kinds k (drop at t)) q ∙ rw (get_or-drop at t 0 0, drop-drop message_bytes at t, z)

-- the kinds of the message records that a header tells of
abbrev pub known_in : List ℕ → Header → Bool
known_in t h = known_kinds h.message_count (drop h.message_offset t)

-- "First that applies": 60, then 61
pub refusal_is : (t : List ℕ) (damaged known : Bool) → is_damaged t ≡ damaged → known_in t (header_of t) ≡ known → pick damaged 60 (pick (not known) 61 0) ≡ tape_refusal t
unfolding tape_refusal
refusal_is t damaged known d k = rw (← d, ← k)
