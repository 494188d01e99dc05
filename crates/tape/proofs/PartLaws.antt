-- The part of a tape that starts at an offset, and the messages from there on.
use mathlib.Core.Path.{◌≡◌, sym, ap, ◌∙◌}
use mathlib.Core.List.{List, ◌∷◌}
use Prim.Native.Nat.{ℕ, suc, ◌+◌, ◌-◌, min}
use native.Mathlib.Decide.{dec_le}
use native.Mathlib.Omega.{arith}
use lib.ListN.{length, take, drop, length-drop, drop_of_length-le}
use lib.Seq.{take_all, drop-drop}
use Rattle.rules.specs.Tape.{message_bytes, message_of, messages_from}
use Rattle.tape.specs.View.{offset_after}

-- past the end there is nothing, as at the end
drop_least : (t : List ℕ) (at : ℕ) → drop (min at (length t)) t ≡ drop at t
drop_least t at =
    elim (dec_le at (length t)) [
      | yes h ↦ let q : min at (length t) ≡ at = omega arith in rw q
      | no h ↦ drop_of_length-le t {i = min at (length t)} (omega arith) ∙ sym (drop_of_length-le t {i = at} (omega arith))
    ]

-- the part that is lent from an offset, the end at the latest
pub part_at : (t : List ℕ) (at start : ℕ) → start ≡ min at (length t) → take (length t - start) (drop start t) ≡ drop at t
part_at t at start e =
    take_all (length t - start) (drop start t) (simp length-drop (omega arith)) ∙ ap (λ (k : ℕ). drop k t) e ∙ drop_least t at

-- the message at an offset, and those behind it
pub messages_next : (t : List ℕ) (at n : ℕ) → messages_from (suc n) (drop at t) ≡ message_of (drop at t) ∷ messages_from n (drop (offset_after t at) t)
messages_next t at n = ap (λ (p : List ℕ). message_of (drop at t) ∷ messages_from n p) (drop-drop message_bytes at t ∙ sym (drop_least t (at + message_bytes)))
