use mathlib.Core.Path.{◌≡◌, sym, ap, ◌∙◌}
use mathlib.Core.Bool.{Bool, ◌&&◌}
use Prim.Native.Nat.{ℕ, ◌+◌, ◌-◌, ◌*◌}
use native.Mathlib.Omega.{arith}
use lib.ListN.{get_or, drop}
use Rattle.rules.specs.Tape.{is_kind, known_kinds, message_bytes}
use Rattle.tape.proofs.KindLaws.{known_next}
use Rattle.tape.proofs.known_kinds.Goals as goal

pub returns-then-not-is_kind : goal.returns-then-not-is_kind
returns-then-not-is_kind c =
    let a = c.args in
    let t = a.t.now in
    let i = c.loop-i.i in
    let at = a.offset + 36 * i in
    let z : a.offset + i * 36 ≡ at = omega arith in
    let e = sym (c.is_kind.ensures ∙ ap is_kind (c.byte_at.ensures ∙ ap (λ (k : ℕ). get_or t k 0) z)) ∙ c.if-not-is_kind.true in
    sym (sym c.loop-i.invariant.1 ∙ known_next t at (a.count - i) (omega arith) ∙ ap (λ (b : Bool). b && known_kinds (a.count - i - 1) (drop (at + message_bytes) t)) e)

pub loop-i-preserved : goal.loop-i-preserved
loop-i-preserved c =
    let a = c.args in
    let t = a.t.now in
    let i = c.loop-i.i in
    let at = a.offset + 36 * i in
    let z : a.offset + i * 36 ≡ at = omega arith in
    let e = sym (c.is_kind.ensures ∙ ap is_kind (c.byte_at.ensures ∙ ap (λ (k : ℕ). get_or t k 0) z)) ∙ c.if-not-is_kind.false in
    let n : a.count - (i + 1) ≡ a.count - i - 1 = omega arith in
    let y : a.offset + 36 * (i + 1) ≡ at + message_bytes = omega arith in
    (omega arith, rw (n, y) (sym (known_next t at (a.count - i) (omega arith) ∙ ap (λ (b : Bool). b && known_kinds (a.count - i - 1) (drop (at + message_bytes) t)) e) ∙ c.loop-i.invariant.1))
