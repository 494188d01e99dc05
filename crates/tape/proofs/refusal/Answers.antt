use mathlib.Core.Path.{refl, sym, ap, ◌∙◌}
use mathlib.Core.Bool.{true, false}
use Rattle.tape.proofs.KindLaws.{known_in, refusal_is}
use Rattle.tape.proofs.refusal.Goals as goal

pub returns-then-is_damaged : goal.returns-then-is_damaged
returns-then-is_damaged c =
    let t = c.args.t.now in
    refusal_is t true _ (sym c.is_damaged.ensures ∙ c.if-is_damaged.true) refl

pub returns-then-known : goal.returns-then-known
returns-then-known c =
    let t = c.args.t.now in
    refusal_is t false true (sym c.is_damaged.ensures ∙ c.if-is_damaged.false) (sym (c.known_kinds-known.ensures ∙ ap (known_in t) c.header_of-h.ensures) ∙ c.if-known.true)

pub returns-else-known : goal.returns-else-known
returns-else-known c =
    let t = c.args.t.now in
    refusal_is t false false (sym c.is_damaged.ensures ∙ c.if-is_damaged.false) (sym (c.known_kinds-known.ensures ∙ ap (known_in t) c.header_of-h.ensures) ∙ c.if-known.false)
