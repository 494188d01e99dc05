use mathlib.Core.Path.{ap}
use mathlib.Core.List.{◌++◌}
use Prim.Native.Nat.{ℕ, ◌+◌}
use native.Mathlib.Omega.{arith}
use lib.ListN.{drop}
use Rattle.rules.specs.Spelling.{meant_from, messages_form}
use Rattle.tape.specs.View.{header_of}
use Rattle.text.proofs.WroteLaws.{join, same}
use Rattle.form.specs.Writes.{bytes_at, counts_in}
use Rattle.form.proofs.put_form.Goals as goal

pub put_messages-requires : goal.put_messages-requires
put_messages-requires c =
    let h = c.requires.1 in (
      omega (arith, c.requires.0, c.legs_size-legs.ensures, c.put_counts-end.ensures.1, c.put_counts-end.ensures.2, c.put_part-end.ensures.1, c.put_part-end.ensures.2, c.put_part-end-2.ensures.1, c.put_part-end-2.ensures.2),
      omega (arith, h.messages),
      c.requires.2,
    )

pub returns : goal.returns
returns c =
    let a = c.args in
    let t = a.tape.now in
    let h = header_of a.h in (
      same (ap (λ (n : ℕ). counts_in t (40 + n) ++ (bytes_at 32 8 t ++ (bytes_at n h.leg_offset t ++ messages_form (meant_from h.message_count (drop h.message_offset t))))) c.legs_size-legs.ensures)
          (join c.put_counts-end.ensures.0 (join c.put_part-end.ensures.0 (join c.put_part-end-2.ensures.0 c.put_messages.ensures.0))),
      omega (arith, c.put_counts-end.ensures.1, c.put_part-end.ensures.1, c.put_part-end-2.ensures.1, c.put_messages.ensures.1),
      omega (arith, c.legs_size-legs.ensures, c.put_counts-end.ensures.2, c.put_part-end.ensures.2, c.put_part-end-2.ensures.2, c.put_messages.ensures.2),
    )
