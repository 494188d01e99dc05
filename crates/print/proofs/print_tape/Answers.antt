use mathlib.Core.Path.{◌≡◌, ap, sym}
use native.Mathlib.Omega.{arith}
use lib.ListN.{length, length-append, drop}
use lib.Seq.{length-take-le}
use Rattle.rules.specs.Tape.{messages_from}
use Rattle.rules.specs.Print.{title_line, lines_from}
use Rattle.types.specs.Refusals.{number_of}
use Rattle.state.specs.View.{state_of}
use Rattle.text.specs.Text.{line_text, lines_text}
use Rattle.text.proofs.PutsLaws.{puts_room}
use Rattle.session.proofs.TapeLaws.{back-text, read-text}
use Rattle.print.proofs.PageLaws.{handed}
use Rattle.print.proofs.print_tape.Goals as goal

pub returns-in-Ok : goal.returns-in-Ok
returns-in-Ok c =
    let tape = c.args.tape.now in
    let b = c.in-Ok.b in
    let l = c.begin.new.longs in
    let w = c.begin.new.words in
    let all = ap length (read-text _ _ tape l w b c.in-Ok.ensures) in
    let two = length-append (line_text title_line) (lines_text (lines_from 1 (state_of l w) (messages_from b.count (drop b.at tape)))) in
    let r = c.print_messages.ensures in
    omega (arith, all, two, r)

pub slice_bounds-page-end : goal.slice_bounds-page-end
slice_bounds-page-end c = puts_room _ _ _ _ _ c.put_refused-n.ensures.0

pub slice_bounds-hand_over-end : goal.slice_bounds-hand_over-end
slice_bounds-hand_over-end c = sym (length-take-le _ _ (puts_room _ _ _ _ _ c.put_refused-n.ensures.0))

pub returns-in-Err : goal.returns-in-Err
returns-in-Err c =
    let tape = c.args.tape.now in
    let e : c.from.result ≡ number_of c.in-Err.back.row = c.from.ensures in
    let all = ap length (back-text _ _ tape c.begin.new.longs c.begin.new.words c.in-Err.back c.in-Err.ensures) in
    let l = rw e at c.put_refused-n.ensures in
    let end = l.0.end in
    let r = handed _ _ _ _ _ _ _ l.0 c.hand_over-h.ensures in
    omega (arith, all, end, l.1, r)
