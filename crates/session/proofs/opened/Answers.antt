use mathlib.Core.Path.{sym}
use native.Mathlib.Omega.{arith}
use Rattle.types.specs.View.{opening_of}
use Rattle.tape.proofs.StrategyLaws.{reads_tape}
use Rattle.session.proofs.TapeLaws.{turned-back, by-opening}
use Rattle.session.proofs.opened.Goals as goal

pub returns-in_err-refusal : goal.returns-in_err-refusal
returns-in_err-refusal c =
    let a = c.args in
    turned-back a.longs.now a.words.now a.tape.now _ _ c.from_residual.ensures.1 c.in_err-refusal.ensures

pub returns : goal.returns
returns c =
    let a = c.args in
    by-opening a.longs.now a.words.now a.tape.now (opening_of c.strategy_of.result) c.open.new.longs c.open.new.words _ (omega arith, omega arith)
    (sym c.in_ok-refusal.ensures) (reads_tape _ _ c.strategy_of.ensures) c.open.ensures
