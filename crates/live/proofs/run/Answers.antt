use mathlib.Core.Path.{sym, ◌∙◌}
use borrow.Author.Rules.{rules}
use Rattle.rules.proofs.TestLaws.{and_right}
use Rattle.types.specs.Refusals.{number_in}
use Rattle.types.proofs.RefusalLaws.{let_pass}
use Rattle.live.proofs.LiveLaws.{run-opened, run-over}
use Rattle.live.proofs.run.Goals as goal

pub returns-then-said-is_ok : goal.returns-then-said-is_ok
returns-then-said-is_ok c =
    let a = c.args in
    let o = c.open-opened.result in
    run-opened a.longs.now a.words.now c.open-opened.new.longs c.open-opened.new.words a.head.now (number_in o) (search rules) c.open-opened.ensures c.serve.new.longs c.serve.new.words c.serve.result
    (let_pass o (sym c.is_ok.ensures.value ∙ and_right c.say_opening-said.result c.is_ok.result c.if-said-is_ok.true)) c.serve.ensures

pub returns : goal.returns
returns c =
    let a = c.args in
    run-over a.longs.now a.words.now c.open-opened.new.longs c.open-opened.new.words a.head.now (number_in c.open-opened.result) (search rules) c.open-opened.ensures
