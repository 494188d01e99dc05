use Prim.Native.Nat.{◌+◌}
use mathlib.Core.Path.{sym, ap, ◌∙◌}
use lib.Seq.{sets}
use Rattle.types.specs.View.{message_of}
use Rattle.fills.proofs.ListLaws.{sets_more}
use Rattle.fills.proofs.AppliedLaws.{stored_in, stored_more, stored_none, stored_first, numbers_fit, is-applied}
use Rattle.fills.proofs.apply.Goals as goal

pub loop-i-init : goal.loop-i-init
loop-i-init c = stored_first c.step-a.new.list c.args.fills.now c.step-a.result.count c.step-a.ensures.inside.0

pub loop-i-preserved : goal.loop-i-preserved
loop-i-preserved c =
    sets_more c.loop-i.fills c.loop-i.i c.fill_at.result (stored_in c.step-a.new.list (c.loop-i.i + 1) c.step-a.result.count) (stored_in c.step-a.new.list c.loop-i.i c.step-a.result.count) (stored_more c.step-a.new.list c.loop-i.i c.step-a.result.count c.fill_at.result c.loop-i-test.true (numbers_fit c.args.longs.now c.args.words.now c.args.list.now c.args.fills.now (message_of c.args.m) c.step-a.result c.step-a.new.longs c.step-a.new.words c.step-a.new.list c.step-a.ensures) c.fill_at.ensures) ∙ c.loop-i.invariant

pub returns : goal.returns
returns c =
    is-applied c.args.longs.now c.args.words.now c.args.list.now c.args.fills.now (message_of c.args.m) c.step-a.result c.step-a.new.longs c.step-a.new.words c.step-a.new.list c.step-a.ensures c.loop-i.fills c.loop-i.auto.fills (sym (ap (sets c.loop-i.fills c.loop-i.i) (stored_none c.step-a.new.list c.loop-i.i c.step-a.result.count c.loop-i-test.false)) ∙ c.loop-i.invariant)
