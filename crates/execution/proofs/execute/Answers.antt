use mathlib.Core.Path.{refl}
use Rattle.types.specs.View.{derived_of}
use Rattle.execution.specs.Slots.{rules_mode}
use Rattle.execution.proofs.ExecuteLaws.{contra_is, none_at, executed_goes, gives}
use Rattle.execution.proofs.execute.Goals as goal

pub planned-t-requires : goal.planned-t-requires
planned-t-requires c =
    (c.requires, (refl, λ s. none_at 66 s), contra_is c.args.longs.now c.args.words.now c.args.k (derived_of c.derived-d.result) c.is_set-buy.result c.is_set-buy.ensures (c.derived-d.ensures.0 c.args.longs.now) c.derived-d.ensures.1)

pub applied-requires : goal.applied-requires
applied-requires c =
    let a = c.args in (c.requires, contra_is c.args.longs.now c.args.words.now c.args.k (derived_of c.derived-d.result) c.is_set-buy.result c.is_set-buy.ensures (c.derived-d.ensures.0 c.args.longs.now) c.derived-d.ensures.1, gives (rules_mode a.mode) a.longs.now a.words.now a.k c.planned-t.new.gave c.planned-t.result.units a.list.now a.at c.planned-t.new.list c.planned-t.result.count c.planned-t.ensures)

pub returns : goal.returns
returns c =
    let a = c.args in
    executed_goes (rules_mode a.mode) a.longs.now a.words.now a.list.now a.at a.k c.applied.new.longs c.applied.new.words c.planned-t.new.list c.book.new.list c.planned-t.result.count c.planned-t.new.gave c.planned-t.result.units c.is_set-buy.result
    c.planned-t.ensures c.is_set-buy.ensures c.book.ensures c.applied.ensures
