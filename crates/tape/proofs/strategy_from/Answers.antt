use mathlib.Core.Path.{ap}
use Rattle.rules.specs.Tape.{Header}
use Rattle.tape.proofs.StrategyLaws.{four_legs}
use Rattle.tape.proofs.strategy_from.Goals as goal

pub returns : goal.returns
returns c =
    let a = c.args in
    record {
      count = ap (λ (h : Header). h.leg_count) c.header_of-h.ensures;
      settings = ap (λ (h : Header). h.settings) c.header_of-h.ensures;
      legs = four_legs _ a.t.now a.at c.leg_at.ensures c.leg_at-2.ensures c.leg_at-3.ensures c.leg_at-4.ensures;
    }
