use Rattle.types.specs.declared.Cause.TheVariants.{Time, Order, Legs, Cancel}
use Rattle.text.proofs.AnswerLaws.{put_end}
use Rattle.text.proofs.put_ended.Goals as goal

pub returns-in-Time : goal.returns-in-Time
returns-in-Time c = put_end _ Time _ c.args.out.now _ _ c.in-Time.is c.put_line.ensures

pub returns-in-Order : goal.returns-in-Order
returns-in-Order c = put_end _ Order _ c.args.out.now _ _ c.in-Order.is c.put_line-in-Order.ensures

pub returns-in-Legs : goal.returns-in-Legs
returns-in-Legs c = put_end _ Legs _ c.args.out.now _ _ c.in-Legs.is c.put_line-in-Legs.ensures

pub returns-in-Cancel : goal.returns-in-Cancel
returns-in-Cancel c = put_end _ Cancel _ c.args.out.now _ _ c.in-Cancel.is c.put_line-in-Cancel.ensures
