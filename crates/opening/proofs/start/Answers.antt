-- Region after region; what they hold then is the state that the opening begins with.
use mathlib.Core.Path.{ap, ap₂, ◌∙◌}
use mathlib.Core.List.{List}
use native.Mathlib.Omega.{arith}
use Prim.Native.Nat.{ℕ}
use Rattle.state.specs.View.{state_of}
use Rattle.state.specs.Stores.{stores}
use Rattle.opening.specs.Stored.{setting_stores}
use Rattle.opening.proofs.StartLaws.{accepted, start_is}
use borrow.Author.Rules.{rules}
use Rattle.opening.proofs.start.Goals as goal

pub put_counts-requires : goal.put_counts-requires
put_counts-requires c =
    (accepted c.args.o c.requires).few

pub returns : goal.returns
returns c =
    let o = c.args.o in
    ap₂ state_of c.put_clock.ensures (c.put_settings.ensures ∙ ap (λ (l : List ℕ). stores l (setting_stores o.settings)) c.put_counts.ensures)
    ∙ start_is c.args.longs.now c.put_legs.new.words c.clear_quotes.new.words o ((omega arith), search rules) (accepted o c.requires) c.put_legs.ensures c.clear_quotes.ensures
