use mathlib.Core.Path.{◌≡◌, ap}
use mathlib.Core.Bool.{not}
use Prim.Native.Nat.{◌+◌}
use native.Mathlib.Omega.{arith}
use lib.ListN.{get_or}
use Rattle.rules.specs.Book.{is_response}
use Rattle.types.specs.View.{stage_of}
use Rattle.state.specs.Layout as L
use Rattle.book.proofs.PassLaws.{flag_more}
use borrow.Author.Rules.{rules}
use Rattle.book.proofs.changes.orders.Goals as goal

pub loop-k-init : goal.loop-k-init
loop-k-init c = (omega arith, c.open_count-m.ensures, search rules, λ i h. absurd (omega arith))

pub loop-k-preserved : goal.loop-k-preserved
loop-k-preserved c =
    let w = c.args.words.now in
    let v = c.loop-k.invariant in
    (omega arith, v.1, search rules, flag_more c.loop-k.keep c.loop-k.k _ (λ i b. b ≡ not (is_response (stage_of (get_or w (L.stages + i) 0)))) (omega arith) (ap not c.is_response.ensures) v.3)

pub returns : goal.returns
returns c i h = c.loop-k.invariant.3 i (omega arith)
