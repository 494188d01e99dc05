use mathlib.Core.Path.{refl}
use Prim.Native.Nat.{◌-◌}
use native.Mathlib.Omega.{arith}
use Rattle.legprices.proofs.MadeLaws.{read_on, read_all, read_cost, changed-none, changed-more}
use Rattle.legprices.proofs.sums.smear.Goals as goal

pub loop-k-init : goal.loop-k-init
loop-k-init c =
    let a = c.args in
    (omega arith, omega arith, changed-none a.words a.base a.bits.now a.ratio (omega arith))

pub overflow_sub-next : goal.overflow_sub-next
overflow_sub-next c =
    (read_on c.args.width c.loop-k.k c.loop-k.h (omega arith) c.loop-k.invariant.1).0

pub overflow_mul-ratio : goal.overflow_mul-ratio
overflow_mul-ratio c =
    record { fits = omega (arith, read_cost c.args.ratio c.args.width (c.loop-k.k - 1) c.loop-k.h, c.requires) }

pub spread-requires : goal.spread-requires
spread-requires c =
    (c.requires.0, omega (arith, read_cost c.args.ratio c.args.width (c.loop-k.k - 1) c.loop-k.h, c.requires))

pub loop-k-preserved : goal.loop-k-preserved
loop-k-preserved c =
    let k = c.loop-k.k in
    let a = c.args in
    let o = read_on a.width k c.loop-k.h (omega arith) c.loop-k.invariant.1 in
    (omega arith, refl, changed-more a.words a.base a.bits.now a.ratio c.loop-k.h _ _ c.loop-k.bits _ c.size.ensures o.0 o.1 c.loop-k.invariant.2 c.spread.ensures)

pub returns : goal.returns
returns c =
    rw (read_all c.args.width c.loop-k.k c.loop-k.h (omega arith) c.loop-k.invariant.1) at c.loop-k.invariant.2
