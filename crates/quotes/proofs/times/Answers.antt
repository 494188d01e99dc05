use mathlib.Core.Path.{ap₂}
use Prim.Native.Nat.{◌*◌, ◌≤◌}
use native.Mathlib.Nat.{mul-le-mul}
use native.Mathlib.Omega.{arith}
use Rattle.rules.specs.Strategy.{most_ratio}
use Rattle.quotes.specs.Uses.{most_cost}
use Rattle.quotes.proofs.times.Goals as goal

pub overflow_mul-result : goal.overflow_mul-result
overflow_mul-result c =
    let m : c.from.result * c.from-2.result ≤ most_cost = mul-le-mul {n₂ = most_ratio} {m₂ = 4_294_967_295} (omega arith) (omega arith) in
    record { fits = omega arith }

pub returns : goal.returns
returns c = (ap₂ ◌*◌ c.from.ensures c.from-2.ensures, mul-le-mul {n₂ = most_ratio} {m₂ = 4_294_967_295} (omega arith) (omega arith))
