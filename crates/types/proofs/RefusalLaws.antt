-- The number of a result, row by row.
use mathlib.Core.Path.{◌≡◌, refl, sym, ap}
use mathlib.Core.Bool.{true, true≢false}
use Prim.Native.Nat.{◌<◌}
use native.Mathlib.Omega.{arith}
use Rattle.std.specs.Prelude.{Result, Ok, Err, IsErrAnd, is_ok}
use Rattle.types.specs.declared.Refusal.{Refusal}
use Rattle.types.specs.declared.Refusal.TheVariants.{LegCount, Symbol, Date, Roots, Ratios, SideOrMpv, Setting, ShortList, Time, NextNumber, Deadline, NoLeg, PriceOrSize, Crossed, OrderFields, OrderId, FullOrders, Filter, NoAuction, ResponseFields, ResponseId, FullResponses, NoOrder, OpenUnits, Damaged, Kind, ShortOutput}
use Rattle.types.specs.Refusals.{number_of, number_in}

-- no row has the number 0
pub is_some_number : (r : Refusal) → 0 < number_of r
is_some_number LegCount = omega arith
is_some_number Symbol = omega arith
is_some_number Date = omega arith
is_some_number Roots = omega arith
is_some_number Ratios = omega arith
is_some_number SideOrMpv = omega arith
is_some_number Setting = omega arith
is_some_number ShortList = omega arith
is_some_number Time = omega arith
is_some_number NextNumber = omega arith
is_some_number Deadline = omega arith
is_some_number NoLeg = omega arith
is_some_number PriceOrSize = omega arith
is_some_number Crossed = omega arith
is_some_number OrderFields = omega arith
is_some_number OrderId = omega arith
is_some_number FullOrders = omega arith
is_some_number Filter = omega arith
is_some_number NoAuction = omega arith
is_some_number ResponseFields = omega arith
is_some_number ResponseId = omega arith
is_some_number FullResponses = omega arith
is_some_number NoOrder = omega arith
is_some_number OpenUnits = omega arith
is_some_number Damaged = omega arith
is_some_number Kind = omega arith
is_some_number ShortOutput = omega arith

-- an error handed on
pub handed_on : {A : Type 0} (r : Result A Refusal) (e : Refusal) → IsErrAnd r (λ f. f ≡ e) → number_in r ≡ number_of e
handed_on (Ok a) e h = absurd h
handed_on (Err f) e h = ap number_of h

-- nothing turns back
pub let_pass : {A : Type 0} (r : Result A Refusal) → is_ok r ≡ true → number_in r ≡ 0
let_pass (Ok a) h = refl
let_pass (Err e) h = absurd (true≢false (sym h))
