-- The numbers of document 01's table.
use Rattle.std.specs.Prelude.{ℕ, Result, Ok, Err}
use Rattle.types.specs.declared.Refusal.{Refusal}
use Rattle.types.specs.declared.Refusal.TheVariants.{LegCount, Symbol, Date, Roots, Ratios, SideOrMpv, Setting, ShortList, Time, NextNumber, Deadline, NoLeg, PriceOrSize, Crossed, OrderFields, OrderId, FullOrders, Filter, NoAuction, ResponseFields, ResponseId, FullResponses, NoOrder, OpenUnits, Damaged, Kind, ShortOutput}

-- the number of a row
abbrev pub number_of : Refusal → ℕ
number_of LegCount = 1
number_of Symbol = 2
number_of Date = 3
number_of Roots = 4
number_of Ratios = 5
number_of SideOrMpv = 6
number_of Setting = 7
number_of ShortList = 10
number_of Time = 11
number_of NextNumber = 12
number_of Deadline = 13
number_of NoLeg = 20
number_of PriceOrSize = 21
number_of Crossed = 22
number_of OrderFields = 30
number_of OrderId = 31
number_of FullOrders = 32
number_of Filter = 33
number_of NoAuction = 40
number_of ResponseFields = 41
number_of ResponseId = 42
number_of FullResponses = 43
number_of NoOrder = 50
number_of OpenUnits = 71
number_of Damaged = 60
number_of Kind = 61
number_of ShortOutput = 70

-- that of a result, 0 where nothing turns back
abbrev pub number_in : {A : Type 0} → Result A Refusal → ℕ
number_in (Ok a) = 0
number_in (Err r) = number_of r
