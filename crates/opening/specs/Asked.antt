-- What the table asks of a leg, and of two.
use Rattle.std.specs.Prelude.{Bool, ◌&&◌}
use Rattle.rules.specs.Basics.{between}
use Rattle.rules.specs.Series.{good_symbol, on_third_friday}
use Rattle.rules.specs.Strategy.{Leg, good_side, good_mpv, same_root, other_symbol, near_ratio}
use Rattle.opening.specs.declared.strategy.LegMarks.{LegMarks}
use Rattle.opening.specs.declared.strategy.PairMarks.{PairMarks}

-- number 2
abbrev pub is_good : Leg → Bool
is_good l = good_symbol l.symbol

-- number 3; a date is asked of a good symbol only
abbrev pub is_dated : Leg → Bool
is_dated l = good_symbol l.symbol && on_third_friday l.symbol

-- of number 5
abbrev pub has_ratio : Leg → Bool
has_ratio l = between 1 l.ratio 9

-- number 6
abbrev pub has_sides : Leg → Bool
has_sides l = good_side l.side && good_mpv l.mpv

-- each mark of a leg is what P says of its condition
abbrev pub LegMarked : (Bool → (Leg → Bool) → Type 0) → LegMarks → Type 0
LegMarked P r = P r.symbol is_good × P r.date is_dated × P r.ratio has_ratio × P r.sides has_sides

-- the same of two
abbrev pub PairMarked : (Bool → (Leg → Leg → Bool) → Type 0) → PairMarks → Type 0
PairMarked P r = P r.root same_root × P r.symbol other_symbol × P r.ratio near_ratio
