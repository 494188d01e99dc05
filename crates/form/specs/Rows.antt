-- M-100 byte by byte: the most that each byte of a message record may be in the form.
use Rattle.std.specs.Prelude.{Bool, true, List, [], ◌∷◌, ◌++◌, ℕ, zero, suc, ◌+◌, ◌-◌, ◌*◌, min, eqb, ltb, get_or}
use Rattle.rules.specs.Basics.{pick}
use Rattle.rules.specs.Tape.{message_bytes, Uses, uses_of}
use Rattle.types.specs.View.{upto}

-- a byte of a field: any where it is used, 0 where it is not
abbrev pub full : Bool → ℕ
full used = pick used 255 0

-- the fourth byte: an order's wish is 0 or 1
abbrev pub full_fourth : ℕ → Bool → ℕ
full_fourth kind used = pick (eqb kind 3) (pick used 1 0) (full used)

-- the four bytes of a number
abbrev pub four : Bool → List ℕ
four used = full used ∷ full used ∷ full used ∷ full used ∷ []

-- kind, side, account, wish or leg
abbrev pub front_row : ℕ → Uses → List ℕ
front_row kind u = 255 ∷ full u.side ∷ full u.account ∷ full_fourth kind u.wish_or_leg ∷ []

-- the time, which all kinds use
abbrev pub time_row : List ℕ
time_row = four true ++ four true

-- a record's bytes by a row of flags
abbrev pub row_by : ℕ → Uses → List ℕ
row_by kind u = front_row kind u ++ ((four u.id ++ (four u.participant ++ four u.units)) ++ ((four u.price ++ (four u.ask ++ four u.ask_size)) ++ time_row))

-- a kind's
abbrev pub row_of : ℕ → List ℕ
row_of kind = row_by kind (uses_of kind)

-- those of n kinds, one after another
abbrev pub rows_from : ℕ → ℕ → List ℕ
rows_from zero kind = []
rows_from (suc n) kind = row_of kind ++ rows_from n (kind + 1)

-- where a kind's row starts among those of 1 to 8; one above 8 uses nothing, as 7
abbrev pub row_at : ℕ → ℕ
row_at kind = (pick (ltb 8 kind) 7 kind - 1) * message_bytes

-- n bytes from an offset on, or the most that each may be
abbrev pub lessers : ℕ → ℕ → List ℕ → ℕ → List ℕ → List ℕ
lessers n at t row rows = upto (λ i. min (get_or t (at + i) 0) (get_or rows (row + i) 0)) 0 n
