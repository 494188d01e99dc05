-- A row of the table by its test, and how many legs there are.
use mathlib.Core.Path.{◌≡◌, sym, ap, ◌∙◌}
use mathlib.Core.Bool.{Bool, not}
use mathlib.Core.List.{List, ◌∷◌}
use Prim.Native.Nat.{ℕ}
use native.Mathlib.Omega.{arith}
use lib.ListN.{length}
use Rattle.rules.specs.Basics.{pick, Rule, rule, first_of}
use Rattle.types.specs.View.{leg_at, opening_of}
use Rattle.types.specs.declared.Opening.{Opening}
use Rattle.types.proofs.TableLaws.{from-length}

-- a row that applies where x fails, and the code's answer r for x
pub row_at : (n : ℕ) (rs : List Rule) (t : Bool) {r x : Bool} → r ≡ x → not r ≡ t → first_of (rule n (not x) ∷ rs) ≡ pick t n (first_of rs)
row_at n rs t e h = ap (λ (b : Bool). pick b n (first_of rs)) (sym (ap not e) ∙ h)

pub legs_count : (o : Opening) → length (opening_of o).legs ≡ o.count
legs_count o = omega (arith, from-length (leg_at o) 0 o.count)
