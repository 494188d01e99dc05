-- The records of a list, put one after another.
use mathlib.Core.Path.{◌≡◌, refl, ap, sym, ◌∙◌}
use mathlib.Core.List.{List, [], ◌∷◌, ◌++◌, append-nil}
use Prim.Native.Nat.{ℕ, ◌+◌, ◌*◌, ◌/◌, ◌≤◌, min}
use native.Mathlib.Omega.{arith}
use borrow.Author.Tests.{lt-ltb}
use lib.ListN.{length}
use Rattle.rules.specs.Refusals.{least_room}
use Rattle.rules.specs.Turn.{Fill}
use Rattle.rules.specs.Print.{fill_line, fill_lines}
use Rattle.types.specs.View.{from}
use Rattle.types.proofs.TableLaws.{from_end, from_last}
use Rattle.state.proofs.TableLaws.{from-same}
use Rattle.records.specs.Records.{width, record_in, record_at}
use Rattle.average.specs.Sums.{first_records}
use Rattle.text.specs.Text.{line_text, lines_text}
use Rattle.text.proofs.PutsLaws.{lines_append}

fills_append : (fs gs : List Fill) → fill_lines (fs ++ gs) ≡ fill_lines fs ++ fill_lines gs
fills_append [] gs = refl
fills_append (f ∷ fs) gs = ap (λ ls. fill_line f ∷ ls) (fills_append fs gs)

-- the bytes of the first records of a list
abbrev pub fills_text : List ℕ → ℕ → List ℕ
fills_text l i = lines_text (fill_lines (from (record_at l) 0 i))

pub no_fills : (l : List ℕ) → fills_text l 0 ≡ []
no_fills l = ap (λ (fs : List Fill). lines_text (fill_lines fs)) (from_end (record_at l) 0 0 (omega arith))

pub one-fill : (l : List ℕ) (i : ℕ) (f : Fill) → f ≡ record_at l i → fills_text l (i + 1) ≡ fills_text l i ++ line_text (fill_line f)
one-fill l i f e =
    let fs : List Fill = from (record_at l) 0 i in
    ap (λ (fs : List Fill). lines_text (fill_lines fs)) (from_last (record_at l) i)
    ∙ ap lines_text (fills_append fs (record_at l i ∷ []))
    ∙ lines_append (fill_lines fs) (fill_line (record_at l i) ∷ [])
    ∙ ap (λ (t : List ℕ). fills_text l i ++ t) (append-nil (line_text (fill_line (record_at l i))))
    ∙ ap (λ (x : Fill). fills_text l i ++ line_text (fill_line x)) (sym e)

-- ---- records that the list has

pub records_known : (l : List ℕ) (n : ℕ) → n ≤ least_room → n * width ≤ length l → first_records l n ≡ from (record_in l) 0 n
records_known l n m h =
    let z : min n least_room ≡ n = omega arith in
    rw z (from-same (record_at l) (record_in l) 0 n (λ j a b. rw (lt-ltb j (length l / width) (omega arith)) refl))
