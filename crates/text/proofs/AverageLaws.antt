-- The averages of a list's records, put one after another.
use mathlib.Core.Path.{◌≡◌, refl, ap, sym, ◌∙◌, subst}
use mathlib.Core.Bool.{Bool, true, false, not, true≢false}
use mathlib.Core.List.{List, [], ◌∷◌, ◌++◌}
use Prim.Native.Nat.{ℕ, ◌+◌, ◌*◌, ◌≤◌, min}
use native.Mathlib.Omega.{arith}
use lib.IntN.{ℤ}
use lib.ListN.{length, take}
use Rattle.rules.specs.Basics.{pick}
use Rattle.rules.specs.Refusals.{least_room}
use Rattle.rules.specs.Turn.{Fill}
use Rattle.rules.specs.Average.{Average, none, exact, average_for, firsts, OrderAverage, listed, averages_of, averages}
use Rattle.rules.specs.Print.{Line, average_line, fill_lines, average_lines, record_lines}
use Rattle.types.specs.View.{from}
use Rattle.types.proofs.TableLaws.{from_end, from_last}
use Rattle.records.specs.Records.{record_at}
use Rattle.average.specs.Sums.{first_records, named, new_id}
use Rattle.average.proofs.FirstLaws.{firsts_last}
use Rattle.text.specs.Text.{average_text, line_text, lines_text}
use Rattle.text.specs.Averages.{averages_at}
use Rattle.text.specs.Outputs.{most_line, Puts}
use Rattle.text.proofs.PutsLaws.{puts_line, puts_none, lines_append, one_line, lines_then, EachPut}

-- ---- one list of averages, then another

listed-append : (i : ℕ) (a : Average) (xs ys : List OrderAverage) → listed i a (xs ++ ys) ≡ listed i a xs ++ ys
listed-append i none xs ys = refl
listed-append i (exact q r) xs ys = refl

of_append : (fs : List Fill) (is js : List ℕ) → averages_of fs (is ++ js) ≡ averages_of fs is ++ averages_of fs js
of_append fs [] js = refl
of_append fs (i ∷ is) js = ap (listed i (average_for i fs)) (of_append fs is js) ∙ listed-append i (average_for i fs) (averages_of fs is) (averages_of fs js)

lines_of-append : (xs ys : List OrderAverage) → average_lines (xs ++ ys) ≡ average_lines xs ++ average_lines ys
lines_of-append [] ys = refl
lines_of-append (x ∷ xs) ys = ap (λ (ls : List Line). average_line x ∷ ls) (lines_of-append xs ys)

-- ---- the first i records

-- the bytes of the averages of the orders that they name
abbrev pub averages_text : List ℕ → ℕ → ℕ → List ℕ
averages_text l n i = lines_text (average_lines (averages_of (first_records l n) (firsts (from (record_at l) 0 i))))

pub no_averages : (l : List ℕ) (n : ℕ) → averages_text l n 0 ≡ []
no_averages l n = ap (λ (fs : List Fill). lines_text (average_lines (averages_of (first_records l n) (firsts fs)))) (from_end (record_at l) 0 0 (omega arith))

pub averages_more : (l : List ℕ) (n i : ℕ) → averages_text l n (i + 1) ≡ averages_text l n i ++ lines_text (average_lines (averages_at l n i))
averages_more l n i =
    let fs : List Fill = from (record_at l) 0 i in
    let all : List Fill = first_records l n in
    let new : List ℕ = new_id (record_at l i).order fs in
    ap (λ (gs : List Fill). lines_text (average_lines (averages_of all (firsts gs)))) (from_last (record_at l) i)
    ∙ ap (λ (is : List ℕ). lines_text (average_lines (averages_of all is))) (firsts_last fs (record_at l i))
    ∙ ap (λ (xs : List OrderAverage). lines_text (average_lines xs)) (of_append all (firsts fs) new)
    ∙ ap lines_text (lines_of-append (averages_of all (firsts fs)) (averages_of all new))
    ∙ lines_append (average_lines (averages_of all (firsts fs))) (average_lines (averages_of all new))

-- all of them
pub averages_end : (l : List ℕ) (n i : ℕ) (lent : List ℕ) (start at : ℕ) (out : List ℕ) → i ≡ min n least_room → EachPut (averages_text l n) most_line i lent start at out
    → Puts (lines_text (average_lines (averages (first_records l n)))) lent start at out × (length (lines_text (average_lines (averages (first_records l n)))) ≤ most_line * min n least_room)
unfolding averages
averages_end l n i lent start at out e p = let v = rw e at p in (v.puts, v.few)

-- ---- the average at a place

module _ (l : List ℕ) (n j : ℕ) where
  -- whether no record before it names the order of the record there
  abbrev is_first : Bool
  is_first = not (named (record_at l j).order (from (record_at l) 0 j))

  new-not : (b : Bool) → not b ≡ false → averages_of (first_records l n) (pick b [] ((record_at l j).order ∷ [])) ≡ []
  new-not true h = refl
  new-not false h = absurd (true≢false h)

  pub not_first : is_first ≡ false → averages_at l n j ≡ []
  not_first h = new-not (named (record_at l j).order (from (record_at l) 0 j)) h

  pub first_is : (i : ℕ) → is_first ≡ true → i ≡ (record_at l j).order → averages_at l n j ≡ averages_of (first_records l n) (i ∷ [])
  first_is i h e = new (named (record_at l j).order (from (record_at l) 0 j)) h ∙ ap (λ (x : ℕ). averages_of (first_records l n) (x ∷ [])) (sym e)
    where
      new : (b : Bool) → not b ≡ true → averages_of (first_records l n) (pick b [] ((record_at l j).order ∷ [])) ≡ averages_of (first_records l n) ((record_at l j).order ∷ [])
      new true q = absurd (true≢false (sym q))
      new false q = refl

-- the average of an order, as it is told
pub order_is : (l : List ℕ) (n i : ℕ) (a : Average) → a ≡ average_for i (first_records l n) → averages_of (first_records l n) (i ∷ []) ≡ listed i a []
order_is l n i a e = ap (λ (x : Average). listed i x []) (sym e)

-- the same averages
pub same-averages : (xs ys : List OrderAverage) (lent : List ℕ) (at r : ℕ) (out : List ℕ) → xs ≡ ys → Puts (lines_text (average_lines ys)) lent at r out × (length (lines_text (average_lines ys)) ≤ most_line)
    → Puts (lines_text (average_lines xs)) lent at r out × (length (lines_text (average_lines xs)) ≤ most_line)
same-averages xs ys lent at r out e p = rw e p

-- no line
pub no_average : (xs : List OrderAverage) (lent : List ℕ) (at start : ℕ) → xs ≡ [] → start ≡ min at (length lent) → Puts (lines_text (average_lines xs)) lent at start lent × (length (lines_text (average_lines xs)) ≤ most_line)
no_average xs lent at start z e = rw z (puts_none lent at start e, omega arith)

-- one line
pub one_average : (xs : List OrderAverage) (x : OrderAverage) (lent : List ℕ) (at r : ℕ) (out : List ℕ) → xs ≡ x ∷ [] → Puts (line_text (average_line x)) lent at r out × (length (line_text (average_line x)) ≤ most_line)
    → Puts (lines_text (average_lines xs)) lent at r out × (length (lines_text (average_lines xs)) ≤ most_line)
one_average xs x lent at r out z p = rw z (one_line (average_line x) lent at r out most_line p)

-- an average's bytes, from the buffer that they were printed into; its quotient may have been handed on
pub puts_average : (i : ℕ) (z q : ℤ) (r : ℕ) (rest m lent : List ℕ) (n at k : ℕ) (out : List ℕ) → z ≡ q
    → n ≡ length (average_text (record { order = i; quotient = z; remainder = r })) → m ≡ average_text (record { order = i; quotient = z; remainder = r }) ++ rest → n ≤ most_line → Puts (take n m) lent at k out
    → Puts (average_text (record { order = i; quotient = q; remainder = r })) lent at k out × (length (average_text (record { order = i; quotient = q; remainder = r })) ≤ most_line)
puts_average i z q r rest m lent n at k out e a b f p =
    subst (λ (x : ℤ). Puts (average_text (record { order = i; quotient = x; remainder = r })) lent at k out × (length (average_text (record { order = i; quotient = x; remainder = r })) ≤ most_line)) e
    (puts_line (average_text (record { order = i; quotient = z; remainder = r })) rest m lent n at k out a b f p)

-- ---- records, and then their averages

pub records_put : (l : List ℕ) (n m : ℕ) (lent : List ℕ) (at : ℕ) (mid : List ℕ) (end r : ℕ) (out : List ℕ) → m ≡ min n least_room
    → Puts (lines_text (fill_lines (from (record_at l) 0 m))) lent at end mid × (length (lines_text (fill_lines (from (record_at l) 0 m))) ≤ most_line * m)
    → Puts (lines_text (average_lines (averages (first_records l n)))) mid end r out × (length (lines_text (average_lines (averages (first_records l n)))) ≤ most_line * min n least_room)
    → Puts (lines_text (record_lines (first_records l n))) lent at r out × (length (lines_text (record_lines (first_records l n))) ≤ 2 * most_line * min n least_room)
records_put l n m lent at mid end r out e p q =
    let fs : List Fill = first_records l n in
    let v = lines_then (fill_lines fs) (average_lines (averages fs)) (most_line * min n least_room) (most_line * min n least_room) lent at mid end r out (rw e at p) q in
    let few = v.1 in
    (v.0, omega (arith, few))

-- no records
pub no_records : (l : List ℕ) (n : ℕ) (lent : List ℕ) (at start : ℕ) → n ≡ 0 → start ≡ min at (length lent)
    → Puts (lines_text (record_lines (first_records l n))) lent at start lent × (length (lines_text (record_lines (first_records l n))) ≤ 2 * most_line * min n least_room)
unfolding averages
no_records l n lent at start e h =
    let z : first_records l n ≡ [] = rw e (from_end (record_at l) 0 0 (omega arith)) in
    rw z (puts_none lent at start h, omega arith)
