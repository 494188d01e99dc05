-- The leg prices of a list's records, put behind each of them.
use mathlib.Core.Path.{◌≡◌, refl, ap, ap₂, sym, ◌∙◌}
use mathlib.Core.Bool.{Bool, true, false}
use mathlib.Core.List.{List, [], ◌∷◌, ◌++◌, append-nil, append_assoc, map}
use Prim.Native.Nat.{ℕ, suc, ◌+◌, ◌-◌, ◌*◌, ◌/◌, ◌≤◌, ◌<◌, min}
use native.Mathlib.Omega.{arith}
use borrow.Author.Tests.{lt-ltb}
use lib.Dec.{eqb, ltb}
use lib.ListN.{length, length-take, take, get_or}
use lib.Seq.{take-suc}
use Rattle.rules.specs.Basics.{pick}
use Rattle.rules.specs.Refusals.{least_room}
use Rattle.rules.specs.Turn.{Fill}
use Rattle.rules.specs.LegPrices.{LegPrices, unpriced, priced}
use Rattle.rules.specs.Average.{averages}
use Rattle.rules.specs.Print.{Line, fill_line, legs_line, average_lines, priced_lines, live_lines}
use Rattle.types.specs.declared.Fill.{Fill as Stored}
use Rattle.types.specs.View.{from, leg_prices_of, prices_of, held_legs, held_prices}
use Rattle.types.proofs.TableLaws.{from_end, from_last, from-length}
use Rattle.state.proofs.TableLaws.{from-same}
use Rattle.records.specs.Records.{width, record_at, prices_from, prices_in, prices_at, Holds}
use Rattle.average.specs.Sums.{first_records}
use Rattle.text.specs.Text.{digits, after, spaced, legs_text, line_text, lines_text}
use Rattle.text.specs.Ascii.{ascii}
use Rattle.text.proofs.SetsLaws.{take_least}
use Rattle.text.specs.Prices.{first_prices}
use Rattle.text.specs.Outputs.{most_line, Puts}
use Rattle.text.proofs.PutsLaws.{puts_none, lines_append, lines_then, one_line}

-- ---- prices of a line

spaced-append : (ms ns : List ℕ) → spaced (ms ++ ns) ≡ spaced ms ++ spaced ns
spaced-append [] ns = refl
spaced-append (m ∷ ms) ns = ap (λ (t : List ℕ). 32 ∷ (digits m ++ t)) (spaced-append ms ns) ∙ ap (λ (t : List ℕ). 32 ∷ t) (sym (append_assoc (digits m) (spaced ms) (spaced ns)))

pub one_price : (ps : List ℕ) (i : ℕ) → i < length ps → spaced (take (i + 1) ps) ≡ spaced (take i ps) ++ (32 ∷ digits (get_or ps i 0))
one_price ps i h =
    let z : i + 1 ≡ suc i = omega arith in
    ap (λ (k : ℕ). spaced (take k ps)) z ∙ ap spaced (take-suc ps i 0 h) ∙ spaced-append (take i ps) (get_or ps i 0 ∷ [])
    ∙ ap (λ (t : List ℕ). spaced (take i ps) ++ (32 ∷ t)) (append-nil (digits (get_or ps i 0)))

-- numbers as the words behind the first
pub spaced_after : (ns : List ℕ) → spaced ns ++ after [] ≡ after (map digits ns)
spaced_after [] = refl
spaced_after (n ∷ ns) = ap (λ (t : List ℕ). 32 ∷ t) (append_assoc (digits n) (spaced ns) (after []) ∙ ap (λ (t : List ℕ). digits n ++ t) (spaced_after ns))

-- the prices of the first n legs, at most four
pub legs_priced : (ps : List ℕ) (n m : ℕ) → length ps ≡ 4 → m ≡ min n 4 → ascii "legs" ++ after (map digits (take m ps)) ≡ legs_text (priced (take n ps))
legs_priced ps n m l e =
    ap (λ (k : ℕ). ascii "legs" ++ after (map digits (take k ps))) e
    ∙ ap (λ (qs : List ℕ). ascii "legs" ++ after (map digits qs)) (take_least ps n 4 (sym l))
    ∙ ap (λ (t : List ℕ). ascii "legs" ++ t) (sym (spaced_after (take n ps)))

-- ---- a record's leg prices, as a struct holds them

few-back : (ps : List ℕ) → length ps ≤ 4 → take (length ps) (take 4 (ps ++ (0 ∷ 0 ∷ 0 ∷ 0 ∷ []))) ≡ ps
few-back [] h = refl
few-back (a ∷ []) h = refl
few-back (a ∷ b ∷ []) h = refl
few-back (a ∷ b ∷ c ∷ []) h = refl
few-back (a ∷ b ∷ c ∷ d ∷ []) h = refl
few-back (a ∷ b ∷ c ∷ d ∷ e ∷ ps) h = absurd (omega (arith, h))

-- what a struct holds of leg prices, read back
abbrev back : LegPrices → LegPrices
back p = leg_prices_of (held_legs p) (held_prices p)

back_from : (n : ℕ) (ps : List ℕ) → length ps ≡ 4 → back (prices_from n ps) ≡ prices_from n ps
back_from n ps h = go (eqb n 0)
  where
    go : (b : Bool) → back (pick b unpriced (priced (take (n - 1) ps))) ≡ pick b unpriced (priced (take (n - 1) ps))
    go true = refl
    go false = ap priced (few-back (take (n - 1) ps) (let e = length-take (n - 1) ps in omega (arith, e, h)))

back_at : (l : List ℕ) (j : ℕ) → back (prices_at l j) ≡ prices_at l j
back_at l j = go (ltb j (length l / width))
  where
    go : (b : Bool) → back (pick b (prices_in l j) unpriced) ≡ pick b (prices_in l j) unpriced
    go true = back_from (get_or l (j * width + 6) 0) (get_or l (j * width + 7) 0 ∷ get_or l (j * width + 8) 0 ∷ get_or l (j * width + 9) 0 ∷ get_or l (j * width + 10) 0 ∷ []) refl
    go false = refl

pub prices_held : (l : List ℕ) (j : ℕ) (f : Stored) → Holds (record_at l j) (prices_at l j) f → prices_of f ≡ prices_at l j
prices_held l j f h = ap₂ leg_prices_of h.1 h.2 ∙ back_at l j

-- ---- the first i records

priced-append : (fs gs : List Fill) (ps qs : List LegPrices) → length fs ≡ length ps → priced_lines (fs ++ gs) (ps ++ qs) ≡ priced_lines fs ps ++ priced_lines gs qs
priced-append [] gs [] qs h = refl
priced-append [] gs (p ∷ ps) qs h = absurd (omega (arith, h))
priced-append (f ∷ fs) gs [] qs h = absurd (omega (arith, h))
priced-append (f ∷ fs) gs (p ∷ ps) qs h = ap (λ (ls : List Line). fill_line f ∷ legs_line p ∷ ls) (priced-append fs gs ps qs (omega (arith, h)))

-- their bytes, with those of the leg prices
abbrev pub priced_text : List ℕ → ℕ → List ℕ
priced_text l i = lines_text (priced_lines (from (record_at l) 0 i) (from (prices_at l) 0 i))

pub no_priced : (l : List ℕ) → priced_text l 0 ≡ []
no_priced l = ap₂ (λ (fs : List Fill) (ps : List LegPrices). lines_text (priced_lines fs ps)) (from_end (record_at l) 0 0 (omega arith)) (from_end (prices_at l) 0 0 (omega arith))

pub one-priced : (l : List ℕ) (i : ℕ) (f : Fill) (p : LegPrices) → f ≡ record_at l i → p ≡ prices_at l i → priced_text l (i + 1) ≡ priced_text l i ++ lines_text (fill_line f ∷ legs_line p ∷ [])
one-priced l i f p e d =
    let fs : List Fill = from (record_at l) 0 i in
    let ps : List LegPrices = from (prices_at l) 0 i in
    let a = from-length (record_at l) 0 i in
    let b = from-length (prices_at l) 0 i in
    ap₂ (λ (gs : List Fill) (qs : List LegPrices). lines_text (priced_lines gs qs)) (from_last (record_at l) i) (from_last (prices_at l) i)
    ∙ ap lines_text (priced-append fs (record_at l i ∷ []) ps (prices_at l i ∷ []) (a ∙ sym b))
    ∙ lines_append (priced_lines fs ps) (fill_line (record_at l i) ∷ legs_line (prices_at l i) ∷ [])
    ∙ ap₂ (λ (x : Fill) (y : LegPrices). priced_text l i ++ lines_text (fill_line x ∷ legs_line y ∷ [])) (sym e) (sym d)

-- ---- two lines

pub two_lines : (a b : Line) (lent : List ℕ) (at : ℕ) (mid : List ℕ) (end r : ℕ) (out : List ℕ) → Puts (line_text a) lent at end mid × (length (line_text a) ≤ most_line) → Puts (line_text b) mid end r out × (length (line_text b) ≤ most_line)
    → Puts (lines_text (a ∷ b ∷ [])) lent at r out × (length (lines_text (a ∷ b ∷ [])) ≤ 2 * most_line)
two_lines a b lent at mid end r out p q = lines_then (a ∷ []) (b ∷ []) most_line most_line lent at mid end r out (one_line a lent at end mid most_line p) (one_line b mid end r out most_line q)

-- ---- records with their leg prices, and then their averages

pub live_put : (l : List ℕ) (n m : ℕ) (lent : List ℕ) (at : ℕ) (mid : List ℕ) (end r : ℕ) (out : List ℕ) → m ≡ min n least_room
    → Puts (priced_text l m) lent at end mid × (length (priced_text l m) ≤ 2 * most_line * m)
    → Puts (lines_text (average_lines (averages (first_records l n)))) mid end r out × (length (lines_text (average_lines (averages (first_records l n)))) ≤ most_line * min n least_room)
    → Puts (lines_text (live_lines (first_records l n) (first_prices l n))) lent at r out × (length (lines_text (live_lines (first_records l n) (first_prices l n))) ≤ 3 * most_line * min n least_room)
live_put l n m lent at mid end r out e p q =
    let fs : List Fill = first_records l n in
    let v = lines_then (priced_lines fs (first_prices l n)) (average_lines (averages fs)) (2 * most_line * min n least_room) (most_line * min n least_room) lent at mid end r out (rw e at p) q in
    let few = v.1 in
    (v.0, omega (arith, few))

-- no records
pub no_live : (l : List ℕ) (n : ℕ) (lent : List ℕ) (at start : ℕ) → n ≡ 0 → start ≡ min at (length lent)
    → Puts (lines_text (live_lines (first_records l n) (first_prices l n))) lent at start lent × (length (lines_text (live_lines (first_records l n) (first_prices l n))) ≤ 3 * most_line * min n least_room)
unfolding averages
no_live l n lent at start e h =
    let z : first_records l n ≡ [] = rw e (from_end (record_at l) 0 0 (omega arith)) in
    rw z (puts_none lent at start h, omega arith)

-- ---- leg prices that the list has

pub prices_known : (l : List ℕ) (n : ℕ) → n ≤ least_room → n * width ≤ length l → first_prices l n ≡ from (prices_in l) 0 n
prices_known l n m h =
    let z : min n least_room ≡ n = omega arith in
    rw z (from-same (prices_at l) (prices_in l) 0 n (λ j a b. rw (lt-ltb j (length l / width) (omega arith)) refl))
