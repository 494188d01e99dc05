-- Each test that lets an opening pass leaves the rows below it; the first that does not gives its number.
use mathlib.Core.Path.{◌≡◌, sym, ap, ◌∙◌}
use mathlib.Core.Bool.{Bool, true, false, not, ◌&&◌}
use mathlib.Core.List.{List}
use Prim.Native.Nat.{ℕ, ◌≤◌}
use borrow.Author.Tests.{not-true, not-false}
use lib.Dec.{eqb}
use lib.ListN.{length, drop}
use Rattle.rules.specs.Basics.{between, Rule, first_of, all}
use Rattle.rules.specs.Series.{on_third_friday}
use Rattle.rules.specs.Strategy as S
use Rattle.rules.specs.Strategy.{all_pairs, same_root, other_symbol, near_ratio, gcd_all, good_ratios, opening_row, opening_refusal}
use Rattle.rules.proofs.TestLaws.{between_high}
use Rattle.types.specs.View.{opening_of, settings_of}
use Rattle.types.specs.declared.Opening.{Opening}
use Rattle.opening.specs.Asked.{is_good, is_dated, has_ratio, has_sides}
use Rattle.opening.proofs.AskLaws.{dates_asked}
use Rattle.opening.proofs.RowLaws.{row_at, legs_count}
use Rattle.opening.proofs.strategy.refusal.Goals as goal

-- the legs of what is opened
abbrev legs_of : Opening → List S.Leg
legs_of o = (opening_of o).legs

-- the rows from one on
abbrev rows : ℕ → Opening → List Rule
rows k o = drop k (opening_row (opening_of o))

-- the opening's number is that of the rows from one on
abbrev Past : ℕ → Opening → Type 0
Past k o = opening_refusal (opening_of o) ≡ first_of (rows k o)

-- ---- answers that are not word for word the rows' conditions

counted : (o : Opening) {g : Bool} → g ≡ between 2 o.count 4 → g ≡ between 2 (length (legs_of o)) 4
counted o e = e ∙ ap (λ (n : ℕ). between 2 n 4) (sym (legs_count o))

few : (o : Opening) {g : Bool} → g ≡ between 2 o.count 4 → g ≡ true → o.count ≤ 4
few o e h = between_high 2 o.count 4 (sym e ∙ h)

dates : (o : Opening) {s d : Bool} → s ≡ all is_good (legs_of o) → s ≡ true → d ≡ all is_dated (legs_of o) → d ≡ all (λ l. on_third_friday l.symbol) (legs_of o)
dates o e h f = f ∙ dates_asked (legs_of o) (sym e ∙ h)

alike : (o : Opening) {r s : Bool} → r ≡ all_pairs same_root (legs_of o) → s ≡ all_pairs other_symbol (legs_of o) → (r && s) ≡ (all_pairs same_root (legs_of o) && all_pairs other_symbol (legs_of o))
alike o e f = rw (e, f)

ratios : (o : Opening) {a b : Bool} {d : ℕ} → a ≡ all has_ratio (legs_of o) → b ≡ all_pairs near_ratio (legs_of o) → d ≡ gcd_all (legs_of o) → (a && b && eqb d 1) ≡ good_ratios (legs_of o)
ratios o e f g = rw (e, f, g)

-- ---- past each test, and stopped by it

past-1 : (o : Opening) {g : Bool} → g ≡ between 2 o.count 4 → g ≡ true → Past 1 o
unfolding opening_refusal
past-1 o e h = row_at 1 (rows 1 o) false (counted o e) (ap not h)

stop-1 : (o : Opening) {g : Bool} → g ≡ between 2 o.count 4 → g ≡ false → 1 ≡ opening_refusal (opening_of o)
unfolding opening_refusal
stop-1 o e h = sym (row_at 1 (rows 1 o) true (counted o e) (ap not h))

past-2 : (o : Opening) {r : Bool} → Past 1 o → r ≡ all is_good (legs_of o) → r ≡ true → Past 2 o
past-2 o p e h = p ∙ row_at 2 (rows 2 o) false e (ap not h)

stop-2 : (o : Opening) {r : Bool} → Past 1 o → r ≡ all is_good (legs_of o) → r ≡ false → 2 ≡ opening_refusal (opening_of o)
stop-2 o p e h = sym (p ∙ row_at 2 (rows 2 o) true e (ap not h))

past-3 : (o : Opening) {r : Bool} → Past 2 o → r ≡ all (λ l. on_third_friday l.symbol) (legs_of o) → r ≡ true → Past 3 o
past-3 o p e h = p ∙ row_at 3 (rows 3 o) false e (ap not h)

stop-3 : (o : Opening) {r : Bool} → Past 2 o → r ≡ all (λ l. on_third_friday l.symbol) (legs_of o) → r ≡ false → 3 ≡ opening_refusal (opening_of o)
stop-3 o p e h = sym (p ∙ row_at 3 (rows 3 o) true e (ap not h))

past-4 : (o : Opening) {r : Bool} → Past 3 o → r ≡ (all_pairs same_root (legs_of o) && all_pairs other_symbol (legs_of o)) → r ≡ true → Past 4 o
past-4 o p e h = p ∙ row_at 4 (rows 4 o) false e (ap not h)

stop-4 : (o : Opening) {r : Bool} → Past 3 o → r ≡ (all_pairs same_root (legs_of o) && all_pairs other_symbol (legs_of o)) → r ≡ false → 4 ≡ opening_refusal (opening_of o)
stop-4 o p e h = sym (p ∙ row_at 4 (rows 4 o) true e (ap not h))

past-5 : (o : Opening) {r : Bool} → Past 4 o → r ≡ good_ratios (legs_of o) → r ≡ true → Past 5 o
past-5 o p e h = p ∙ row_at 5 (rows 5 o) false e (ap not h)

stop-5 : (o : Opening) {r : Bool} → Past 4 o → r ≡ good_ratios (legs_of o) → r ≡ false → 5 ≡ opening_refusal (opening_of o)
stop-5 o p e h = sym (p ∙ row_at 5 (rows 5 o) true e (ap not h))

past-6 : (o : Opening) {r : Bool} → Past 5 o → r ≡ all has_sides (legs_of o) → r ≡ true → Past 6 o
past-6 o p e h = p ∙ row_at 6 (rows 6 o) false e (ap not h)

stop-6 : (o : Opening) {r : Bool} → Past 5 o → r ≡ all has_sides (legs_of o) → r ≡ false → 6 ≡ opening_refusal (opening_of o)
stop-6 o p e h = sym (p ∙ row_at 6 (rows 6 o) true e (ap not h))

stop-7 : (o : Opening) {r : Bool} → Past 6 o → r ≡ S.good_settings (settings_of o.settings) → r ≡ false → 7 ≡ opening_refusal (opening_of o)
stop-7 o p e h = sym (p ∙ row_at 7 (rows 7 o) true e (ap not h))

good : (o : Opening) {r : Bool} → Past 6 o → r ≡ S.good_settings (settings_of o.settings) → r ≡ true → 0 ≡ opening_refusal (opening_of o)
good o p e h = sym (p ∙ row_at 7 (rows 7 o) false e (ap not h))

-- ---- the goals

pub returns-then-not-good_count : goal.returns-then-not-good_count
returns-then-not-good_count c = stop-1 c.args.o c.good_count.ensures c.if-not-good_count.true

pub all_keep-legs-requires : goal.all_keep-legs-requires
all_keep-legs-requires c = few c.args.o c.good_count.ensures c.if-not-good_count.false

pub returns-then-not-legs : goal.returns-then-not-legs
returns-then-not-legs c =
    let o = c.args.o in
    let p = past-1 o c.good_count.ensures c.if-not-good_count.false in
    stop-2 o p c.all_keep-legs.ensures.0 (not-true _ c.if-not-legs.true)

pub returns-then-not-legs-2 : goal.returns-then-not-legs-2
returns-then-not-legs-2 c =
    let o = c.args.o in
    let k = c.all_keep-legs.ensures in
    let p = past-1 o c.good_count.ensures c.if-not-good_count.false in
    let q = past-2 o p k.0 (not-false _ c.if-not-legs.false) in
    stop-3 o q (dates o k.0 (not-false _ c.if-not-legs.false) k.1) (not-true _ c.if-not-legs-2.true)

pub pairs_hold-pairs-requires : goal.pairs_hold-pairs-requires
pairs_hold-pairs-requires c = few c.args.o c.good_count.ensures c.if-not-good_count.false

pub returns-then-not-pairs : goal.returns-then-not-pairs
returns-then-not-pairs c =
    let o = c.args.o in
    let k = c.all_keep-legs.ensures in
    let h = c.pairs_hold-pairs.ensures in
    let p = past-1 o c.good_count.ensures c.if-not-good_count.false in
    let q = past-2 o p k.0 (not-false _ c.if-not-legs.false) in
    let r = past-3 o q (dates o k.0 (not-false _ c.if-not-legs.false) k.1) (not-false _ c.if-not-legs-2.false) in
    stop-4 o r (alike o h.0 h.1) c.if-not-pairs.true

pub gcd_all-requires : goal.gcd_all-requires
gcd_all-requires c = few c.args.o c.good_count.ensures c.if-not-good_count.false

pub returns-then-not-legs-pairs : goal.returns-then-not-legs-pairs
returns-then-not-legs-pairs c =
    let o = c.args.o in
    let k = c.all_keep-legs.ensures in
    let h = c.pairs_hold-pairs.ensures in
    let p = past-1 o c.good_count.ensures c.if-not-good_count.false in
    let q = past-2 o p k.0 (not-false _ c.if-not-legs.false) in
    let r = past-3 o q (dates o k.0 (not-false _ c.if-not-legs.false) k.1) (not-false _ c.if-not-legs-2.false) in
    let s = past-4 o r (alike o h.0 h.1) c.if-not-pairs.false in
    stop-5 o s (ratios o k.2 h.2 c.gcd_all.ensures) c.if-not-legs-pairs.true

pub returns-then-not-legs-3 : goal.returns-then-not-legs-3
returns-then-not-legs-3 c =
    let o = c.args.o in
    let k = c.all_keep-legs.ensures in
    let h = c.pairs_hold-pairs.ensures in
    let p = past-1 o c.good_count.ensures c.if-not-good_count.false in
    let q = past-2 o p k.0 (not-false _ c.if-not-legs.false) in
    let r = past-3 o q (dates o k.0 (not-false _ c.if-not-legs.false) k.1) (not-false _ c.if-not-legs-2.false) in
    let s = past-4 o r (alike o h.0 h.1) c.if-not-pairs.false in
    let t = past-5 o s (ratios o k.2 h.2 c.gcd_all.ensures) c.if-not-legs-pairs.false in
    stop-6 o t k.3 (not-true _ c.if-not-legs-3.true)

pub returns-then-not-good_settings : goal.returns-then-not-good_settings
returns-then-not-good_settings c =
    let o = c.args.o in
    let k = c.all_keep-legs.ensures in
    let h = c.pairs_hold-pairs.ensures in
    let p = past-1 o c.good_count.ensures c.if-not-good_count.false in
    let q = past-2 o p k.0 (not-false _ c.if-not-legs.false) in
    let r = past-3 o q (dates o k.0 (not-false _ c.if-not-legs.false) k.1) (not-false _ c.if-not-legs-2.false) in
    let s = past-4 o r (alike o h.0 h.1) c.if-not-pairs.false in
    let t = past-5 o s (ratios o k.2 h.2 c.gcd_all.ensures) c.if-not-legs-pairs.false in
    let u = past-6 o t k.3 (not-false _ c.if-not-legs-3.false) in
    stop-7 o u c.good_settings.ensures c.if-not-good_settings.true

pub returns : goal.returns
returns c =
    let o = c.args.o in
    let k = c.all_keep-legs.ensures in
    let h = c.pairs_hold-pairs.ensures in
    let p = past-1 o c.good_count.ensures c.if-not-good_count.false in
    let q = past-2 o p k.0 (not-false _ c.if-not-legs.false) in
    let r = past-3 o q (dates o k.0 (not-false _ c.if-not-legs.false) k.1) (not-false _ c.if-not-legs-2.false) in
    let s = past-4 o r (alike o h.0 h.1) c.if-not-pairs.false in
    let t = past-5 o s (ratios o k.2 h.2 c.gcd_all.ensures) c.if-not-legs-pairs.false in
    let u = past-6 o t k.3 (not-false _ c.if-not-legs-3.false) in
    good o u c.good_settings.ensures c.if-not-good_settings.false
