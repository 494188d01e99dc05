-- Records behind records: none, one, and one list after another.
use mathlib.Core.Path.{◌≡◌, refl, ap, ap₂, sym, ◌∙◌}
use mathlib.Core.Bool.{Bool, true, false}
use mathlib.Core.List.{List, [], ◌∷◌, ◌++◌}
use Prim.Native.Nat.{ℕ, zero, suc, ◌+◌, ◌-◌, ◌*◌, ◌/◌, ◌≤◌, ◌<◌, min}
use native.Mathlib.Omega.{arith}
use borrow.Author.Tests.{ne_eqb, lt-ltb}
use lib.Dec.{eqb, ltb}
use lib.ListN.{length, get_or, take, drop, set, length-set, length-append}
use lib.Seq.{get_or-set_same, get_or-set_other}
use Rattle.std.proofs.lemmas.List.{get_or-take, get_or-drop}
use Rattle.rules.specs.Basics.{pick}
use Rattle.rules.specs.Prices.{cents, biased}
use Rattle.rules.specs.Turn.{entry, Fill}
use Rattle.rules.proofs.SignedLaws.{cents-biased}
use Rattle.rules.specs.LegPrices.{LegPrices}
use Rattle.types.specs.declared.Fill as F
use Rattle.types.specs.View.{narrow, contra_from, leg_prices_of, held_legs, held_prices}
use Rattle.types.proofs.TableLaws.{from_cons, from_end}
use Rattle.state.proofs.TableLaws.{from-same, from-join}
use Rattle.records.specs.Records.{most_given, record_from, width, record_in, record_at, prices_from, prices_in, is_legs, number_at, Holds, Adds, AddsPriced, Prices}

-- ---- numbers stored one after another, from place b + k on

abbrev pub run : List ℕ → ℕ → ℕ → List ℕ → List ℕ
run l b k [] = l
run l b k (x ∷ xs) = run (set l (b + k) x) b (k + 1) xs

run_length : (l : List ℕ) (b k : ℕ) (xs : List ℕ) → length (run l b k xs) ≡ length l
run_length l b k [] = refl
run_length l b k (x ∷ xs) = run_length (set l (b + k) x) b (k + 1) xs ∙ length-set l (b + k) x

run-before : (l : List ℕ) (b k : ℕ) (xs : List ℕ) (i : ℕ) → i < b + k → get_or (run l b k xs) i 0 ≡ get_or l i 0
run-before l b k [] i h = refl
run-before l b k (x ∷ xs) i h = run-before (set l (b + k) x) b (k + 1) xs i (omega arith) ∙ get_or-set_other l (b + k) i x 0 (λ e. omega arith)

run-behind : (l : List ℕ) (b k : ℕ) (xs : List ℕ) (i : ℕ) → b + k + length xs ≤ i → get_or (run l b k xs) i 0 ≡ get_or l i 0
run-behind l b k [] i h = refl
run-behind l b k (x ∷ xs) i h = run-behind (set l (b + k) x) b (k + 1) xs i (omega arith) ∙ get_or-set_other l (b + k) i x 0 (λ e. omega arith)

run_here : (l : List ℕ) (b k : ℕ) (xs : List ℕ) (j : ℕ) → j < length xs → b + k + length xs ≤ length l → get_or (run l b k xs) (b + (k + j)) 0 ≡ get_or xs j 0
run_here l b k [] j h s = absurd (omega arith)
run_here l b k (x ∷ xs) zero h s =
    let at : k + 0 ≡ k = omega arith in
    rw at (run-before (set l (b + k) x) b (k + 1) xs (b + k) (omega arith) ∙ get_or-set_same l (b + k) x 0 (omega arith))
run_here l b k (x ∷ xs) (suc j) h s =
    let at : k + suc j ≡ k + 1 + j = omega arith in
    rw at (run_here (set l (b + k) x) b (k + 1) xs j (omega arith) (simp length-set (omega arith)))

-- the numbers of a record from place b on
abbrev pub six : List ℕ → ℕ → ℕ → ℕ → ℕ → ℕ → ℕ → ℕ → List ℕ
six l b n o r c p u = run (set l b n) b 1 (o ∷ r ∷ c ∷ p ∷ u ∷ [])

-- ---- records

pub adds_none : (l : List ℕ) (at : ℕ) → Adds l at l at []
adds_none l at = record {
  sized = refl;
  more = omega arith;
  inside = λ h. h;
  before = λ i h. refl;
  behind = λ i h. refl;
  made = λ h. (omega arith, from_end (record_in l) at at (omega arith));
}

-- where there is no room for one more
pub adds_full : (l : List ℕ) (at : ℕ) (f : Fill) → length l < at * width + width → Adds l at l at (f ∷ [])
adds_full l at f h = record {
  sized = refl;
  more = omega arith;
  inside = λ q. q;
  before = λ i q. refl;
  behind = λ i q. refl;
  made = λ q. absurd (omega arith);
}

-- one more
pub adds_one : (l : List ℕ) (at n o r c p u : ℕ) → at * width + width ≤ length l → Adds l at (six l (at * width) n o r c p u) (at + 1) (record_from n o r c p u ∷ [])
adds_one l at n o r c p u h =
    let xs : List ℕ = o ∷ r ∷ c ∷ p ∷ u ∷ [] in
    let b : ℕ = at * width in
    let m : List ℕ = six l b n o r c p u in
    let first : get_or m b 0 ≡ n = run-before (set l b n) b 1 xs b (omega arith) ∙ get_or-set_same l b n 0 (omega arith) in
    let here : (j : ℕ) → j < 5 → get_or m (b + (1 + j)) 0 ≡ get_or xs j 0 = λ j q. run_here (set l b n) b 1 xs j q (simp length-set (omega arith)) in
    let is : record_in m at ≡ record_from n o r c p u =
    λ i. record_from (first i) (here 0 (omega arith) i) (here 1 (omega arith) i) (here 2 (omega arith) i) (here 3 (omega arith) i) (here 4 (omega arith) i) in
    record {
      sized = run_length (set l b n) b 1 xs ∙ length-set l b n;
      more = omega arith;
      inside = λ q. omega arith;
      before = λ i q. run-before (set l b n) b 1 xs i (omega arith) ∙ get_or-set_other l b i n 0 (λ e. omega arith);
      behind = λ i q. run-behind (set l b n) b 1 xs i (omega arith) ∙ get_or-set_other l b i n 0 (λ e. omega arith);
      made = λ q. (omega arith, from_cons (record_in m) at (at + 1) (omega arith) ∙ ap₂ (λ (f : Fill) (fs : List Fill). f ∷ fs) is (from_end (record_in m) (at + 1) (at + 1) (omega arith)));
    }

-- one list after another
pub adds_then : (a b c : List ℕ) (at k r : ℕ) (fs gs : List Fill) → Adds a at b k fs → Adds b k c r gs → Adds a at c r (fs ++ gs)
adds_then a b c at k r fs gs p q =
    record {
      sized = q.sized ∙ p.sized;
      more = omega (arith, p.more, q.more);
      inside = λ h. omega (arith, p.sized, q.inside (omega (arith, p.sized, p.inside h)));
      before = λ i h. q.before i (omega (arith, p.more)) ∙ p.before i h;
      behind = λ i h. q.behind i h ∙ p.behind i (omega (arith, q.more));
      made = λ h.
          let z : length (fs ++ gs) ≡ length fs + length gs = length-append fs gs in
          let x = p.made (omega arith) in
          let e : k ≡ at + length fs = x.0 in
          let y = q.made (omega (arith, p.sized)) in
          let f : r ≡ k + length gs = y.0 in (
            omega arith,
            sym (from-join (record_in c) at k r p.more q.more)
                ∙ ap₂ (λ (f : List Fill) (g : List Fill). f ++ g) (from-same (record_in c) (record_in b) at k (λ j u v. same j v) ∙ x.1) y.1,
          );
    }
  where
    same : (j : ℕ) → j < k → record_in c j ≡ record_in b j
    same j v =
        λ i. record_from (q.before (j * width) (omega arith) i) (q.before (j * width + 1) (omega arith) i) (q.before (j * width + 2) (omega arith) i) (q.before (j * width + 3) (omega arith) i) (q.before (j * width + 4) (omega arith) i) (q.before (j * width + 5) (omega arith) i)

-- ---- leg prices

pub priced_none : (l : List ℕ) (at : ℕ) → AddsPriced l at l at [] []
priced_none l at = record { records = adds_none l at; prices = λ h. from_end (prices_in l) at at (omega arith) }

-- one list after another
pub priced-then : (a b c : List ℕ) (at k r : ℕ) (fs gs : List Fill) (ps qs : List LegPrices) → AddsPriced a at b k fs ps → AddsPriced b k c r gs qs → AddsPriced a at c r (fs ++ gs) (ps ++ qs)
priced-then a b c at k r fs gs ps qs p q =
    record {
      records = adds_then a b c at k r fs gs p.records q.records;
      prices = λ h.
          let z : length (fs ++ gs) ≡ length fs + length gs = length-append fs gs in
          let e : k ≡ at + length fs = (p.records.made (omega arith)).0 in
          let s : length b ≡ length a = p.records.sized in
          sym (from-join (prices_in c) at k r p.records.more q.records.more)
          ∙ ap₂ (λ (x : List LegPrices) (y : List LegPrices). x ++ y) (from-same (prices_in c) (prices_in b) at k (λ j u v. same j v) ∙ p.prices (omega arith)) (q.prices (omega arith));
    }
  where
    kept : (j n : ℕ) → j < k → n < width → get_or c (j * width + n) 0 ≡ get_or b (j * width + n) 0
    kept j n v h = q.records.before (j * width + n) (omega arith)

    same : (j : ℕ) → j < k → prices_in c j ≡ prices_in b j
    same j v =
        λ i. prices_from (kept j 6 v (omega arith) i) (kept j 7 v (omega arith) i ∷ kept j 8 v (omega arith) i ∷ kept j 9 v (omega arith) i ∷ kept j 10 v (omega arith) i ∷ [])

-- four numbers, one by one
pub four_known : (ps : List ℕ) → length ps ≡ 4 → ps ≡ get_or ps 0 0 ∷ get_or ps 1 0 ∷ get_or ps 2 0 ∷ get_or ps 3 0 ∷ []
four_known [] h = absurd (omega (arith, h))
four_known (a ∷ []) h = absurd (omega (arith, h))
four_known (a ∷ b ∷ []) h = absurd (omega (arith, h))
four_known (a ∷ b ∷ c ∷ []) h = absurd (omega (arith, h))
four_known (a ∷ b ∷ c ∷ d ∷ []) h = refl
four_known (a ∷ b ∷ c ∷ d ∷ e ∷ ps) h = absurd (omega (arith, h))

-- what is written for the record at a place, and nothing where the list has none
abbrev pub prices_run : List ℕ → ℕ → ℕ → List ℕ → List ℕ
prices_run l j n ps = run l (j * width) 6 (n ∷ get_or ps 0 0 ∷ get_or ps 1 0 ∷ get_or ps 2 0 ∷ get_or ps 3 0 ∷ [])

pub prices-one : (l : List ℕ) (j n : ℕ) (ps : List ℕ) → length ps ≡ 4 → Prices l j (prices_run l j n ps) (prices_from n ps)
prices-one l j n ps four =
    let b : ℕ = j * width in
    let xs : List ℕ = n ∷ get_or ps 0 0 ∷ get_or ps 1 0 ∷ get_or ps 2 0 ∷ get_or ps 3 0 ∷ [] in
    record {
      sized = run_length l b 6 xs;
      before = λ i q. run-before l b 6 xs i q;
      behind = λ i q. run-behind l b 6 xs i (omega arith);
      made = λ q.
          let here : (k : ℕ) → k < 5 → get_or (run l b 6 xs) (b + (6 + k)) 0 ≡ get_or xs k 0 = λ k h. run_here l b 6 xs k h (omega arith) in
          (λ i. prices_from (here 0 (omega arith) i) (here 1 (omega arith) i ∷ here 2 (omega arith) i ∷ here 3 (omega arith) i ∷ here 4 (omega arith) i ∷ []))
          ∙ ap (prices_from n) (sym (four_known ps four));
    }

pub prices_none : (l : List ℕ) (j : ℕ) (p : LegPrices) → length l < j * width + width → Prices l j l p
prices_none l j p h = record { sized = refl; before = λ i q. refl; behind = λ i q. refl; made = λ q. absurd (omega arith) }

-- how a struct holds them
pub held_four : (n a b c d : ℕ) → held_prices (prices_from n (a ∷ b ∷ c ∷ d ∷ [])) ≡ pick (ltb 1 n) a 0 ∷ pick (ltb 2 n) b 0 ∷ pick (ltb 3 n) c 0 ∷ pick (ltb 4 n) d 0 ∷ []
held_four zero a b c d = refl
held_four (suc zero) a b c d = refl
held_four (suc (suc zero)) a b c d = refl
held_four (suc (suc (suc zero))) a b c d = refl
held_four (suc (suc (suc (suc zero)))) a b c d = refl
held_four (suc (suc (suc (suc (suc n))))) a b c d =
    let m : ℕ = suc (suc (suc (suc (suc n)))) in
    let less : m - 1 ≡ suc (suc (suc (suc n))) = omega arith in
    rw (ne_eqb m 0 (λ e. omega arith), less, lt-ltb 1 m (omega arith), lt-ltb 2 m (omega arith), lt-ltb 3 m (omega arith), lt-ltb 4 m (omega arith))

-- and they are the same read back
pub held_back : (n a b c d : ℕ) → let p = prices_from n (a ∷ b ∷ c ∷ d ∷ []) in leg_prices_of (held_legs p) (held_prices p) ≡ p
held_back zero a b c d = refl
held_back (suc zero) a b c d = refl
held_back (suc (suc zero)) a b c d = refl
held_back (suc (suc (suc zero))) a b c d = refl
held_back (suc (suc (suc (suc zero)))) a b c d = refl
held_back (suc (suc (suc (suc (suc n))))) a b c d =
    let m : ℕ = suc (suc (suc (suc n))) in
    let less : suc m - 1 ≡ m = omega arith in
    rw (ne_eqb (suc m) 0 (λ e. omega arith), less, take_all n)
  where
    take_all : (k : ℕ) → take {A = ℕ} k [] ≡ []
    take_all zero = refl
    take_all (suc k) = refl

-- the numbers of a record cut out of a list, k of them
pub cut_holds : (l : List ℕ) (j k : ℕ) (r : F.Fill) → k ≡ width → let n = take k (drop (j * width) l) in Holds (record_in n 0) (prices_in n 0) r → Holds (record_in l j) (prices_in l j) r
cut_holds l j k r w h = (h.0 ∙ same, h.1 ∙ ap held_legs priced, h.2 ∙ ap held_prices priced)
  where
    here : (i : ℕ) → i < width → get_or (take k (drop (j * width) l)) i 0 ≡ get_or l (j * width + i) 0
    here i q = get_or-take k (drop (j * width) l) i 0 (omega (arith, w)) ∙ get_or-drop (j * width) l i 0

    first : get_or (take k (drop (j * width) l)) 0 0 ≡ get_or l (j * width) 0
    first = let z : j * width + 0 ≡ j * width = omega arith in here 0 (omega arith) ∙ ap (λ (i : ℕ). get_or l i 0) z

    same : record_in (take k (drop (j * width) l)) 0 ≡ record_in l j
    same = λ i. record_from (first i) (here 1 (omega arith) i) (here 2 (omega arith) i) (here 3 (omega arith) i) (here 4 (omega arith) i) (here 5 (omega arith) i)

    priced : prices_in (take k (drop (j * width) l)) 0 ≡ prices_in l j
    priced = λ i. prices_from (here 6 (omega arith) i) (here 7 (omega arith) i ∷ here 8 (omega arith) i ∷ here 9 (omega arith) i ∷ here 10 (omega arith) i ∷ [])

-- ---- the number of a contra

pub contra_back : (id : ℕ) → id ≤ 4_294_967_295 → contra_from (id + 1) ≡ entry id
contra_back id h =
    let z : eqb (id + 1) 0 ≡ false = ne_eqb (id + 1) 0 (λ e. omega arith) in
    let w : narrow (id + 1 - 1) ≡ id = omega arith in
    rw (z, w)

-- ---- the numbers of a record

pick_at : {A B : Type 0} (f : A → B) (b : Bool) (x y : A) → f (pick b x y) ≡ pick b (f x) (f y)
pick_at f true x y = refl
pick_at f false x y = refl

-- a field of the record at a place, by the number that it is made of
field_at : {A : Type 0} (f : ℕ → A) (field : Fill → A) (l : List ℕ) (j k : ℕ) → field (record_in l j) ≡ f (get_or l (j * width + k) 0) → field (record_from 0 0 0 0 0 0) ≡ f 0 → f (number_at l j k) ≡ field (record_at l j)
field_at f field l j k p q =
    let b : Bool = ltb j (length l / width) in
    pick_at f b (get_or l (j * width + k) 0) 0 ∙ sym (ap₂ (pick b) p q) ∙ sym (pick_at field b (record_in l j) (record_from 0 0 0 0 0 0))

pub order_known : (l : List ℕ) (j : ℕ) → narrow (number_at l j 1) ≡ (record_at l j).order
order_known l j = field_at narrow (λ f. f.order) l j 1 refl refl

pub units_known : (l : List ℕ) (j : ℕ) → narrow (number_at l j 5) ≡ (record_at l j).units
units_known l j = field_at narrow (λ f. f.units) l j 5 refl refl

-- its price in cents, of a biased one that is not above the greatest
pub cents_known : (l : List ℕ) (j : ℕ) → cents (min (number_at l j 4) most_given) ≡ (record_at l j).price
cents_known l j = field_at (λ p. cents (min p most_given)) (λ f. f.price) l j 4 refl refl

pub price_known : (l : List ℕ) (j : ℕ) → min (number_at l j 4) most_given ≡ biased (record_at l j).price
price_known l j = sym (cents-biased (min (number_at l j 4) most_given)) ∙ ap biased (cents_known l j)

legs_shown : (n : ℕ) → eqb n 0 ≡ is_legs (contra_from n)
legs_shown zero = refl
legs_shown (suc n) = rw (ne_eqb (suc n) 0 (λ e. omega arith))

pub legs_known : (l : List ℕ) (j : ℕ) → eqb (number_at l j 3) 0 ≡ is_legs (record_at l j).contra
legs_known l j = legs_shown (number_at l j 3) ∙ field_at (λ n. is_legs (contra_from n)) (λ f. is_legs f.contra) l j 3 refl refl
