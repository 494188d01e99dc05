-- Tables of the sums that legs can make, made leg by leg, and the whole of them.
use mathlib.Core.Path.{◌≡◌, refl, sym, ap, ap₂, subst, ◌∙◌}
use mathlib.Core.Bool.{Bool, ◌&&◌, ◌||◌}
use mathlib.Core.List.{List, [], ◌∷◌}
use Prim.Native.Nat.{ℕ, zero, suc, ◌+◌, ◌-◌, ◌*◌, ◌/◌, ◌%◌, ◌^◌, ◌≤◌, ◌<◌}
use native.Mathlib.Nat.{div-one, mul-le-mul, mul-le-mul_left}
use native.Mathlib.Decide.{ℕ_discrete, dec_le}
use native.Mathlib.Omega.{arith}
use lib.Dec.{eqb, leb}
use lib.ListN.{length, get_or}
use lib.Pow.{shr-shr, shr_le}
use Rattle.types.specs.View.{upto}
use Rattle.types.proofs.TableLaws.{from_cons, from_end}
use Rattle.legprices.specs.declared.Ranges.{Ranges}
use Rattle.legprices.specs.Sums.{Span, reach, span_at, spans_from, Bounded, table_words, stands, table_at, Made}
use Rattle.legprices.specs.Tables.{bit, Changed, moved, smeared, Shows}
use Rattle.legprices.specs.Found.{greatest}
use Rattle.legprices.proofs.SumLaws.{smear-none, smear-more, smear_same, reach_above}

-- ---- a width read bit by bit, from the top

-- with one bit more it is twice what was read, or one more
pub read_on : (w k h : ℕ) → 1 ≤ k → h ≡ w / 2 ^ k → (h ≤ w / 2 ^ (k - 1)) × (w / 2 ^ (k - 1) ≤ 2 * h + 1)
read_on w k h l e =
    let o : k ≡ k - 1 + 1 = omega arith in
    let d : h ≡ w / 2 ^ (k - 1) / 2 = e ∙ ap (λ (i : ℕ). w / 2 ^ i) o ∙ sym (shr-shr w (k - 1) 1) in
    (omega arith, omega arith)

pub read_all : (w k h : ℕ) → k ≤ 0 → h ≡ w / 2 ^ k → h ≡ w
read_all w k h l e =
    let o : k ≡ 0 = omega arith in
    e ∙ ap (λ (i : ℕ). w / 2 ^ i) o ∙ div-one w

pub read_cost : (r w k h : ℕ) → r * (w / 2 ^ k - h) ≤ r * w
read_cost r w k h = mul-le-mul_left r (let l = shr_le w k in omega arith)

module _ (words b : ℕ) (old : List ℕ) (r : ℕ) where
  pub changed-none : length old ≡ 44 → Changed words b old old (smeared (stands old b) r 0)
  changed-none h = record {
    sized = h;
    inside = λ s l. smear-none (stands old b) r s;
    below = λ i l. refl;
    above = λ i l. refl;
  }

  pub changed-more : (h n a : ℕ) (mid new : List ℕ) → a ≡ r * (n - h) → h ≤ n → n ≤ 2 * h + 1
      → Changed words b old mid (smeared (stands old b) r h) → Changed words b mid new (moved (stands mid b) a) → Changed words b old new (smeared (stands old b) r n)
  changed-more h n a mid new e l m p q = record {
    sized = q.sized;
    inside = λ s j.
        q.inside s j ∙ ap₂ (λ (x y : Bool). x || (leb a s && y)) (p.inside s j) (p.inside (s - a) (omega arith))
        ∙ ap (λ (x : ℕ). moved (smeared (stands old b) r h) x s) e ∙ smear-more (stands old b) r h n s l m;
    below = λ i j. q.below i j ∙ p.below i j;
    above = λ i j. q.above i j ∙ p.above i j;
  }

-- ---- a table of the sums that legs can make

shows_none : (b : ℕ) (old new : List ℕ) → Changed table_words b old new (λ s. eqb s 0) → Shows new b []
unfolding reach
shows_none b old new c = c.inside

shows_more : (words b : ℕ) (old new : List ℕ) (g : Span) (gs : List Span) → words ≤ table_words → greatest (g ∷ gs) < words * 64
    → Shows old b gs → Changed words b old new (smeared (stands old b) g.ratio g.width) → Shows new b (g ∷ gs)
unfolding reach
shows_more words b old new g gs l m shows c s j =
    elim (dec_le (words * 64) s) [
      | yes h ↦
          ap (λ (x : ℕ). bit x (s % 64)) (c.above (b + s / 64) (omega arith)) ∙ shows s j ∙ reach_above gs s (omega arith)
          ∙ sym (reach_above (g ∷ gs) s (omega arith))
      | no n ↦ c.inside s (omega arith) ∙ smear_same (stands old b) (reach gs) g.ratio g.width s (λ x i. shows x (omega arith))
    ]

-- ---- legs in arrays

module _ (r : Ranges) where
  pub spans-none : (i : ℕ) → r.count ≤ i → spans_from r i ≡ []
  spans-none i h = from_end (span_at r) i r.count h

  spans-more : (i j : ℕ) → i < r.count → j ≡ i + 1 → spans_from r i ≡ span_at r i ∷ spans_from r j
  spans-more i j h e = from_cons (span_at r) i r.count h ∙ ap (λ (k : ℕ). span_at r i ∷ spans_from r k) (sym e)

  pub spans-last : (i : ℕ) → i + 1 ≡ r.count → spans_from r i ≡ span_at r i ∷ []
  spans-last i e = spans-more i r.count (omega arith) (sym e) ∙ ap (λ (gs : List Span). span_at r i ∷ gs) (spans-none r.count (omega arith))

  module _ (bounded : Bounded r) where
    pub span-most : (k : ℕ) → get_or r.ratios k 0 * get_or r.widths k 0 ≤ 450
    span-most k = mul-le-mul (bounded.ratio k) (bounded.width k)

    upto-most : (k m : ℕ) → greatest (upto (span_at r) k m) ≤ m * 450
    unfolding upto
    upto-most k zero = omega arith
    upto-most k (suc m) = omega (arith, span-most k, upto-most (k + 1) m)

    pub spans-most : (i : ℕ) → greatest (spans_from r i) ≤ (r.count - i) * 450
    spans-most i = upto-most i (r.count - i)

    -- one leg more, before those from place j on
    shows-next : (words b i j : ℕ) (old new : List ℕ) → words ≤ table_words → (r.count - i) * 450 < words * 64 → i < r.count → j ≡ i + 1
        → Shows old b (spans_from r j) → Changed words b old new (smeared (stands old b) (get_or r.ratios i 0) (get_or r.widths i 0)) → Shows new b (spans_from r i)
    shows-next words b i j old new l m h e shows c =
        let z = spans-more i j h e in
        subst (λ (gs : List Span). Shows new b gs) (sym z)
        (shows_more words b old new (span_at r i) (spans_from r j) l (omega (arith, ap greatest z, spans-most i)) shows c)

    -- the last two legs
    pub shows-pair : (b : ℕ) (old none one new : List ℕ) → 3 ≤ r.count → b ≡ (r.count - 3) * 22 → Changed table_words b old none (λ s. eqb s 0)
        → Changed 8 b none one (smeared (stands none b) (get_or r.ratios (r.count - 1) 0) (get_or r.widths (r.count - 1) 0))
        → Changed 15 b one new (smeared (stands one b) (get_or r.ratios (r.count - 2) 0) (get_or r.widths (r.count - 2) 0))
        → Shows new (table_at (r.count - 2)) (spans_from r (r.count - 2))
    shows-pair b old none one new h e c d f =
        let n : ℕ = r.count in
        let z : b ≡ table_at (n - 2) = omega arith in
        let s : Shows none b (spans_from r n) = subst (λ (gs : List Span). Shows none b gs) (sym (spans-none n (omega arith))) (shows_none b old none c) in
        subst (λ (x : ℕ). Shows new x (spans_from r (n - 2))) z
        (shows-next 15 b (n - 2) (n - 1) one new (omega arith) (omega arith) (omega arith) (omega arith)
        (shows-next 8 b (n - 1) n none one (omega arith) (omega arith) (omega arith) (omega arith) s d) f)

    pub made : (bits : List ℕ) → length bits ≡ 44 → (3 ≤ r.count → Shows bits (table_at (r.count - 2)) (spans_from r (r.count - 2)))
        → (r.count ≡ 4 → Shows bits 0 (spans_from r 1)) → Made r bits
    made bits l pair three = record {
      sized = l;
      shown = λ i j m s k.
          elim (ℕ_discrete i (r.count - 2)) [
            | yes e ↦ rw e (pair (omega arith) s k)
            | no x ↦ let e : i ≡ 1 = omega (arith, bounded.few) in rw e (three (omega (arith, bounded.few)) s k)
          ];
    }

    -- the last three legs, in the first table, before the last two
    pub made-three : (old first new : List ℕ) → r.count ≡ 4 → Shows old (table_at (r.count - 2)) (spans_from r (r.count - 2)) → Changed table_words 0 old first (stands old table_words)
        → Changed table_words 0 first new (smeared (stands first 0) (get_or r.ratios 1 0) (get_or r.widths 1 0)) → Made r new
    made-three old first new h shows c d =
        let n : ℕ = r.count in
        let z : table_at (n - 2) ≡ table_words = omega arith in
        let pair : Shows old table_words (spans_from r (n - 2)) = subst (λ (x : ℕ). Shows old x (spans_from r (n - 2))) z shows in
        let kept : Shows new table_words (spans_from r (n - 2)) =
        λ s j. ap (λ (x : ℕ). bit x (s % 64)) (d.above (table_words + s / 64) (omega arith) ∙ c.above (table_words + s / 64) (omega arith)) ∙ pair s j in
        let copied : Shows first 0 (spans_from r (n - 2)) = λ s j. c.inside s j ∙ pair s j in
        made new d.sized
        (λ k. subst (λ (x : ℕ). Shows new x (spans_from r (n - 2))) (sym z) kept)
        (λ k. shows-next table_words 0 1 (n - 2) first new (omega arith) (omega arith) (omega arith) (omega arith) copied d)
