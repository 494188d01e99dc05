-- One step of each loop over the slots, and its end.
use mathlib.Core.Path.{◌≡◌, refl, ap, ap₂, sym, ◌∙◌}
use mathlib.Core.Bool.{◌&&◌}
use mathlib.Core.List.{List, [], ◌∷◌, ◌++◌, append-nil}
use Prim.Native.Nat.{ℕ, zero, suc, ◌+◌, ◌-◌, ◌%◌, ◌≤◌, ◌<◌, min}
use native.Mathlib.Numerals.{add-one}
use native.Mathlib.Omega.{arith}
use borrow.Author.Tests.{eq-eqb, ne_eqb}
use lib.Dec.{eqb, ltb}
use lib.ListN.{length, take, drop, get_or, set}
use lib.Seq.{length-take-le, drop-cons, take-suc-set, take-set-lt, drop-set-lt, set-get_or}
use Rattle.rules.specs.Basics.{sum, pick, zeros}
use Rattle.rules.specs.Prices.{cents}
use Rattle.rules.specs.Turn.{rank_number, Contra, Offer, tier, sizes, Fill, fill_of, fills_at}
use Rattle.types.specs.View.{upto, narrow, rank_from, contra_from}
use Rattle.types.proofs.TableLaws.{from-length, from_last}
use Rattle.share.proofs.LoopLaws.{row, row_end, push}
use Rattle.records.specs.Records.{most_given, record_from, Adds}
use Rattle.records.proofs.RecordLaws.{adds_then}
use Rattle.execution.specs.Slots.{offer_in, offers_in, Ranked}
use Rattle.execution.specs.Walk.{spots, no_tier, nearer, least_from, sizes_of, over, Under}
use Rattle.execution.specs.Turned.{slot_records}
use Rattle.execution.specs.declared.Order.{Order}
use Rattle.execution.proofs.FillLaws.{fills-last}

-- ---- numbers

module _ (n i : ℕ) (ps us : List ℕ) (hp : n ≤ length ps) (hu : n ≤ length us) (j : i < n) where
  pub least_step : (b m : ℕ)
      → least_from b (nearer b m (get_or ps i 0) (get_or us i 0)) (drop (i + 1) (take n ps)) (drop (i + 1) (take n us)) ≡ least_from b m (drop i (take n ps)) (drop i (take n us))
  unfolding least_from
  least_step b m = rw (row n i ps hp j, row n i us hu j)

  pub total-step : (k : ℕ) → pick (eqb (get_or ps i 0) k) (get_or us i 0) 0 + sum (sizes_of k (drop (i + 1) (take n ps)) (drop (i + 1) (take n us))) ≡ sum (sizes_of k (drop i (take n ps)) (drop i (take n us)))
  unfolding sizes_of
  total-step k = rw (row n i ps hp j, row n i us hu j)

  pub gather-step : (k : ℕ) (out : List ℕ) → n ≤ length out
      → take (i + 1) (set out i (pick (eqb (get_or ps i 0) k) (get_or us i 0) 0)) ++ sizes_of k (drop (i + 1) (take n ps)) (drop (i + 1) (take n us))
      ≡ take i out ++ sizes_of k (drop i (take n ps)) (drop i (take n us))
  unfolding sizes_of
  gather-step k out h =
      rw (row n i ps hp j, row n i us hu j)
      (push i out (sizes_of k (drop (i + 1) (take n ps)) (drop (i + 1) (take n us))) (pick (eqb (get_or ps i 0) k) (get_or us i 0) 0) (omega arith))

  give_step : (k v : ℕ) (gs : List ℕ) → n ≤ length gs → v ≡ pick (eqb (get_or ps i 0) k) (get_or us i 0) (get_or gs i 0)
      → take (i + 1) (set gs i v) ++ over k (drop (i + 1) (take n ps)) (drop (i + 1) (take n us)) (drop (i + 1) (take n (set gs i v)))
      ≡ take i gs ++ over k (drop i (take n ps)) (drop i (take n us)) (drop i (take n gs))
  unfolding over
  give_step k v gs h e =
      rw (row n i ps hp j, row n i us hu j, row n i gs h j, take-set-lt n gs i v j, drop-set-lt (i + 1) (take n gs) i v (omega arith), ← e)
      (push i gs (over k (drop (i + 1) (take n ps)) (drop (i + 1) (take n us)) (drop (i + 1) (take n gs))) v (omega arith))

  pub give-yes : (k : ℕ) (gs : List ℕ) → n ≤ length gs → get_or ps i 0 ≡ k
      → (let x = get_or us i 0 in
      take (i + 1) (set gs i x) ++ over k (drop (i + 1) (take n ps)) (drop (i + 1) (take n us)) (drop (i + 1) (take n (set gs i x))))
      ≡ take i gs ++ over k (drop i (take n ps)) (drop i (take n us)) (drop i (take n gs))
  give-yes k gs h e = give_step k (get_or us i 0) gs h (rw (eq-eqb (get_or ps i 0) k e))

  pub give-no : (k : ℕ) (gs : List ℕ) → n ≤ length gs → (get_or ps i 0 ≡ k → ⊥)
      → take (i + 1) gs ++ over k (drop (i + 1) (take n ps)) (drop (i + 1) (take n us)) (drop (i + 1) (take n gs)) ≡ take i gs ++ over k (drop i (take n ps)) (drop i (take n us)) (drop i (take n gs))
  give-no k gs h e = rw (set-get_or gs i 0) at (give_step k (get_or gs i 0) gs h (rw (ne_eqb (get_or ps i 0) k e)))

module _ (n i : ℕ) (h : n ≤ i) where
  pub least-end : (b m : ℕ) (ps us : List ℕ) → least_from b m (drop i (take n ps)) us ≡ m
  unfolding least_from
  least-end b m ps us = rw (row_end n i ps h)

  pub sizes-end : (k : ℕ) (ps us : List ℕ) → sizes_of k (drop i (take n ps)) us ≡ []
  unfolding sizes_of
  sizes-end k ps us = rw (row_end n i ps h)

  pub over-end : (k : ℕ) (ps us gs : List ℕ) → over k (drop i (take n ps)) us gs ≡ []
  unfolding over
  over-end k ps us gs = rw (row_end n i ps h)

  pub under-end : (m : ℕ) (ps : List ℕ) → (Under m (drop i (take n ps)) → Under m (take n ps)) → Under m (take n ps)
  under-end m ps f = f (rw (row_end n i ps h) tt)

pub under-step : (n i m : ℕ) (ps : List ℕ) → n ≤ length ps → i < n → get_or ps i 0 < m → (Under m (drop i (take n ps)) → Under m (take n ps)) → Under m (drop (i + 1) (take n ps)) → Under m (take n ps)
under-step n i m ps h j p f s = f (rw (row n i ps h j) (p, s))

-- tiers of ranks that there are are below the one that is none
pub under_none : (n : ℕ) (ps : List ℕ) → Ranked n ps → Under 4294967296 (take n ps) → Under no_tier (take n ps)
under_none zero ps r u = tt
under_none (suc n) [] r u = tt
under_none (suc n) (p ∷ ps) r u = (omega (arith, r 0 (omega arith), u.0), under_none n ps (λ s h. r (suc s) (omega arith)) u.1)

-- ---- the offers in the slots

upto_take : (f : ℕ → ℕ) (l : List ℕ) (k n : ℕ) → k + n ≤ length l → ((s : ℕ) → k ≤ s → s < k + n → f s ≡ get_or l s 0) → upto f k n ≡ take n (drop k l)
unfolding upto
upto_take f l k zero h e = refl
upto_take f l k (suc n) h e = rw (drop-cons l k 0 (omega arith), e k (omega arith) (omega arith), ← add-one k, upto_take f l (k + 1) n (omega arith) (λ s p q. e s (omega arith) (omega arith)))

upto-spots : (g : ℕ → Offer) (k n : ℕ) → spots (upto g k n) ≡ upto (λ i. tier (g i)) k n
unfolding upto spots
upto-spots g k zero = refl
upto-spots g k (suc n) = ap (λ (l : List ℕ). tier (g k) ∷ l) (upto-spots g (k + 1) n)

upto-sizes : (g : ℕ → Offer) (k n : ℕ) → sizes (upto g k n) ≡ upto (λ i. (g i).units) k n
unfolding upto
upto-sizes g k zero = refl
upto-sizes g k (suc n) = ap (λ (l : List ℕ). (g k).units ∷ l) (upto-sizes g (k + 1) n)

rank_number_lem : (r : ℕ) → r ≤ 4 → rank_number (rank_from r) ≡ r
rank_number_lem zero h = refl
rank_number_lem (suc zero) h = refl
rank_number_lem (suc (suc zero)) h = refl
rank_number_lem (suc (suc (suc zero))) h = refl
rank_number_lem (suc (suc (suc (suc zero)))) h = refl
rank_number_lem (suc (suc (suc (suc (suc r))))) h = absurd (omega arith)

module _ (longs words : List ℕ) (price : ℕ) (ps us : List ℕ) where
  tier-is : (s : ℕ) → get_or ps s 0 % 8 ≤ 4 → tier (offer_in longs words price ps us s) ≡ get_or ps s 0
  tier-is s h = let r : rank_number (rank_from (get_or ps s 0 % 8)) ≡ get_or ps s 0 % 8 = rank_number_lem (get_or ps s 0 % 8) h in omega arith

  pub spots-are : (n : ℕ) → n ≤ length ps → Ranked n ps → spots (offers_in longs words price ps us n) ≡ take n ps
  spots-are n h r =
      let z : n - 0 ≡ n = omega arith in
      rw z (upto-spots (offer_in longs words price ps us) 0 n ∙ upto_take (λ s. tier (offer_in longs words price ps us s)) ps 0 n (omega arith) (λ s a b. tier-is s (r s (omega arith))))

  pub sizes-are : (n : ℕ) → n ≤ length us → sizes (offers_in longs words price ps us n) ≡ take n us
  sizes-are n h =
      let z : n - 0 ≡ n = omega arith in
      rw z (upto-sizes (offer_in longs words price ps us) 0 n ∙ upto_take (λ s. get_or us s 0) us 0 n (omega arith) (λ s a b. refl))

-- no grants yet
pub cleared : (n : ℕ) (gave us : List ℕ) → length us ≡ n → n ≤ length gave → ((s : ℕ) → get_or gave s 0 ≡ 0) → take n gave ≡ zeros us
cleared zero gave [] e h z = refl
cleared zero gave (u ∷ us) e h z = absurd (omega arith)
cleared (suc n) [] us e h z = absurd (omega arith)
cleared (suc n) (g ∷ gave) [] e h z = absurd (omega arith)
cleared (suc n) (g ∷ gave) (u ∷ us) e h z = ap₂ (λ (x : ℕ) (l : List ℕ). x ∷ l) (z 0) (cleared n gave us (omega arith) (omega arith) (λ s. z (suc s)))

-- ---- the records of those at tier k: those of the first i slots are written

module _ (o : Order) (longs words ps us : List ℕ) (k i : ℕ) (gs : List ℕ) (x : ℕ) (h : i < length gs) (r : get_or ps i 0 % 8 ≤ 4) where
  abbrev fills_to : ℕ → List ℕ → List Fill
  fills_to j hs = fills_at o.number o.id k (offers_in longs words o.legs ps us j) (take j hs)

  abbrev offer : Offer
  offer = offer_in longs words o.legs ps us i

  fills-more : fills_to i gs ++ pick (eqb (tier offer) k && ltb 0 x) (fill_of o.number o.id offer x ∷ []) [] ≡ fills_to (i + 1) (set gs i x)
  fills-more =
      let z : i - 0 ≡ i = omega arith in
      let l : length (offers_in longs words o.legs ps us i) ≡ length (take i gs) = from-length (offer_in longs words o.legs ps us) 0 i ∙ z ∙ sym (length-take-le i gs (omega arith)) in
      rw (from_last (offer_in longs words o.legs ps us) i, add-one, take-suc-set gs i x h) (sym (fills-last o.number o.id k (offers_in longs words o.legs ps us i) (take i gs) offer x l))

  pub adds-yes : {old list list' : List ℕ} {at w w' : ℕ} → get_or ps i 0 ≡ k → Adds old at list w (fills_to i gs) → Adds list w list' w' (slot_records o.number o.id o.legs words (k % 8) i x) → Adds old at list' w' (fills_to (i + 1) (set gs i x))
  adds-yes {old} {list} {list'} {at} {w} {w'} e p q =
      rw (← fills-more, eq-eqb (tier offer) k (tier-is longs words o.legs ps us i r ∙ e)) (adds_then old list list' at w w' (fills_to i gs) (slot_records o.number o.id o.legs words (get_or ps i 0 % 8) i x) p (rw e q))

  pub adds-no : {old list : List ℕ} {at w : ℕ} → x ≡ get_or gs i 0 → (get_or ps i 0 ≡ k → ⊥) → Adds old at list w (fills_to i gs) → Adds old at list w (fills_to (i + 1) gs)
  adds-no {old} {list} {at} {w} q e p =
      let z : fills_to (i + 1) (set gs i x) ≡ fills_to (i + 1) gs = ap (fills_to (i + 1)) (rw q (set-get_or gs i 0)) in
      rw (← z, ← fills-more, ne_eqb (tier offer) k (λ y. e (sym (tier-is longs words o.legs ps us i r) ∙ y)), append-nil) p

-- ---- one record

pub record_is : (n o r c p u price : ℕ) (contra : Contra) → o ≤ 4_294_967_295 → u ≤ 4_294_967_295 → contra_from c ≡ contra → min p most_given ≡ price
    → record_from n o r c p u ≡ record { number = n; order = o; rank = rank_from r; contra = contra; price = cents price; units = u }
record_is n o r c p u price contra ho hu ec ep =
    let a : narrow o ≡ o = omega arith in
    let b : narrow u ≡ u = omega arith in
    λ i. record { number = n; order = a i; rank = rank_from r; contra = ec i; price = cents (ep i); units = b i }
