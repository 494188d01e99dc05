-- What an auction keeps of the legs, read from the lent slices and lowered there.
use mathlib.Core.Path.{◌≡◌, refl, ap, sym, ◌∙◌}
use mathlib.Core.Bool.{Bool, true, false, not, true≢false}
use mathlib.Core.List.{List, [], ◌∷◌}
use Prim.Native.Nat.{ℕ, ◌+◌, ◌-◌, min}
use native.Mathlib.Decide.{ℕ_discrete}
use native.Mathlib.Omega.{arith}
use borrow.Author.Tests.{ne_eqb}
use lib.Dec.{eqb}
use lib.ListN.{get_or, set}
use lib.Seq.{get_or-set_same, get_or-set_other}
use Rattle.rules.specs.Basics.{pick}
use Rattle.rules.specs.Prices.{Derived}
use Rattle.rules.specs.State.{Auction, none, pending, with_auction}
use Rattle.rules.specs.Auction.{keeping, up_to_kept, gone, less_kept}
use Rattle.rules.proofs.TestLaws.{and_right}
use Rattle.types.proofs.TableLaws.{from_cons, from_end}
use Rattle.state.specs.Layout as L
use Rattle.state.specs.Layout.{WordsSized}
use Rattle.state.specs.View.{flag, start_at, start_count, pending_of, auction_of, state_of}
use Rattle.state.proofs.StoreLaws.{kept_all, kept_set}
use Rattle.state.proofs.StateLaws.{auction-alone}
use Rattle.execution.specs.Kept.{is_kept}

-- ---- the list

module _ (longs words : List ℕ) where
  pub start_none : get_or longs L.start_count 0 ≡ 0 → (pending_of longs words).start ≡ []
  start_none e = from_end (start_at longs words) 0 (start_count longs) (omega arith)

  pub start-one : (get_or longs L.start_count 0 ≡ 0 → ⊥) → (pending_of longs words).start ≡ start_at longs words 0 ∷ []
  start-one h =
      from_cons (start_at longs words) 0 (start_count longs) (omega arith) ∙ ap (λ (l : List Derived). start_at longs words 0 ∷ l) (from_end (start_at longs words) (0 + 1) (start_count longs) (omega arith))

  -- by whether a price is kept
  by-kept : (p : ℕ) (P : List Derived → Bool → Type 0) → P [] false → P (start_at longs words 0 ∷ []) (eqb (get_or longs L.start_prices 0) p) → P (pending_of longs words).start (is_kept longs p)
  by-kept p P a b =
      elim (ℕ_discrete (get_or longs L.start_count 0) 0) [
        | yes e ↦ rw (start_none e, e) a
        | no h ↦ rw (start-one h, ne_eqb (get_or longs L.start_count 0) 0 h) b
      ]

  pub up-to-kept-is : (d : Derived) → up_to_kept (pending_of longs words).start d ≡ pick (is_kept longs d.price) (min (get_or words L.start_units 0) d.units) d.units
  up-to-kept-is d = by-kept d.price (λ ks b. up_to_kept ks d ≡ pick b (min (get_or words L.start_units 0) d.units) d.units) refl refl

  gone-other : (p n : ℕ) → is_kept longs p ≡ false → gone p n (pending_of longs words).start ≡ (pending_of longs words).start
  gone-other p n = by-kept p (λ ks b. b ≡ false → gone p n ks ≡ ks) (λ e. refl) (λ e. rw e)

-- a price that is kept
kept_so : (longs : List ℕ) (p : ℕ) → is_kept longs p ≡ true → (get_or longs L.start_count 0 ≡ 0 → ⊥) × (eqb (get_or longs L.start_prices 0) p ≡ true)
kept_so longs p h = (λ e. true≢false (sym (rw e at h)), and_right (not (eqb (get_or longs L.start_count 0) 0)) (eqb (get_or longs L.start_prices 0) p) h)

-- ---- n units at a price are taken

module _ (longs words : List ℕ) (d : Derived) (n : ℕ) where
  abbrev after : Auction
  after = less_kept (auction_of longs words) (d ∷ []) (n ∷ [])

  after_is : pick (flag (get_or words L.pending 0)) (pending (keeping (gone d.price n (pending_of longs words).start) (pending_of longs words))) none ≡ after
  after_is = by (flag (get_or words L.pending 0))
    where
      by : (b : Bool) → pick b (pending (keeping (gone d.price n (pending_of longs words).start) (pending_of longs words))) none ≡ less_kept (pick b (pending (pending_of longs words)) none) (d ∷ []) (n ∷ [])
      by true = refl
      by false = refl

  -- outside an auction nothing is
  pub taken-outside : get_or words L.pending 0 ≡ 0 → state_of longs words ≡ with_auction (state_of longs words) after
  taken-outside e = rw e

  -- from a price that is not kept neither
  pub taken-other : is_kept longs d.price ≡ false → state_of longs words ≡ with_auction (state_of longs words) after
  taken-other h =
      ap (λ (a : Auction). with_auction (state_of longs words) a)
      (ap (λ (ks : List Derived). pick (flag (get_or words L.pending 0)) (pending (keeping ks (pending_of longs words))) none) (sym (gone-other longs words d.price n h)) ∙ after_is)

  -- from one that is kept
  module _ (s : WordsSized words) (h : is_kept longs d.price ≡ true) where
    abbrev new : List ℕ
    new = set words L.start_units (get_or words L.start_units 0 - n)

    as_it_was : (i : ℕ) → (i ≡ L.start_units → ⊥) → get_or new i 0 ≡ get_or words i 0
    as_it_was i e = get_or-set_other words L.start_units i (get_or words L.start_units 0 - n) 0 e

    start-gone : (pending_of longs new).start ≡ gone d.price n (pending_of longs words).start
    start-gone =
        let k = kept_so longs d.price h in
        start-one longs new k.0
        ∙ rw (k.1, get_or-set_same words L.start_units (get_or words L.start_units 0 - n) 0 (omega arith)) refl
        ∙ ap (gone d.price n) (sym (start-one longs words k.0))

    auction-gone : auction_of longs new ≡ after
    auction-gone =
        (λ i. pick (flag (as_it_was L.pending (λ e. omega arith) i)) (pending (record { buy = flag (as_it_was L.buy (λ e. omega arith) i); deadline = get_or longs L.deadline 0; start = start-gone i })) none) ∙ after_is

    pub taken-kept : state_of longs new ≡ with_auction (state_of longs words) after
    taken-kept =
        auction-alone longs longs words new (kept_all L.deadline L.first_number longs) (kept_set L.pending L.symbols words words L.start_units (get_or words L.start_units 0 - n) (omega arith) (omega arith) (kept_all L.pending L.symbols words))
        ∙ ap (λ (a : Auction). with_auction (state_of longs words) a) auction-gone
