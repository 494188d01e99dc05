-- A leg stored in the words of a state, read back; the legs before it as they were.
use mathlib.Core.Path.{◌≡◌, ◌∙◌}
use mathlib.Core.List.{List, [], ◌∷◌}
use Prim.Native.Nat.{ℕ, ◌+◌, ◌*◌, ◌<◌}
use native.Mathlib.Omega.{arith}
use lib.ListN.{get_or}
use Rattle.types.specs.declared.Leg.{Leg}
use Rattle.state.specs.Layout as L
use Rattle.state.specs.Layout.{WordsSized}
use Rattle.state.specs.Stores.{Store, store, stores}
use Rattle.state.proofs.StoreLaws.{stores_other, rising_read}
use Rattle.opening.specs.Stored.{HasSymbol, StoresLeg}

-- the words of a leg but its symbol, where they are stored
abbrev pub leg_stores : ℕ → Leg → List Store
leg_stores k l = store (L.sides + k) l.side ∷ store (L.ratios + k) l.ratio ∷ store (L.mpvs + k) l.mpv ∷ []

module _ (w m : List ℕ) (k : ℕ) (l : Leg) where
  other : (i : ℕ) → (i ≡ L.sides + k → ⊥) → (i ≡ L.ratios + k → ⊥) → (i ≡ L.mpvs + k → ⊥) → get_or (stores w (leg_stores k l)) i 0 ≡ get_or w i 0
  other i a b c = stores_other w (leg_stores k l) i (a, (b, (c, tt)))

  pub leg-stored : WordsSized w → k < 4 → HasSymbol k l.symbol (stores w (leg_stores k l)) m → StoresLeg k l w m
  leg-stored z h y =
      let e = rising_read w L.sides L.leg_counts (leg_stores k l) (omega arith) (omega arith, omega arith, (omega arith, omega arith, (omega arith, omega arith, tt))) in
      record {
        here = record {
          side = y.kept.below (L.sides + k) (omega arith) ∙ e.0;
          ratio = y.kept.below (L.ratios + k) (omega arith) ∙ e.1.0;
          mpv = y.kept.below (L.mpvs + k) (omega arith) ∙ e.1.1.0;
          symbol = y.here;
        };
        before = λ i n b g. record {
          side = y.kept.below (L.sides + i) (omega arith) ∙ other (L.sides + i) (λ q. omega arith) (λ q. omega arith) (λ q. omega arith) ∙ g.side;
          ratio = y.kept.below (L.ratios + i) (omega arith) ∙ other (L.ratios + i) (λ q. omega arith) (λ q. omega arith) (λ q. omega arith) ∙ g.ratio;
          mpv = y.kept.below (L.mpvs + i) (omega arith) ∙ other (L.mpvs + i) (λ q. omega arith) (λ q. omega arith) (λ q. omega arith) ∙ g.mpv;
          symbol = λ j p. y.kept.below (L.symbols + 21 * i + j) (omega arith) ∙ other (L.symbols + 21 * i + j) (λ q. omega arith) (λ q. omega arith) (λ q. omega arith) ∙ g.symbol j p;
        };
      }
