-- Turns in the lent slices: none, and some after others.
use mathlib.Core.Path.{◌≡◌, refl, ap, sym, subst, ◌∙◌}
use mathlib.Core.List.{List, [], ◌∷◌, ◌++◌, append_assoc}
use Prim.Native.Nat.{ℕ}
use Rattle.rules.specs.State.{State}
use Rattle.rules.specs.Turn.{Fill}
use Rattle.rules.specs.Execution.{Turn, Reply, still, then}
use Rattle.rules.specs.LegPrices.{LegPrices}
use Rattle.rules.specs.Step.{records_of, prices_of}
use Rattle.state.specs.View.{state_of}
use Rattle.records.specs.Records.{AddsPriced}
use Rattle.records.proofs.RecordLaws.{priced_none, priced-then}
use Rattle.execution.specs.Plays.{Goes}

records_join : (ts us : List Turn) → records_of (ts ++ us) ≡ records_of ts ++ records_of us
unfolding records_of
records_join [] us = refl
records_join (t ∷ ts) us = ap (λ (l : List Fill). t.records ++ l) (records_join ts us) ∙ sym (append_assoc t.records (records_of ts) (records_of us))

prices-join : (ts us : List Turn) → prices_of (ts ++ us) ≡ prices_of ts ++ prices_of us
unfolding prices_of
prices-join [] us = refl
prices-join (t ∷ ts) us = ap (λ (l : List LegPrices). t.prices ++ l) (prices-join ts us) ∙ sym (append_assoc t.prices (prices_of ts) (prices_of us))

-- some turns' records with their leg prices
abbrev Lists : List ℕ → ℕ → List ℕ → ℕ → List Turn → Type 0
Lists old at new r ts = AddsPriced old at new r (records_of ts) (prices_of ts)

-- no turn
pub goes_none : (l w f : List ℕ) (at : ℕ) (q : State → Reply) → q (state_of l w) ≡ still (state_of l w) → Goes l w f at l w f at q
unfolding records_of prices_of
goes_none l w f at q e =
    record {
      state = sym (ap (λ (r : Reply). r.state) e);
      records = subst (λ (r : Reply). Lists f at f at r.turns) (sym e) (priced_none f at);
    }

-- the same turns under another name
pub goes_as : {l w f l' w' f' : List ℕ} {at r : ℕ} {q : State → Reply} (p : State → Reply) → q (state_of l w) ≡ p (state_of l w) → Goes l w f at l' w' f' r q → Goes l w f at l' w' f' r p
goes_as {l} {w} {f} {l'} {w'} {f'} {at} {r} p e g =
    record {
      state = g.state ∙ ap (λ (x : Reply). x.state) e;
      records = subst (λ (x : Reply). Lists f at f' r x.turns) e g.records;
    }

-- one after the other
pub goes_then : {l w f l' w' f' l'' w'' f'' : List ℕ} {at k r : ℕ} {q p : State → Reply} → Goes l w f at l' w' f' k q → Goes l' w' f' k l'' w'' f'' r p → Goes l w f at l'' w'' f'' r (λ s. then (q s) p)
goes_then {l} {w} {f} {l'} {w'} {f'} {l''} {w''} {f''} {at} {k} {r} {q} {p} g h =
    record {
      state = h.state ∙ ap (λ (x : State). (p x).state) g.state;
      records =
          let ts : List Turn = (q (state_of l w)).turns in
          let us : List Turn = (p (q (state_of l w)).state).turns in
          rw (records_join ts us, prices-join ts us) (priced-then f f' f'' at k r (records_of ts) (records_of us) (prices_of ts) (prices_of us) g.records
          (subst (λ (x : State). Lists f' k f'' r (p x).turns) g.state h.records));
    }

-- turns from a state that another change left
pub goes_after : {a b l w f l' w' f' : List ℕ} {at r : ℕ} {q : State → Reply} (g : State → State) → state_of l w ≡ g (state_of a b) → Goes l w f at l' w' f' r q → Goes a b f at l' w' f' r (λ s. q (g s))
goes_after {a} {b} {l} {w} {f} {l'} {w'} {f'} {at} {r} {q} g e h =
    record {
      state = h.state ∙ ap (λ (x : State). (q x).state) e;
      records = subst (λ (x : State). Lists f at f' r (q x).turns) e h.records;
    }
