-- A book after an auction: the orders, released.
use mathlib.Core.Path.{◌≡◌, refl, ap, sym, ◌∙◌}
use mathlib.Core.Bool.{Bool, false, not}
use mathlib.Core.List.{List, ◌∷◌}
use Prim.Native.Nat.{ℕ, zero, suc, ◌+◌, ◌-◌, ◌<◌}
use native.Mathlib.Omega.{arith}
use lib.ListN.{get_or}
use Rattle.rules.specs.Book.{Entry, is_response, with_stage, released, expired, released_all}
use Rattle.rules.specs.State.{with_book}
use Rattle.types.specs.View.{upto, stage_of}
use Rattle.state.specs.Layout as L
use Rattle.state.specs.View.{entry_at, open_count, entries_of, state_of}
use Rattle.state.specs.Stores.{Kept}
use Rattle.state.proofs.TableLaws.{from-same}
use Rattle.state.proofs.StoreLaws.{kept_then}
use Rattle.book.proofs.StageLaws.{stage_cases}
use Rattle.book.specs.Kept.{KeptBy}
use Rattle.book.proofs.BookLaws.{becomes, entry_turned}

-- who is not in the queue stays at its stage
pub stays : (n : ℕ) → (n ≡ 2 → ⊥) → stage_of n ≡ released (stage_of n)
stays n = stage_cases (λ m s. (m ≡ 2 → ⊥) → s ≡ released s) (λ x. refl) (λ x. refl) (λ x. absurd (x refl)) (λ m h x. refl) n

released-upto : (f : ℕ → Entry) (k n : ℕ) → released_all (upto f k n) ≡ upto (λ i. with_stage (released (f i).stage) (f i)) k n
unfolding upto
released-upto f k zero = refl
released-upto f k (suc n) = ap (λ (es : List Entry). with_stage (released (f k).stage) (f k) ∷ es) (released-upto f (k + 1) n)

released_in : (a l m : List ℕ) → Kept L.stages L.count l m → ((i : ℕ) → i < open_count l → stage_of (get_or m (L.stages + i) 0) ≡ released (stage_of (get_or l (L.stages + i) 0))) → entries_of a m ≡ released_all (entries_of a l)
released_in a l m t h =
    rw (t.above L.count (omega arith)) (from-same (entry_at a m) (λ i. with_stage (released (entry_at a l i).stage) (entry_at a l i)) 0 (open_count l) (λ i p q.
    entry_turned a l m i (get_or l (L.units + i) 0) _ (omega arith) (λ j r. t.below j (omega arith)) (λ j r v. t.below j v) (t.below (L.units + i) (omega arith)) (h i q))
    ∙ sym (released-upto (entry_at a l) 0 (open_count l - 0)))

-- the orders, then released
pub closed_by : (a l b m n : List ℕ) (flags : List Bool) → ((i : ℕ) → i < open_count l → get_or flags i false ≡ not (is_response (stage_of (get_or l (L.stages + i) 0)))) → KeptBy (λ i. get_or flags i false) a l b m
    → Kept L.stages L.count m n → ((i : ℕ) → i < open_count m → stage_of (get_or n (L.stages + i) 0) ≡ released (stage_of (get_or m (L.stages + i) 0)))
    → state_of b n ≡ with_book (state_of a l) (released_all (expired (entries_of a l)))
closed_by a l b m n flags f r t h =
    becomes a l b n (released_all (expired (entries_of a l))) r.longs (kept_then L.ids L.bids L.ids L.bids L.stages L.count l m n (omega arith) (omega arith) (omega arith) (omega arith) r.words t)
    (released_in b m n t h ∙ ap released_all (r.entries (λ e. not (is_response e.stage)) f))
