-- What the number of a stage says.
use mathlib.Core.Path.{◌≡◌, refl}
use Prim.Native.Nat.{ℕ, ◌<◌}
use native.Mathlib.Decide.{ℕ_discrete}
use native.Mathlib.Omega.{arith}
use borrow.Author.Tests.{lt-ltb, ne_eqb}
use lib.Dec.{eqb, ltb}
use Rattle.rules.specs.Book.{Stage, held, live, queued, answer, is_held, is_live, is_queued, is_response}
use Rattle.types.specs.View.{stage_of}

-- the four cases
pub stage_cases : (P : ℕ → Stage → Type 0) → P 0 held → P 1 live → P 2 queued → ((n : ℕ) → 2 < n → P n answer) → (n : ℕ) → P n (stage_of n)
stage_cases P a b c d n =
    elim (ℕ_discrete n 0) [
      | yes e ↦ rw e a
      | no x ↦ rw (ne_eqb n 0 x) (elim (ℕ_discrete n 1) [
        | yes e ↦ rw e b
        | no y ↦ rw (ne_eqb n 1 y) (elim (ℕ_discrete n 2) [
          | yes e ↦ rw e c
          | no z ↦ rw (ne_eqb n 2 z) (d n (omega arith))
        ])
      ])
    ]

pub held_is : (n : ℕ) → eqb n 0 ≡ is_held (stage_of n)
held_is n = stage_cases (λ m s. eqb m 0 ≡ is_held s) refl refl refl (λ m h. ne_eqb m 0 (λ (e : m ≡ 0). omega arith)) n

pub live_is : (n : ℕ) → eqb n 1 ≡ is_live (stage_of n)
live_is n = stage_cases (λ m s. eqb m 1 ≡ is_live s) refl refl refl (λ m h. ne_eqb m 1 (λ (e : m ≡ 1). omega arith)) n

pub queued_is : (n : ℕ) → eqb n 2 ≡ is_queued (stage_of n)
queued_is n = stage_cases (λ m s. eqb m 2 ≡ is_queued s) refl refl refl (λ m h. ne_eqb m 2 (λ (e : m ≡ 2). omega arith)) n

pub response_is : (n : ℕ) → ltb 2 n ≡ is_response (stage_of n)
response_is n = stage_cases (λ m s. ltb 2 m ≡ is_response s) refl refl refl (λ m h. lt-ltb 2 m h) n
