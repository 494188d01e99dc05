-- Ids by first record, with one record more.
use mathlib.Core.Path.{◌≡◌, refl, ap, sym, ◌∙◌}
use mathlib.Core.Bool.{Bool, true, false}
use mathlib.Core.List.{List, [], ◌∷◌, ◌++◌}
use Prim.Native.Nat.{ℕ}
use native.Mathlib.Decide.{ℕ_discrete}
use borrow.Author.Tests.{eq-eqb, ne_eqb}
use Rattle.rules.specs.Basics.{pick}
use Rattle.rules.specs.Turn.{Fill}
use Rattle.rules.specs.Average.{without, firsts}
use Rattle.average.specs.Sums.{named, new_id}

without-append : (i : ℕ) (js ks : List ℕ) → without i (js ++ ks) ≡ without i js ++ without i ks
without-append i [] ks = refl
without-append i (j ∷ js) ks =
    elim (ℕ_discrete j i) [
      | yes e ↦ rw (eq-eqb j i e) (without-append i js ks)
      | no n ↦ rw (ne_eqb j i n) (ap (λ (l : List ℕ). j ∷ l) (without-append i js ks))
    ]

-- an id that a record names is not new behind it
without_new : (f : Fill) (i : ℕ) (fs : List Fill) → without f.order (new_id i fs) ≡ new_id i (f ∷ fs)
without_new f i fs =
    elim (ℕ_discrete f.order i) [
      | yes e ↦ rw (eq-eqb f.order i e) (gone e (named i fs))
      | no n ↦ rw (ne_eqb f.order i n) (kept n (named i fs))
    ]
  where
    gone : f.order ≡ i → (b : Bool) → without f.order (pick b [] (i ∷ [])) ≡ []
    gone e true = refl
    gone e false = rw (eq-eqb i f.order (sym e))

    kept : (f.order ≡ i → ⊥) → (b : Bool) → without f.order (pick b [] (i ∷ [])) ≡ pick b [] (i ∷ [])
    kept n true = refl
    kept n false = rw (ne_eqb i f.order (λ e. n (sym e)))

pub firsts_last : (fs : List Fill) (f : Fill) → firsts (fs ++ (f ∷ [])) ≡ firsts fs ++ new_id f.order fs
firsts_last [] f = refl
firsts_last (g ∷ fs) f =
    ap (λ (l : List ℕ). g.order ∷ l)
    (ap (without g.order) (firsts_last fs f) ∙ without-append g.order (firsts fs) (new_id f.order fs) ∙ ap (λ (l : List ℕ). without g.order (firsts fs) ++ l) (without_new g f.order fs))
