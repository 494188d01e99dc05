-- The turns of some orders: none, one, and one more.
use mathlib.Core.Path.{◌≡◌, refl, ap, sym, ◌∙◌}
use mathlib.Core.Bool.{Bool, true, false}
use mathlib.Core.List.{List, [], ◌∷◌, ◌++◌, append_assoc, append-nil}
use Prim.Native.Nat.{ℕ, ◌+◌, ◌<◌, min}
use native.Mathlib.Numerals.{add-one}
use native.Mathlib.Omega.{arith}
use borrow.Author.Tests.{ltb-true, ltb-false}
use lib.Dec.{ltb}
use lib.ListN.{length, get_or, take}
use lib.Seq.{take-suc, take_all}
use Rattle.rules.specs.State.{State}
use Rattle.rules.specs.Book.{Entry, nobody, found, find}
use Rattle.rules.specs.Execution.{Mode, Reply, still, then, ready, execute_if, execute, serve}

then-then : (r : Reply) (f g : State → Reply) → then (then r f) g ≡ then r (λ s. then (f s) g)
then-then r f g = λ i. record { state = (g (f r.state).state).state; turns = append_assoc r.turns (f r.state).turns (g (f r.state).state).turns i }

pub serve_none : (m : Mode) (s : State) → serve m [] s ≡ still s
unfolding serve
serve_none m s = refl

pub serve_both : (m : Mode) (is js : List ℕ) (s : State) → serve m (is ++ js) s ≡ then (serve m is s) (serve m js)
unfolding serve
serve_both m [] js s = refl
serve_both m (i ∷ is) js s =
    let e : Reply = execute m i s in
    ap (λ (q : Reply). record { state = q.state; turns = e.turns ++ q.turns }) (serve_both m is js e.state) ∙ sym (then-then e (serve m is) (serve m js))

serve-one : (m : Mode) (i : ℕ) (s : State) → serve m (i ∷ []) s ≡ execute m i s
unfolding serve
serve-one m i s = λ j. record { state = (execute m i s).state; turns = append-nil (execute m i s).turns j }

-- one id more
pub serve_more : (m : Mode) (ids : List ℕ) (i : ℕ) (s : State) → i < length ids → then (serve m (take i ids) s) (execute m (get_or ids i 0)) ≡ serve m (take (i + 1) ids) s
serve_more m ids i s h =
    let r : Reply = serve m (take i ids) s in
    rw (add-one, take-suc ids i 0 h)
    (ap (λ (q : Reply). record { state = q.state; turns = r.turns ++ q.turns }) (sym (serve-one m (get_or ids i 0) r.state)) ∙ sym (serve_both m (take i ids) (get_or ids i 0 ∷ []) s))

-- the first n of a list that may be shorter
pub take_least : (i n : ℕ) (ids : List ℕ) → i ≡ min n (length ids) → take i ids ≡ take n ids
take_least i n ids e = go (ltb n (length ids)) refl
  where
    go : (b : Bool) → ltb n (length ids) ≡ b → take i ids ≡ take n ids
    go true t =
        let h = ltb-true n (length ids) t in
        let same : i ≡ n = omega (arith, e, h) in
        ap (λ (k : ℕ). take k ids) same
    go false t =
        let h = ltb-false n (length ids) t in
        take_all i ids (omega (arith, e, h)) ∙ sym (take_all n ids h)

-- what was found under an id
module _ (m : Mode) (s : State) (i : ℕ) where
  pub nobody-there : find i s.book ≡ nobody → execute m i s ≡ still s
  unfolding execute
  nobody-there e = rw e refl

  module _ (o : Entry) (e : find i s.book ≡ found o) where
    pub not-ready : ready m s o ≡ false → execute m i s ≡ still s
    unfolding execute
    not-ready r = rw (e, r) refl

    pub ready-there : ready m s o ≡ true → execute_if true m s o ≡ execute m i s
    unfolding execute
    ready-there r = sym (rw (e, r) refl)
