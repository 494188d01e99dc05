-- What the loops that share an amount compute.
use Rattle.std.specs.Prelude.{List, [], ◌∷◌, ℕ, ◌+◌, ltb}
use Rattle.rules.specs.Basics.{pick}
use Rattle.rules.specs.Share.{Part}

-- what each has got and its remainder, side by side
unfoldable pub paired : List ℕ → List ℕ → List Part
paired [] ls = []
paired (g ∷ gs) [] = []
paired (g ∷ gs) (l ∷ ls) = record { got = g; left = l } ∷ paired gs ls

-- the place of the first of the largest of l, whose first place is k, where the largest before it is m, at i
unfoldable pub max_from : ℕ → ℕ → ℕ → List ℕ → ℕ
max_from k i m [] = i
max_from k i m (x ∷ l) = pick (ltb m x) (max_from (k + 1) k x l) (max_from (k + 1) i m l)
