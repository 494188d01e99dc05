-- What the loops over the slots compute: lists of tiers and of units, as long as each other.
use Rattle.std.specs.Prelude.{List, [], ◌∷◌, ℕ, ◌<◌, eqb, ltb, leb}
use Rattle.rules.specs.Basics.{pick}
use Rattle.rules.specs.Turn.{Offer, tier}

-- the tier of each offer
unfoldable pub spots : List Offer → List ℕ
spots [] = []
spots (e ∷ es) = tier e ∷ spots es

-- no tier: above every one, as none has a rank of 7
abbrev pub no_tier : ℕ
no_tier = 4_294_967_295

-- the nearest tier from b on that has units, where m is so far: p where it is below m, else m
abbrev pub nearer : ℕ → ℕ → ℕ → ℕ → ℕ
nearer b m p u = pick (leb b p) (pick (ltb p m) (pick (ltb 0 u) p m) m) m

-- the least of m and the tiers from b on that have units
unfoldable pub least_from : ℕ → ℕ → List ℕ → List ℕ → ℕ
least_from b m [] us = m
least_from b m (p ∷ ps) [] = m
least_from b m (p ∷ ps) (u ∷ us) = least_from b (nearer b m p u) ps us

-- the units at tier k, 0 for those elsewhere
unfoldable pub sizes_of : ℕ → List ℕ → List ℕ → List ℕ
sizes_of k [] us = []
sizes_of k (p ∷ ps) [] = []
sizes_of k (p ∷ ps) (u ∷ us) = pick (eqb p k) u 0 ∷ sizes_of k ps us

-- the new numbers for those at tier k, the old ones for the others
unfoldable pub over : ℕ → List ℕ → List ℕ → List ℕ → List ℕ
over k [] xs gs = []
over k (p ∷ ps) [] gs = []
over k (p ∷ ps) (x ∷ xs) [] = []
over k (p ∷ ps) (x ∷ xs) (g ∷ gs) = pick (eqb p k) x g ∷ over k ps xs gs

-- each is below n
abbrev pub Under : ℕ → List ℕ → Type 0
Under n [] = Unit {0}
Under n (x ∷ xs) = (x < n) × Under n xs
