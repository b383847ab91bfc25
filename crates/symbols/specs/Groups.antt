-- The names in groups by their keys, so that a search can start at the first name of a spelling's group.
use Rattle.std.specs.Prelude.{ℕ, suc, ◌%◌, List, [], ◌∷◌, eqb}
use Rattle.label.specs.Choice.{pick}

-- keys of one group have one remainder by this number
abbrev pub groups : ℕ
groups = 147

-- the place of the first key of group g, counted from i, or where the keys end
unfoldable pub first_in_group : ℕ → ℕ → List ℕ → ℕ
first_in_group g i [] = i
first_in_group g i (k ∷ ks) = pick (eqb (k % groups) g) i (first_in_group g (suc i) ks)
