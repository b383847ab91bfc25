-- The names of the known units in one list.
use Rattle.std.specs.Prelude.{ℕ, suc, List, [], ◌∷◌, ◌++◌}
use Rattle.label.specs.Notations.{Notations}
use Rattle.label.specs.Units.{Name, KnownUnit, units}

-- a name, the notations that know it, and the row of its unit
pub record Entry : Type 0 where
  pub letters : List ℕ
  pub known_in : Notations
  pub unit : ℕ

unfoldable pub entries_of : ℕ → List Name → List Entry
entries_of i [] = []
entries_of i (x ∷ xs) = record { letters = x.letters; known_in = x.known_in; unit = i } ∷ entries_of i xs

-- the names of the rows from i on
unfoldable pub entries_from : ℕ → List KnownUnit → List Entry
entries_from i [] = []
entries_from i (u ∷ us) = entries_of i u.names ++ entries_from (suc i) us

-- every name, row by row
unfoldable pub names : List Entry
names = entries_from 0 units
