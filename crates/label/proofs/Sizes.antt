-- The table of units by computed tests: each base is one unit, and a name is one unit's.
use Prim.Native.Nat.{ℕ, suc, ◌+◌}
use mathlib.Core.Bool.{Bool, true, false, ◌&&◌, ◌||◌, not}
use mathlib.Core.List.{List, [], ◌∷◌}
use mathlib.Core.Option.{Option, none, some}
use lib.Dec.{T, eqb}
use lib.IntN.{pos}
use Rattle.label.proofs.Computing.{answers_compute}
use Rattle.label.specs.Bytes.{all}
use Rattle.label.specs.Choice.{pick}
use Rattle.label.specs.Notations.{everywhere, member}
use Rattle.label.specs.Units.{BasePower, Name, KnownUnit, units}
use Rattle.label.specs.Symbols.{unit_named}
use Rattle.label.specs.Reading.{all_bases}
use Rattle.label.specs.Conversion.{same_whole}

-- BASES: each is the size of one unit

is_base : ℕ → List BasePower → Bool
is_base b [] = false
is_base b (x ∷ []) = eqb b x.base && same_whole x.power (pos 1)
is_base b (x ∷ y ∷ xs) = false

-- how many units are base b and nothing more
pub units_of : ℕ → List KnownUnit → ℕ
units_of b [] = 0
units_of b (u ∷ us) =
    pick (eqb u.size.count 1 && (same_whole u.size.tens.0 (pos 0) && is_base b u.size.bases)) 1 0 + units_of b us

pub bases_once : T (all (λ b. eqb (units_of b units) 1) all_bases)
unfolding units_of is_base answers_compute
bases_once = tt

-- NAMES: where a notation knows a name, it is the name of that row

at_row : ℕ → Option ℕ → Bool
at_row i none = false
at_row i (some u) = eqb u i

names_told : ℕ → ℕ → List Name → Bool
names_told n i [] = true
names_told n i (x ∷ xs) = (not (member n x.known_in) || at_row i (unit_named n x.letters)) && names_told n i xs

pub rows_told : ℕ → ℕ → List KnownUnit → Bool
rows_told n i [] = true
rows_told n i (u ∷ us) = names_told n i u.names && rows_told n (suc i) us

pub names_once : T (all (λ n. rows_told n 0 units) everywhere)
unfolding rows_told names_told at_row answers_compute
names_once = tt
