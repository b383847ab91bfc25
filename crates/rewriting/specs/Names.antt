-- The names of a unit as a part of the table of names.
use Rattle.std.specs.Prelude.{ℕ, ◌+◌, ◌-◌, ◌≤◌, ◌≡◌, Bool, ◌&&◌, List, [], ◌∷◌, map, length, take, drop, get_or, Option, Some, None}
use Rattle.std.proofs.Math.Option.{Option as Maybe, none, some}
use Rattle.label.specs.Bytes.{same}
use Rattle.label.specs.Notations.{member}
use Rattle.label.specs.Units.{Name, KnownUnit, units, unit_at}
use Rattle.symbols.specs.Keys.{key_of, agrees}
use Rattle.symbols.specs.Names.{Entry, names}
use Rattle.symbols.specs.Columns.{name_count}
use Rattle.rewriting.specs.declared.name.NameRange.{NameRange}
use Rattle.rewriting.specs.declared.name.Own.{Own}

-- the entry at i of the table of names, and past its end
unfoldable pub entry : ℕ → Entry
entry i = get_or names i (record { letters = []; known_in = []; unit = 0 })

-- notation n knows the letters l by this name
abbrev pub is_named : ℕ → List ℕ → Name → Bool
is_named n l x = same l x.letters && member n x.known_in

abbrev pub entry_name : Entry → Name
entry_name x = record { letters = x.letters; known_in = x.known_in }

-- a part of the table of names
unfoldable pub names_in : NameRange → List Name
names_in x = map entry_name (take (x.end - x.first) (drop x.first names))

-- the letters of a name by its place, if there is one
unfoldable pub name_at : Option ℕ → Maybe (List ℕ)
name_at None = none
name_at (Some i) = some (entry i).letters

-- where each unit's names start, the table having i names before them, and where the last unit's names end
unfoldable pub places_from : ℕ → List KnownUnit → List ℕ
places_from i [] = i ∷ []
places_from i (u ∷ us) = i ∷ places_from (i + length u.names) us

unfoldable pub first_places : List ℕ
first_places = places_from 0 units

-- a part of the table ends in it
pub record InTable (x : NameRange) : Type 0 where
  pub within : x.end ≤ name_count

-- the names of the unit of row u
pub record NamesOf (u : ℕ) (x : NameRange) : Type 0 where
  pub part : InTable x
  pub are : names_in x ≡ (unit_at u).names

-- the letters l by their count and key: these agree with those of a name exactly if the letters are the same
pub record OwnOf (l : List ℕ) (x : Own) : Type 0 where
  pub agree : (i : ℕ) → agrees x.size x.number (length (entry i).letters) (key_of (entry i).letters) ≡ same l (entry i).letters
