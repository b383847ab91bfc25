-- The columns of the tables, derived from the tables of label/specs.
use Rattle.std.specs.Prelude.{ℕ, ◌+◌, ◌*◌, ◌/◌, ◌%◌, ◌≡◌, Bool, List, map, ℤ, length, get_or}
use Rattle.label.specs.Prefixes.{Prefix, prefixes}
use Rattle.label.specs.Units.{KnownUnit, units}
use Rattle.symbols.specs.Keys.{key_of}
use Rattle.symbols.specs.Sets.{bits}
use Rattle.symbols.specs.Names.{Entry, names}
use Rattle.symbols.specs.Slots.{slot, prime_slot, four_each}
use Rattle.symbols.specs.declared.unit_table.Name.{Name}

-- HOW MANY THERE ARE

-- names, prefixes and units. That the tables have as many is proved (`names_count`, `prefixes_count`, `units_count`).
abbrev pub name_count : ℕ
name_count = 68

abbrev pub prefix_count : ℕ
prefix_count = 20

abbrev pub unit_count : ℕ
unit_count = 61

-- NAMES

unfoldable pub name_keys : List ℕ
name_keys = map (λ (x : Entry). key_of x.letters) names

-- how many letters a name has, the bits of the notations that know it, and the row of its unit, a byte each
abbrev pub name_code : Entry → ℕ
name_code x = (length x.letters * 256 + bits x.known_in) * 256 + x.unit

unfoldable pub name_codes : List ℕ
name_codes = map name_code names

-- the name at place i, as the two columns have it
pub record NameAt (i : ℕ) (x : Name) : Type 0 where
  pub key_is : x.key ≡ get_or name_keys i 0
  pub size_is : x.size ≡ get_or name_codes i 0 / 65536
  pub set_is : x.known_in ≡ get_or name_codes i 0 / 256 % 256
  pub unit_is : x.unit ≡ get_or name_codes i 0 % 256

-- PREFIXES

-- a prefix as one number: how many letters it has, and below that their key, in two bytes
abbrev pub prefix_code : Prefix → ℕ
prefix_code p = length p.name * 65536 + key_of p.name

unfoldable pub prefix_codes : List ℕ
prefix_codes = map prefix_code prefixes

unfoldable pub prefix_powers : List ℤ
prefix_powers = map (λ (p : Prefix). p.power.0) prefixes

-- UNITS

unfoldable pub unit_prefixed : List ℕ
unit_prefixed = map (λ (u : KnownUnit). bits u.prefixed_in) units

unfoldable pub unit_recommended : List Bool
unit_recommended = map (λ (u : KnownUnit). u.recommended) units

unfoldable pub unit_bases : List ℕ
unit_bases = four_each (λ k u. (slot k u).base) units

unfoldable pub unit_powers : List ℤ
unit_powers = four_each (λ k u. (slot k u).power) units

unfoldable pub unit_primes : List ℤ
unit_primes = four_each prime_slot units
