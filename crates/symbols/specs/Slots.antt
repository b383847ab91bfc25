-- The bases of a unit in four slots, and its four primes.
use Rattle.std.specs.Prelude.{ℕ, List, [], ◌∷◌, ℤ, pos, eqb, get_or}
use Rattle.label.specs.Choice.{pick}
use Rattle.label.specs.Units.{BasePower, ◌↑◌, KnownUnit, prime_power}
use Rattle.label.specs.Reading.{primes}

-- what an unused slot holds
abbrev pub unused : BasePower
unused = 0 ↑ pos 0

-- slot k of a unit
abbrev pub slot : ℕ → KnownUnit → BasePower
slot k u = get_or u.size.bases k unused

-- the prime of place k, from 0 to 3
abbrev pub prime_at : ℕ → ℕ
prime_at k = get_or primes k 2

-- the exponent of the prime of place k in a unit
abbrev pub prime_slot : ℕ → KnownUnit → ℤ
prime_slot k u = prime_power (prime_at k) u.size

-- four values for each unit, one after the other
unfoldable pub four_each : {A : Type 0} → (ℕ → KnownUnit → A) → List KnownUnit → List A
four_each f [] = []
four_each f (u ∷ us) = f 0 u ∷ f 1 u ∷ f 2 u ∷ f 3 u ∷ four_each f us

-- what a slot adds to the power of base b
abbrev pub adds : ℕ → BasePower → ℤ
adds b x = pick (eqb b x.base) x.power (pos 0)
