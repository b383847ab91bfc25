-- A set of notations as bits of one number.
use Rattle.std.specs.Prelude.{ℕ, ◌+◌, ◌-◌, ◌/◌, ◌%◌, ◌^◌, Bool, ◌&&◌, [], ◌∷◌, eqb}
use Rattle.label.specs.Bytes.{within}
use Rattle.label.specs.Notations.{Notations}

-- notation n has bit n - 1
unfoldable pub bits : Notations → ℕ
bits [] = 0
bits (n ∷ ns) = 2 ^ (n - 1) + bits ns

-- a set is a byte, so it has room for the notations 1 to 8
abbrev pub most_notations : ℕ
most_notations = 8

-- n is from 1 to 8, and its bit is set in b
abbrev pub has_bit : ℕ → ℕ → Bool
has_bit n b = within 1 most_notations n && eqb (b / 2 ^ (n - 1) % 2) 1
