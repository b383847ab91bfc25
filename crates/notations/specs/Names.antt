-- The number that a name gives, as the code answers it.
use Rattle.std.specs.Prelude.{ℕ, zero, suc}
use Rattle.std.proofs.Math.Option.{Option, none, some}

-- none for 0, which is the number of no notation
abbrev pub number_told : ℕ → Option ℕ
number_told zero = none
number_told (suc n) = some (suc n)
