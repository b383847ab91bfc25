-- The two parts of a signed number: one of them is 0.
use Rattle.std.specs.Prelude.{ℕ, suc, ℤ, pos, negsuc}

-- z where it is not negative
abbrev pub up : ℤ → ℕ
up (pos n) = n
up (negsuc n) = 0

-- the size of z where it is negative
abbrev pub down : ℤ → ℕ
down (pos n) = 0
down (negsuc n) = suc n
