-- Bounds on the numbers that short digit runs write, whatever their bytes are. A byte counts at most 207, which is 9 times 23, so a number
-- and 23 together grow at most tenfold with each byte.
use Rattle.std.specs.Prelude.{ℕ}

-- four bytes write a smaller number
abbrev pub number_bound : ℕ
number_bound = 230_000

-- eight bytes write a smaller number
abbrev pub numerator_bound : ℕ
numerator_bound = 2_400_000_000
