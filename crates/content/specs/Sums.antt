-- Sums of exponents, one for each base or prime: how large they are, and what a term adds to them.
use Rattle.std.specs.Prelude.{ℕ, ◌+◌, ◌<◌, ◌≤◌, ◌^◌, ◌≡◌, List, ℤ, pos, nat_abs, ◌+ℤ◌, ◌*ℤ◌, length, get_or, replicate}
use Rattle.label.specs.declared.Exponent.{Exponent}
use Rattle.label.specs.Units.{base_count}
use Rattle.content.specs.declared.sums.Sums.{Sums}

-- a reading has a sum for each base and for each of 2, 3, 5 and 487
abbrev pub prime_count : ℕ
prime_count = 4

-- n sums of nothing
abbrev pub zero_sums : ℕ → List ℤ
zero_sums n = replicate n (pos 0)

-- the sums of a reading are of nothing
pub record NoSums (zs : Sums) : Type 0 where
  pub bases : zs.bases ≡ zero_sums base_count
  pub primes : zs.primes ≡ zero_sums prime_count

-- every sum is at most m, up or down
pub record SumsWithin (m : ℕ) (xs : List ℤ) : Type 0 where
  pub within : (b : ℕ) → nat_abs (get_or xs b (pos 0)) ≤ m

-- n sums, each small enough for one term more
pub record Summable (n : ℕ) (xs : List ℤ) : Type 0 where
  pub room : length xs ≡ n
  pub small : SumsWithin (2 ^ 61) xs

-- to the sum of each place b its power is added, times the exponent; no sum grows by more than 2 to the 39
pub record Added (power : ℕ → ℤ) (e : Exponent) (xs ys : List ℤ) : Type 0 where
  pub room : length ys ≡ length xs
  pub added : (b : ℕ) → b < length xs → get_or ys b (pos 0) ≡ get_or xs b (pos 0) +ℤ power b *ℤ e.0
  pub growth : (m : ℕ) → SumsWithin m xs → SumsWithin (m + 2 ^ 39) ys
