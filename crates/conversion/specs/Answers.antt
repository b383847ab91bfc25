-- What the functions that convert answer.
use Rattle.std.specs.Prelude.{ℕ, ◌<◌, ◌^◌, ◌≡◌, List, map, ℤ, pos, nat_abs, get_or, Result, Ok, Err}
use Rattle.label.specs.declared.Refusal.{Refusal}
use Rattle.label.specs.Refusals.{number_of}
use Rattle.label.specs.Reading.{exponent, Scale, Reading, reading}
use Rattle.label.specs.Conversion as spec
use Rattle.content.specs.Views.{scale_in}
use Rattle.content.specs.declared.sums.Sums.{Sums}
use Rattle.content.specs.Sums.{prime_count}
use Rattle.reading.specs.declared.read.Answer.{Answer}
use Rattle.conversion.specs.declared.answer.Conversion.{Conversion}
use Rattle.conversion.specs.declared.fraction.ScaleRatio.{ScaleRatio}
use Rattle.conversion.specs.Powers.{Held}

abbrev pub conversion_of : Conversion → spec.Conversion
conversion_of x = record { number = 0; numerator = x.numerator; denominator = x.denominator; k = x.k }

-- "A refused conversion is 0/1, k = 0."
abbrev pub conversion_in : Result Conversion Refusal → spec.Conversion
conversion_in (Ok x) = conversion_of x
conversion_in (Err e) = record { number = number_of e; numerator = 0; denominator = 1; k = record { 0 = pos 0 } }

-- SUMS

-- the exponents of the bases and of 2, 3, 5 and 487 in a reading
pub record SumsOf (zs : Sums) (r : Reading) : Type 0 where
  pub dimensions : map exponent zs.bases ≡ r.dimensions
  pub scale : scale_in zs.primes ≡ r.scale

-- four exponents, each small enough that a difference fits the machine
pub record LimitedScale (cs : List ℤ) : Type 0 where
  pub small : (i : ℕ) → i < prime_count → nat_abs (get_or cs i (pos 0)) < 2 ^ 28

-- the sums of an accepted reading, and whether all units are known
pub record SummedReading (n : ℕ) (s : List ℕ) (zs : Sums) (a : Answer) : Type 0 where
  pub number : (reading n s).number ≡ 0
  pub known : a.verdicts.known ≡ (reading n s).known
  pub sums : SumsOf zs (reading n s)
  pub scale : LimitedScale zs.primes

-- the sums, or the number of the refusal
abbrev pub ReadSums : ℕ → List ℕ → Result (Answer × Sums) Refusal → Type 0
ReadSums n s (Ok p) = SummedReading n s p.1 p.0
ReadSums n s (Err e) = number_of e ≡ (reading n s).number

-- SCALES

-- the scale of first over second
abbrev pub ratio_in : ScaleRatio → Scale
ratio_in r = record { of_2 = exponent r.twos; of_3 = exponent r.threes; of_5 = exponent r.fives; of_487 = exponent r.others }

-- exponents of a size that no sum of theirs leaves the machine's numbers
pub record SmallRatio (r : ScaleRatio) : Type 0 where
  pub twos : nat_abs r.twos < 2 ^ 30
  pub threes : nat_abs r.threes < 2 ^ 30
  pub fives : nat_abs r.fives < 2 ^ 30
  pub others : nat_abs r.others < 2 ^ 30

-- r is x, but a numerator or denominator above 2 to the 53 is some number above it
pub record Nearly (x : spec.Conversion) (r : Conversion) : Type 0 where
  pub number : 0 ≡ x.number
  pub numerator : Held x.numerator r.numerator
  pub denominator : Held x.denominator r.denominator
  pub k : r.k ≡ x.k
