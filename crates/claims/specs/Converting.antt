-- What document 01 says of converting, without the function that computes it: refusals 8 to 11, and the one fraction.
use Rattle.std.specs.Prelude.{ℕ, ◌≤◌, ◌<◌, ◌+◌, ◌*◌, ◌^◌, ◌≡◌, ◌↔◌, ℤ, pos, neg_ℤ, ◌+ℤ◌, ◌-ℤ◌, ◌*ℤ◌, nat_abs}
use mathlib.Core.List.{List, Memᴰ}
use Rattle.std.proofs.Math.Option.{Option}
use Rattle.label.specs.Units.{base_count, in_tens}
use Rattle.label.specs.Symbols.{unknown}
use Rattle.label.specs.Limits.{parts_of_one}
use Rattle.label.specs.Split.{Condition, Refused}
use Rattle.label.specs.Reading.{Term, Reading, base_in, prime_in, total, primes, reading}
use Rattle.label.specs.Conversion.{Conversion, conversion}
use Rattle.claims.specs.Fractions.{Exact}

-- UNITS, DIMENSIONS AND SCALES

-- a term whose unit is unknown
pub record UnknownTerm (ts : List Term) : Type 0 where
  pub term : Term
  pub among : Memᴰ term ts
  pub prefix : Option ℕ
  pub letters : List ℕ
  pub is : term.symbol ≡ unknown prefix letters

-- "A label's dimensions are its bases' exponents summed over the terms": that of base b, in sixtieths
abbrev pub base_exponent : ℕ → Reading → ℤ
base_exponent b r = (total (base_in b) r.terms).0

-- "its scale, from k, prefixes and sizes, is a product of powers of 2, 3, 5 and 487": the exponent of p, in sixtieths
abbrev pub prime_exponent : ℕ → Reading → ℤ
prime_exponent p r = in_tens p r.k *ℤ pos parts_of_one +ℤ (total (prime_in p) r.terms).0

-- so many sixtieths are w ones
pub record Whole (sixtieths w : ℤ) : Type 0 where
  pub is : w *ℤ pos parts_of_one ≡ sixtieths

-- p has the whole exponent w in "first over second"
abbrev pub WholeIn : ℕ → Reading → Reading → ℤ → Type 0
WholeIn p r q w = Whole (prime_exponent p r -ℤ prime_exponent p q) w

-- The factor from r to q is n/d times ten to the k: "The answer is n, d, k with factor n/d times ten to the k, n/d in lowest terms and neither
-- divisible by 5."
pub record FactorIs (r q : Reading) (n d : ℕ) (k : ℤ) : Type 0 where
  pub of_2 : ℤ
  pub of_3 : ℤ
  pub of_5 : ℤ
  pub of_487 : ℤ
  pub whole_2 : WholeIn 2 r q of_2
  pub whole_3 : WholeIn 3 r q of_3
  pub whole_5 : WholeIn 5 r q of_5
  pub whole_487 : WholeIn 487 r q of_487
  pub exact : Exact of_2 of_3 of_5 of_487 n d k

-- "numerator or denominator above 2 to the 53, or k outside -9,999 to 9,999"
pub data Outside (n d : ℕ) (k : ℤ) : Type 0 where
  numerator : 2 ^ 53 < n → Outside n d k
  denominator : 2 ^ 53 < d → Outside n d k
  power : 9_999 < nat_abs k → Outside n d k

-- REFUSALS 8 TO 11

-- the condition of refusal i between two readings
pub data Hinders (r q : Reading) : ℕ → Type 0 where
  -- "an unknown unit in either label"
  first_unknown : UnknownTerm r.terms → Hinders r q 8
  second_unknown : UnknownTerm q.terms → Hinders r q 8
  -- "the dimensions differ"
  dimensions : (b : ℕ) → b < base_count → (base_exponent b r ≡ base_exponent b q → ⊥) → Hinders r q 9
  -- "the factor isn't a fraction": one of the four has no whole exponent in first over second
  no_fraction : (p : ℕ) → Memᴰ p primes → ((w : ℤ) → WholeIn p r q w → ⊥) → Hinders r q 10
  -- "numerator or denominator above 2 to the 53, or k outside -9,999 to 9,999"
  outside : (n d : ℕ) (k : ℤ) → FactorIs r q n d k → Outside n d k → Hinders r q 11

-- none of 1 to 7 applies to the text
abbrev pub Clear : ℕ → List ℕ → Type 0
Clear n s = (j : ℕ) → Condition j n s → ⊥

-- Refusal i is due: "Conversion checks 1 to 7 on the first label, then on the second, then 8 to 11."
pub data Due (n : ℕ) (s : List ℕ) (m : ℕ) (t : List ℕ) : ℕ → Type 0 where
  first : {i : ℕ} → Refused i n s → Due n s m t i
  second : {i : ℕ} → Clear n s → Refused i m t → Due n s m t i
  both : {i : ℕ} → Clear n s → Clear m t → Hinders (reading n s) (reading m t) i
      → ((j : ℕ) → j < i → Hinders (reading n s) (reading m t) j → ⊥) → Due n s m t i

-- CONVERSION

-- The first label converts to the second by n/d times ten to the k.
pub record Converts (n : ℕ) (s : List ℕ) (m : ℕ) (t : List ℕ) (x y : ℕ) (k : ℤ) : Type 0 where
  pub first_clear : Clear n s
  pub second_clear : Clear m t
  pub first_known : UnknownTerm (reading n s).terms → ⊥
  pub second_known : UnknownTerm (reading m t).terms → ⊥
  pub same_dimensions : (b : ℕ) → b < base_count → base_exponent b (reading n s) ≡ base_exponent b (reading m t)
  pub factor : FactorIs (reading n s) (reading m t) x y k
  pub within : (x ≤ 2 ^ 53) × (y ≤ 2 ^ 53) × (nat_abs k ≤ 9_999)

abbrev pub gives : ℕ → ℕ → ℤ → Conversion
gives x y k = record { number = 0; numerator = x; denominator = y; k = record { 0 = k } }

-- THE CLAIMS

-- Two readings have at most one factor.
abbrev pub OneFactor : Type 0
OneFactor = (r q : Reading) (n d x y : ℕ) (k l : ℤ) → FactorIs r q n d k → FactorIs r q x y l → (n ≡ x) × (d ≡ y) × (k ≡ l)

-- "Two labels convert exactly if the unit sizes listed in document 01 give an exact fraction within its limits, and the fraction given is that one."
abbrev pub ConvertsExactlyIf : Type 0
ConvertsExactlyIf = (n : ℕ) (s : List ℕ) (m : ℕ) (t : List ℕ) (x y : ℕ) (k : ℤ) → (conversion n s m t ≡ gives x y k) ↔ Converts n s m t x y k

-- A refusal's number is given exactly when its condition holds and no earlier one does.
abbrev pub ConversionRefusals : Type 0
ConversionRefusals = (n : ℕ) (s : List ℕ) (m : ℕ) (t : List ℕ) (i : ℕ) → 1 ≤ i → ((conversion n s m t).number ≡ i) ↔ Due n s m t i

-- "A refused conversion is 0/1, k = 0."
abbrev pub RefusedConversions : Type 0
RefusedConversions =
    (n : ℕ) (s : List ℕ) (m : ℕ) (t : List ℕ) (i : ℕ)
    → Due n s m t i
    → conversion n s m t ≡ record { number = i; numerator = 0; denominator = 1; k = record { 0 = pos 0 } }

-- 0 is answered exactly when no refusal is due, and then there is a fraction.
abbrev pub ConversionSucceeds : Type 0
ConversionSucceeds = (n : ℕ) (s : List ℕ) (m : ℕ) (t : List ℕ) → ((conversion n s m t).number ≡ 0) ↔ ((i : ℕ) → Due n s m t i → ⊥)

-- A label with known units converts to itself by 1.
abbrev pub ItselfByOne : Type 0
ItselfByOne = (n : ℕ) (s : List ℕ) → Clear n s → (UnknownTerm (reading n s).terms → ⊥) → conversion n s n s ≡ gives 1 1 (pos 0)

-- There by n/d times ten to the k, back by d/n times ten to the -k.
abbrev pub BackByTheInverse : Type 0
BackByTheInverse =
    (n : ℕ) (s : List ℕ) (m : ℕ) (t : List ℕ) (x y : ℕ) (k : ℤ)
    → conversion n s m t ≡ gives x y k
    → conversion m t n s ≡ gives y x (neg_ℤ k)

-- THE LIMITS

pub record Limits (x : Conversion) : Type 0 where
  pub numerator : x.numerator ≤ 2 ^ 53
  pub denominator : x.denominator ≤ 2 ^ 53
  pub k : nat_abs x.k.0 ≤ 9_999

-- Every answer keeps the limits, a refusal too.
abbrev pub WithinLimits : Type 0
WithinLimits = (n : ℕ) (s : List ℕ) (m : ℕ) (t : List ℕ) → Limits (conversion n s m t)

-- HOW LARGE EXPONENTS ARE

-- 32 terms, each to at most 99 (5,940 sixtieths). A unit's size has each base to at most 9; a prime to at most 28, and its prefix to at most 24;
-- k is at most 99.
abbrev pub most_of_base : ℕ
most_of_base = 32 * (9 * 5_940)

abbrev pub most_of_prime : ℕ
most_of_prime = 32 * (52 * 5_940) + 5_940

-- of a refused reading too
abbrev pub ExponentsBounded : Type 0
ExponentsBounded =
    (n : ℕ) (s : List ℕ)
    → ((b : ℕ) → nat_abs (base_exponent b (reading n s)) ≤ most_of_base)
    × ((p : ℕ) → Memᴰ p primes → nat_abs (prime_exponent p (reading n s)) ≤ most_of_prime)

-- a prime's whole exponent in first over second
abbrev pub most_in_ratio : ℕ
most_in_ratio = 329_670

abbrev pub RatiosBounded : Type 0
RatiosBounded =
    (n : ℕ) (s : List ℕ) (m : ℕ) (t : List ℕ) (p : ℕ) (w : ℤ)
    → Memᴰ p primes
    → WholeIn p (reading n s) (reading m t) w
    → nat_abs w ≤ most_in_ratio
