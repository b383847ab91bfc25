-- What converting from one label to another answers: a number, and the one fraction n/d times ten to the k.
use Rattle.std.specs.Prelude.{ℕ, suc, ◌*◌, ◌/◌, ◌%◌, ◌^◌, Bool, true, false, ◌&&◌, List, [], ◌∷◌, leb, eqb, ℤ, pos, negsuc, ◌-ℤ◌, nat_abs}
use Rattle.label.specs.declared.Exponent.{Exponent}
use Rattle.label.specs.declared.Tens.{Tens}
use Rattle.label.specs.Limits.{parts_of_one, signed, negative}
use Rattle.label.specs.Reading.{Scale, Reading, reading}

pub record Conversion : Type 0 where
  pub number : ℕ
  pub numerator : ℕ
  pub denominator : ℕ
  pub k : Tens

-- "A refused conversion is 0/1, k = 0."
abbrev pub refuse_conversion : ℕ → Conversion
refuse_conversion i = record { number = i; numerator = 0; denominator = 1; k = record { 0 = pos 0 } }

-- refusal i unless the test is passed
unfoldable pub unless : Bool → ℕ → Conversion → Conversion
unless true i x = x
unless false i x = refuse_conversion i

-- 8: "an unknown unit in either label"
abbrev pub both_known : Reading → Reading → Bool
both_known a b = a.known && b.known

abbrev pub same_whole : ℤ → ℤ → Bool
same_whole (pos m) (pos n) = eqb m n
same_whole (pos m) (negsuc n) = false
same_whole (negsuc m) (pos n) = false
same_whole (negsuc m) (negsuc n) = eqb m n

-- 9: "the dimensions differ"
unfoldable pub same_exponents : List Exponent → List Exponent → Bool
same_exponents [] [] = true
same_exponents [] (f ∷ fs) = false
same_exponents (e ∷ es) [] = false
same_exponents (e ∷ es) (f ∷ fs) = same_whole e.0 f.0 && same_exponents es fs

-- the exponents of the four primes in "first over second"
abbrev pub difference : Exponent → Exponent → Exponent
difference e f = record { 0 = e.0 -ℤ f.0 }

unfoldable pub over : Scale → Scale → Scale
over a b = record {
  of_2 = difference a.of_2 b.of_2;
  of_3 = difference a.of_3 b.of_3;
  of_5 = difference a.of_5 b.of_5;
  of_487 = difference a.of_487 b.of_487;
}

abbrev pub is_whole : Exponent → Bool
is_whole e = eqb (nat_abs e.0 % parts_of_one) 0

-- 10: "The factor is a fraction exactly if these four have whole exponents in first over second."
unfoldable pub all_whole : Scale → Bool
all_whole c = is_whole c.of_2 && (is_whole c.of_3 && (is_whole c.of_5 && is_whole c.of_487))

-- the whole number that an exponent of sixtieths is
abbrev pub whole_number : Exponent → ℤ
whole_number e = signed (negative e.0) (nat_abs e.0 / parts_of_one)

-- p to the z, where z is not negative, and where it is
abbrev pub above : ℕ → ℤ → ℕ
above p (pos n) = p ^ n
above p (negsuc n) = 1

abbrev pub below : ℕ → ℤ → ℕ
below p (pos n) = 1
below p (negsuc n) = p ^ suc n

-- 2 to the a, 3 to the b, 5 to the c and 487 to the d as a fraction times a power of ten: "n/d in lowest terms and neither divisible by 5"
unfoldable pub fraction : ℤ → ℤ → ℤ → ℤ → Conversion
fraction a b c d = record {
  number = 0;
  numerator = above 2 (a -ℤ c) * above 3 b * above 487 d;
  denominator = below 2 (a -ℤ c) * below 3 b * below 487 d;
  k = record { 0 = c };
}

-- the fraction that a scale with whole exponents is
unfoldable pub fraction_of : Scale → Conversion
fraction_of c = fraction (whole_number c.of_2) (whole_number c.of_3) (whole_number c.of_5) (whole_number c.of_487)

-- 11: "numerator or denominator above 2 to the 53, or k outside -9,999 to 9,999"
abbrev pub small : Conversion → Bool
small x = leb x.numerator (2 ^ 53) && (leb x.denominator (2 ^ 53) && leb (nat_abs x.k.0) 9_999)

unfoldable pub bounded : Conversion → Conversion
bounded x = unless (small x) 11 x

-- refusals 8 to 11, between two readings that answer 0
unfoldable pub converted : Reading → Reading → Conversion
converted a b =
    unless (both_known a b) 8
    (unless (same_exponents a.dimensions b.dimensions) 9
    (unless (all_whole (over a.scale b.scale)) 10
    (bounded (fraction_of (over a.scale b.scale)))))

-- "Conversion checks 1 to 7 on the first label, then on the second, then 8 to 11."
unfoldable pub conversion : ℕ → List ℕ → ℕ → List ℕ → Conversion
conversion n s m t =
    unless (eqb (reading n s).number 0) (reading n s).number
    (unless (eqb (reading m t).number 0) (reading m t).number
    (converted (reading n s) (reading m t)))
