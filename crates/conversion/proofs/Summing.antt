-- The sums of two labels: what they are, how large they are, and their comparison.
use Prim.Native.Nat.{ℕ, zero, suc, ◌+◌, ◌<◌, ◌^◌}
use native.Mathlib.Omega.{arith}
use mathlib.Core.Path.{◌≡◌, refl, ap, ◌∙◌}
use mathlib.Core.Bool.{cond, ◌&&◌}
use mathlib.Core.List.{List, [], ◌∷◌, map, Memᴰ}
use lib.IntN.{ℤ, pos, negsuc, nat_abs, ◌-ℤ◌}
use lib.ListN.{get_or}
use mir.Syntax.{w64}
use mir.Val.{SFits, to_z, of_z}
use mir.Facts.{to_z-of_z}
use lib.Pointwise.{pointwise}
use Rattle.std.specs.Ordering.{is_eq, int_eq}
use Rattle.std.specs.declared.cmp.Ordering.TheVariants.{Less, Equal, Greater}
use Rattle.std.proofs.lemmas.Bool.Decides.{nat_tests}
use lib.Dec.{ltb, eqb}
use Rattle.label.specs.Reading.{exponent, Scale, Reading, primes, scale_of, reading}
use Rattle.label.specs.Conversion.{same_whole, same_exponents, over}
use Rattle.label.proofs.Refusals.{bounds}
use Rattle.label.proofs.Readings.{Answered, answer_of, number_refused}
use Rattle.claims.specs.Converting.{prime_exponent}
use Rattle.claims.proofs.Bounds.{exponents_bounded}
use Rattle.claims.proofs.Conversions.{Shaped, accepted_shaped}
use Rattle.content.specs.Views.{scale_in}
use Rattle.content.proofs.Integers.{wide_fits}
use Rattle.content.specs.Sums.{prime_count}
use Rattle.reading.specs.declared.read.Answer.{Answer}
use Rattle.reading.specs.declared.read.Content.{Content}
use Rattle.reading.specs.Views.{reading_in}
use Rattle.reading.specs.Answers.{AcceptedReading}
use Rattle.reading.proofs.Answering.{accepted_number}
use Rattle.conversion.proofs.Signs.{minus_size, minus_fits}
use Rattle.conversion.specs.Answers.{SumsOf, LimitedScale, SummedReading, ratio_in, SmallRatio}

-- WHAT THE SUMS OF A READING ARE

accepted_parts : (n : ℕ) (s : List ℕ) → (reading n s).number ≡ 0 → Shaped (reading n s)
accepted_parts n s e = go (answer_of n s)
  where
    go : Answered n s → Shaped (reading n s)
    go (Answered.refusing i c d) = let h = (bounds d.holds).0 in absurd (omega (arith, (number_refused n s i h).1 d))
    go (Answered.accepting v a) = accepted_shaped a

limited_by : (r : Reading) (xs : List ℤ) → scale_in xs ≡ r.scale → Shaped r → ((p : ℕ) → Memᴰ p primes → nat_abs (prime_exponent p r) < 2 ^ 28)
    → (i : ℕ) → i < prime_count → nat_abs (get_or xs i (pos 0)) < 2 ^ 28
unfolding scale_of
limited_by r xs e w h = go
  where
    q : scale_in xs ≡ scale_of r.k r.terms
    q = e ∙ w.is_scale

    go : (i : ℕ) → i < prime_count → nat_abs (get_or xs i (pos 0)) < 2 ^ 28
    go zero l = rw (ap (λ (c : Scale). c.of_2.0) q) (h 2 (Memᴰ.head refl))
    go (suc zero) l = rw (ap (λ (c : Scale). c.of_3.0) q) (h 3 (Memᴰ.tail (Memᴰ.head refl)))
    go (suc (suc zero)) l = rw (ap (λ (c : Scale). c.of_5.0) q) (h 5 (Memᴰ.tail (Memᴰ.tail (Memᴰ.head refl))))
    go (suc (suc (suc zero))) l = rw (ap (λ (c : Scale). c.of_487.0) q) (h 487 (Memᴰ.tail (Memᴰ.tail (Memᴰ.tail (Memᴰ.head refl)))))
    go (suc (suc (suc (suc i)))) l = absurd (omega arith)

module _ {n : ℕ} {s : List ℕ} {c : Content} {a : Answer} (w : AcceptedReading n s c a) where
  sums_read : SumsOf c.sums (reading n s)
  unfolding reading_in
  sums_read = record { dimensions = ap (λ (y : Reading). y.dimensions) w.is; scale = ap (λ (y : Reading). y.scale) w.is }

  limited_read : LimitedScale c.sums.primes
  limited_read = record {
    small = limited_by (reading n s) c.sums.primes sums_read.scale (accepted_parts n s (accepted_number w)) (λ p m. omega (arith, (exponents_bounded n s).1 p m));
  }

  pub accepted_summed : SummedReading n s c.sums a
  unfolding reading_in
  accepted_summed = record {
    number = accepted_number w;
    known = ap (λ (y : Reading). y.known) w.is;
    sums = sums_read;
    scale = limited_read;
  }

-- BASES COMPARED

numbers_same : (m n : ℕ) → is_eq (cond (ltb m n) Less (cond (ltb n m) Greater Equal)) ≡ eqb m n
numbers_same m n = grind (arith, nat_tests)

numbers_turned : (m n : ℕ) → is_eq (cond (ltb n m) Less (cond (ltb m n) Greater Equal)) ≡ eqb m n
numbers_turned m n = grind (arith, nat_tests)

whole_same : (x y : ℤ) → int_eq x y ≡ same_whole x y
whole_same (pos m) (pos n) = numbers_same m n
whole_same (pos m) (negsuc n) = refl
whole_same (negsuc m) (pos n) = refl
whole_same (negsuc m) (negsuc n) = numbers_turned m n

-- what the equality of two lists answers, by the definition
pub exponents_compared : (xs ys : List ℤ) → pointwise int_eq xs ys ≡ same_exponents (map exponent xs) (map exponent ys)
unfolding same_exponents
exponents_compared [] [] = refl
exponents_compared [] (y ∷ ys) = refl
exponents_compared (x ∷ xs) [] = refl
exponents_compared (x ∷ xs) (y ∷ ys) = λ i. whole_same x y i && exponents_compared xs ys i

-- FIRST OVER SECOND

-- exponent i of a prime, as the machine holds it
held_at : (xs : List ℤ) → LimitedScale xs → (i : ℕ) → i < prime_count → to_z w64 (of_z w64 (get_or xs i (pos 0))) ≡ get_or xs i (pos 0)
held_at xs w i h = to_z-of_z (wide_fits (omega (arith, w.small i h)))

module _ (xs ys : List ℤ) (w : LimitedScale xs) (v : LimitedScale ys) (i : ℕ) (h : i < prime_count) where
  first_bits : to_z w64 (of_z w64 (get_or xs i (pos 0))) ≡ get_or xs i (pos 0)
  first_bits = held_at xs w i h

  second_bits : to_z w64 (of_z w64 (get_or ys i (pos 0))) ≡ get_or ys i (pos 0)
  second_bits = held_at ys v i h

  difference_room : nat_abs (to_z w64 (of_z w64 (get_or xs i (pos 0)))) + nat_abs (to_z w64 (of_z w64 (get_or ys i (pos 0)))) < 2 ^ 63
  difference_room = rw (first_bits, second_bits) (omega (arith, w.small i h, v.small i h))

  pub record Difference (z : ℤ) : Type 0 where
    pub is : to_z w64 (of_z w64 z) ≡ get_or xs i (pos 0) -ℤ get_or ys i (pos 0)
    pub small : nat_abs (to_z w64 (of_z w64 z)) < 2 ^ 30

  abbrev minus : ℤ
  minus = to_z w64 (of_z w64 (get_or xs i (pos 0))) -ℤ to_z w64 (of_z w64 (get_or ys i (pos 0)))

  pub difference_fits : SFits w64 minus
  difference_fits = minus_fits (to_z w64 (of_z w64 (get_or xs i (pos 0)))) (to_z w64 (of_z w64 (get_or ys i (pos 0)))) difference_room

  pub difference_told : Difference minus
  difference_told =
      let l : nat_abs minus < 2 ^ 30 = omega (arith, minus_size (to_z w64 (of_z w64 (get_or xs i (pos 0)))) (to_z w64 (of_z w64 (get_or ys i (pos 0)))), ap nat_abs first_bits, ap nat_abs second_bits, w.small i h, v.small i h) in
      let q : to_z w64 (of_z w64 minus) ≡ minus = to_z-of_z (wide_fits (omega arith)) in
      record { is = q ∙ rw (first_bits, second_bits); small = rw q l }

pub ratio_told : (xs ys : List ℤ) (w : LimitedScale xs) (v : LimitedScale ys) {a b c d : ℤ} (h₀ : 0 < 4) (h₁ : 1 < 4) (h₂ : 2 < 4) (h₃ : 3 < 4)
    → Difference xs ys w v 0 h₀ a → Difference xs ys w v 1 h₁ b → Difference xs ys w v 2 h₂ c → Difference xs ys w v 3 h₃ d
    → (ratio_in (record { twos = to_z w64 (of_z w64 a); threes = to_z w64 (of_z w64 b); fives = to_z w64 (of_z w64 c); others = to_z w64 (of_z w64 d) })
    ≡ over (scale_in xs) (scale_in ys))
    × SmallRatio (record { twos = to_z w64 (of_z w64 a); threes = to_z w64 (of_z w64 b); fives = to_z w64 (of_z w64 c); others = to_z w64 (of_z w64 d) })
unfolding over
ratio_told xs ys w v h₀ h₁ h₂ h₃ p q r s = (
  λ i. record { of_2 = exponent (p.is i); of_3 = exponent (q.is i); of_5 = exponent (r.is i); of_487 = exponent (s.is i) },
  record { twos = p.small; threes = q.small; fives = r.small; others = s.small },
)
