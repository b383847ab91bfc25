-- A product of powers of 2, 3, 5 and 487 is one fraction times a power of ten: it is the one that `fraction` gives.
use Prim.Native.Nat.{ℕ, zero, suc, ◌≤◌, ◌<◌, ◌+◌, ◌*◌, ◌-◌, ◌^◌}
use native.Mathlib.Omega.{arith}
use native.Mathlib.Decide.{dec_lt}
use native.Mathlib.Nat.{mul_comm, mul-pos, le_dest, eq_of_mul-eq-mul_left, pow-suc, pow-zero, one-le-pow}
use mathlib.Core.Path.{◌≡◌, refl, sym, ap, ◌∙◌}
use mathlib.Core.Bool.{Bool, true, false, cond}
use lib.Dec.{ltb}
use lib.IntN.{ℤ, pos, negsuc, neg_ℤ, sub_ℕ, ◌+ℤ◌, ◌-ℤ◌}
use borrow.Author.Tests.{ltb-true, ltb-false}
use Rattle.label.specs.Conversion.{above, below, fraction}
use Rattle.claims.specs.Fractions.{Divides, NoCommonFactor, Exact}
use Rattle.claims.specs.Parts.{up, down}
use Rattle.claims.proofs.Valuations.{five_prime, prime_product}
use Rattle.claims.proofs.Coprime.{power_sum, power_product, divides, divides_self, common_one, common_swap, common_product, common_power, common_powers, common_by, same_lowest}

-- POWERS

pub tens : (n : ℕ) → 10 ^ n ≡ 2 ^ n * 5 ^ n
tens n = power_product 2 5 n

-- WHAT AN EXPONENT ADDS ABOVE THE LINE AND BELOW IT

pub above_is : (p : ℕ) (z : ℤ) → above p z ≡ p ^ up z
above_is p (pos n) = refl
above_is p (negsuc n) = sym (pow-zero p)

pub below_is : (p : ℕ) (z : ℤ) → below p z ≡ p ^ down z
below_is p (pos n) = sym (pow-zero p)
below_is p (negsuc n) = refl

pub positive_above : (p : ℕ) (z : ℤ) → 1 ≤ p → 1 ≤ above p z
positive_above p z h = rw (above_is p z) (one-le-pow (up z) p h)

pub positive_below : (p : ℕ) (z : ℤ) → 1 ≤ p → 1 ≤ below p z
positive_below p z h = rw (below_is p z) (one-le-pow (down z) p h)

pub same_exponent : (k l : ℤ) → up k + down l ≡ up l + down k → k ≡ l
same_exponent (pos m) (pos n) e = ap pos (omega arith)
same_exponent (pos m) (negsuc n) e = absurd (omega arith)
same_exponent (negsuc m) (pos n) e = absurd (omega arith)
same_exponent (negsuc m) (negsuc n) e = ap negsuc (omega arith)

-- m - n by its two parts
pub sub_parts : (m n : ℕ) → up (sub_ℕ m n) + n ≡ down (sub_ℕ m n) + m
sub_parts m n = go (ltb m n) refl
  where
    go : (b : Bool) → ltb m n ≡ b → up (cond b (negsuc (n - suc m)) (pos (m - n))) + n ≡ down (cond b (negsuc (n - suc m)) (pos (m - n))) + m
    go true e = let h = ltb-true m n e in omega arith
    go false e = let h = ltb-false m n e in omega arith

pub sum_parts : (a b : ℤ) → up (a +ℤ b) + down a + down b ≡ down (a +ℤ b) + up a + up b
sum_parts (pos m) (pos n) = omega arith
sum_parts (pos m) (negsuc n) = omega (arith, sub_parts m (suc n))
sum_parts (negsuc m) (pos n) = omega (arith, sub_parts n (suc m))
sum_parts (negsuc m) (negsuc n) = omega arith

pub neg_parts : (z : ℤ) → (up (neg_ℤ z) ≡ down z) × (down (neg_ℤ z) ≡ up z)
neg_parts (pos zero) = (refl, refl)
neg_parts (pos (suc n)) = (refl, refl)
neg_parts (negsuc n) = (refl, refl)

pub difference_parts : (a c : ℤ) → up (a -ℤ c) + up c + down a ≡ down (a -ℤ c) + down c + up a
difference_parts a c = omega (arith, sum_parts a (neg_ℤ c), (neg_parts c).0, (neg_parts c).1)

-- THE FRACTION THAT IS GIVEN

difference_powers : (a c : ℤ) → above 2 (a -ℤ c) * above 2 c * below 2 a ≡ below 2 (a -ℤ c) * below 2 c * above 2 a
difference_powers a c =
    rw (above_is 2 (a -ℤ c), above_is 2 c, below_is 2 a, below_is 2 (a -ℤ c), below_is 2 c, above_is 2 a) (
    sym (three (up (a -ℤ c)) (up c) (down a)) ∙ ap (λ (n : ℕ). 2 ^ n) (difference_parts a c) ∙ three (down (a -ℤ c)) (down c) (up a))
  where
    three : (x y z : ℕ) → 2 ^ (x + y + z) ≡ 2 ^ x * 2 ^ y * 2 ^ z
    three x y z = power_sum 2 (x + y) z ∙ ap (λ (n : ℕ). n * 2 ^ z) (power_sum 2 x y)

tens_above : (z : ℤ) → above 10 z ≡ above 2 z * above 5 z
tens_above z = rw (above_is 10 z, above_is 2 z, above_is 5 z) (tens (up z))

tens_below : (z : ℤ) → below 10 z ≡ below 2 z * below 5 z
tens_below z = rw (below_is 10 z, below_is 2 z, below_is 5 z) (tens (down z))

-- both sides of the equation, but for what the powers of two are
arranged : (x x' w w' u u' y y' v v' z z' : ℕ) → x * w * u' ≡ x' * w' * u
    → x * y * z * (w * v) * (u' * y' * v' * z') ≡ x' * y' * z' * (w' * v') * (u * y * v * z)
arranged x x' w w' u u' y y' v v' z z' e = omega (arith, ap (λ (t : ℕ). t * (y * y' * v * v' * z * z')) e)

given_equal : (a b c e : ℤ) →
    above 2 (a -ℤ c) * above 3 b * above 487 e * above 10 c * (below 2 a * below 3 b * below 5 c * below 487 e)
    ≡ below 2 (a -ℤ c) * below 3 b * below 487 e * below 10 c * (above 2 a * above 3 b * above 5 c * above 487 e)
given_equal a b c e =
    rw (tens_above c, tens_below c) (
    arranged (above 2 (a -ℤ c)) (below 2 (a -ℤ c)) (above 2 c) (below 2 c) (above 2 a) (below 2 a) (above 3 b) (below 3 b) (above 5 c) (below 5 c) (above 487 e) (below 487 e) (difference_powers a c))

-- 2, 3, 5 and 487 have no factor in common, two by two
pub two_three : NoCommonFactor 2 3
two_three = common_by 1 2 1 3 refl

pub two_487 : NoCommonFactor 2 487
two_487 = common_by 243 2 1 487 refl

pub three_487 : NoCommonFactor 3 487
three_487 = common_by 162 3 1 487 refl

pub two_five : NoCommonFactor 2 5
two_five = common_by 2 2 1 5 refl

pub three_five : NoCommonFactor 3 5
three_five = common_by 3 3 2 5 refl

pub five_487 : NoCommonFactor 5 487
five_487 = common_by 292 5 3 487 refl

-- a power above the line and one below it have no factor in common, of one prime and of two
opposite : (p : ℕ) (z : ℤ) → NoCommonFactor (above p z) (below p z)
opposite p (pos n) = common_swap (common_one (p ^ n))
opposite p (negsuc n) = common_one (p ^ suc n)

apart : (p q : ℕ) (x y : ℤ) → NoCommonFactor p q → NoCommonFactor (above p x) (below q y)
apart p q x y k = rw (above_is p x, below_is q y) (common_powers (up x) (down y) k)

-- a product of three beside a product of three
all_apart : {a b c x y z : ℕ}
    → NoCommonFactor a x → NoCommonFactor a y → NoCommonFactor a z
    → NoCommonFactor b x → NoCommonFactor b y → NoCommonFactor b z
    → NoCommonFactor c x → NoCommonFactor c y → NoCommonFactor c z
    → NoCommonFactor (a * b * c) (x * y * z)
all_apart ax ay az bx by bz cx cy cz =
    common_product (common_product (beside ax ay az) (beside bx by bz)) (beside cx cy cz)
  where
    beside : {a x y z : ℕ} → NoCommonFactor a x → NoCommonFactor a y → NoCommonFactor a z → NoCommonFactor a (x * y * z)
    beside k l m = common_swap (common_product (common_product (common_swap k) (common_swap l)) (common_swap m))

given_lowest : (z b e : ℤ) → NoCommonFactor (above 2 z * above 3 b * above 487 e) (below 2 z * below 3 b * below 487 e)
given_lowest z b e = all_apart
    (opposite 2 z) (apart 2 3 z b two_three) (apart 2 487 z e two_487)
    (apart 3 2 b z (common_swap two_three)) (opposite 3 b) (apart 3 487 b e three_487)
    (apart 487 2 e z (common_swap two_487)) (apart 487 3 e b (common_swap three_487)) (opposite 487 e)

-- 5 has no factor in common with either
no_five : {n : ℕ} → NoCommonFactor n 5 → Divides 5 n → ⊥
no_five k d = omega (arith, k.one 5 d (divides_self 5))

above_five : (p : ℕ) (z : ℤ) → NoCommonFactor p 5 → NoCommonFactor (above p z) 5
above_five p z k = rw (above_is p z) (common_power (up z) k)

below_five : (p : ℕ) (z : ℤ) → NoCommonFactor p 5 → NoCommonFactor (below p z) 5
below_five p z k = rw (below_is p z) (common_power (down z) k)

pub fraction_exact : (a b c e : ℤ) → Exact a b c e (fraction a b c e).numerator (fraction a b c e).denominator (fraction a b c e).k.0
unfolding fraction
fraction_exact a b c e = record {
  equal = given_equal a b c e;
  positive = (
    mul-pos (mul-pos (positive_above 2 (a -ℤ c) (omega arith)) (positive_above 3 b (omega arith))) (positive_above 487 e (omega arith)),
    mul-pos (mul-pos (positive_below 2 (a -ℤ c) (omega arith)) (positive_below 3 b (omega arith))) (positive_below 487 e (omega arith)),
  );
  lowest = given_lowest (a -ℤ c) b e;
  without_five = (
    no_five (common_product (common_product (above_five 2 (a -ℤ c) two_five) (above_five 3 b three_five)) (above_five 487 e (common_swap five_487))),
    no_five (common_product (common_product (below_five 2 (a -ℤ c) two_five) (below_five 3 b three_five)) (below_five 487 e (common_swap five_487))),
  );
}

-- NO OTHER FRACTION

-- a power of ten that is left on one side brings in 5
ten_left : (m n : ℕ) (j : ℕ) → m * 10 ^ suc j ≡ n → Divides 5 n
ten_left m n j e = divides (m * (10 ^ j * 2)) (omega (arith, rw pow-suc at e))

-- the two equations, multiplied crosswise
crossed : (n t b d t' a x s y s' : ℕ) → n * t * b ≡ d * t' * a → x * s * b ≡ y * s' * a → a * b * (n * y * (t * s')) ≡ a * b * (x * d * (s * t'))
crossed n t b d t' a x s y s' e f = omega (arith, ap (λ (z : ℕ). z * (y * s' * a)) e ∙ ap (λ (z : ℕ). d * t' * a * z) (sym f))

-- what is left of them: powers of ten, and the four numbers
module _ (n d x y : ℕ) (k l : ℤ) (e : n * y * 10 ^ (up k + down l) ≡ x * d * 10 ^ (up l + down k)) where
  -- the larger power of ten has more than the smaller
  more_tens : (m o i j : ℕ) → i < j → m * 10 ^ j ≡ o * 10 ^ i → Divides 5 o
  more_tens m o i j h f = go (le_dest h)
    where
      go : (z : ℕ) × (suc i + z ≡ j) → Divides 5 o
      go (z, p) = ten_left m o z (eq_of_mul-eq-mul_left (10 ^ i) (one-le-pow i 10 (omega arith)) (m * 10 ^ suc z) o (omega (arith, f, whole)))
        where
          whole : m * 10 ^ j ≡ 10 ^ i * (m * 10 ^ suc z)
          whole = ap (λ (t : ℕ). m * 10 ^ t) (split z p) ∙ ap (λ (t : ℕ). m * t) (power_sum 10 i (suc z)) ∙ turn (10 ^ i) (10 ^ suc z)
            where
              split : (z : ℕ) → suc i + z ≡ j → j ≡ i + suc z
              split z p = omega arith

              turn : (a b : ℕ) → m * (a * b) ≡ a * (m * b)
              turn a b = omega arith

  same_tens : (Divides 5 (x * d) → ⊥) → (Divides 5 (n * y) → ⊥) → (k ≡ l) × (n * y ≡ x * d)
  same_tens g h = go (dec_lt (up l + down k) (up k + down l)) (dec_lt (up k + down l) (up l + down k))
    where
      go : Dec (up l + down k < up k + down l) → Dec (up k + down l < up l + down k) → (k ≡ l) × (n * y ≡ x * d)
      go (yes u) v = absurd (g (more_tens (n * y) (x * d) (up l + down k) (up k + down l) u e))
      go (no u) (yes v) = absurd (h (more_tens (x * d) (n * y) (up k + down l) (up l + down k) v (sym e)))
      go (no u) (no v) =
          let q : up k + down l ≡ up l + down k = omega arith in
          let ten = 10 ^ (up l + down k) in (
            same_exponent k l q,
            eq_of_mul-eq-mul_left ten (one-le-pow (up l + down k) 10 (omega arith)) (n * y) (x * d) (mul_comm ten (n * y) ∙ sym (ap (λ (t : ℕ). n * y * 10 ^ t) q) ∙ e ∙ mul_comm (x * d) ten),
          )

pub exact_once : {a b c e k l : ℤ} {n d x y : ℕ} → Exact a b c e n d k → Exact a b c e x y l → (n ≡ x) × (d ≡ y) × (k ≡ l)
exact_once {a} {b} {c} {e} {k} {l} {n} {d} {x} {y} u v = (fst.0, fst.1, tens_same.0)
  where
    bottom : ℕ
    bottom = below 2 a * below 3 b * below 5 c * below 487 e

    top : ℕ
    top = above 2 a * above 3 b * above 5 c * above 487 e

    positive : 1 ≤ top * bottom
    positive = mul-pos
        (mul-pos (mul-pos (mul-pos (positive_above 2 a (omega arith)) (positive_above 3 b (omega arith))) (positive_above 5 c (omega arith))) (positive_above 487 e (omega arith)))
        (mul-pos (mul-pos (mul-pos (positive_below 2 a (omega arith)) (positive_below 3 b (omega arith))) (positive_below 5 c (omega arith))) (positive_below 487 e (omega arith)))

    left : n * y * (above 10 k * below 10 l) ≡ x * d * (above 10 l * below 10 k)
    left = eq_of_mul-eq-mul_left (top * bottom) positive (n * y * (above 10 k * below 10 l)) (x * d * (above 10 l * below 10 k)) (crossed n (above 10 k) bottom d (below 10 k) top x (above 10 l) y (below 10 l) u.equal v.equal)

    powers : n * y * 10 ^ (up k + down l) ≡ x * d * 10 ^ (up l + down k)
    powers = rw (power_sum 10 (up k) (down l), power_sum 10 (up l) (down k)) (rw (above_is 10 k, below_is 10 k, above_is 10 l, below_is 10 l) at left)

    tens_same : (k ≡ l) × (n * y ≡ x * d)
    tens_same = same_tens n d x y k l powers (prime_product five_prime v.without_five.0 u.without_five.1) (prime_product five_prime u.without_five.0 v.without_five.1)

    fst : (n ≡ x) × (d ≡ y)
    fst = same_lowest u.lowest v.lowest u.positive v.positive tens_same.1
