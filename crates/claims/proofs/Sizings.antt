-- The factor by exponents of primes is the one that the listed sizes give.
use Prim.Native.Nat.{ℕ, ◌≤◌, ◌+◌, ◌*◌, ◌^◌}
use native.Mathlib.Omega.{arith}
use native.Mathlib.Nat.{mul-pos, eq_of_mul-eq-mul_left, one-le-pow}
use mathlib.Core.Path.{◌≡◌, refl, sym, ap, ◌∙◌}
use mathlib.Core.List.{Memᴰ}
use lib.IntN.{ℤ, pos, sub_ℕ, ◌-ℤ◌, ◌*ℤ◌}
use Rattle.label.specs.Limits.{parts_of_one}
use Rattle.label.specs.Reading.{Reading, primes}
use Rattle.label.specs.Conversion.{above, below, fraction}
use Rattle.claims.specs.Fractions.{Divides, NoCommonFactor, Exact}
use Rattle.claims.specs.Parts.{up, down}
use Rattle.claims.specs.Converting.{prime_exponent, Whole, WholeIn, FactorIs}
use Rattle.claims.specs.Sizing.{top, bottom, SizesGive, SizesGiveTheFactor, FractionExactlyIf}
use Rattle.claims.proofs.Coprime.{divides_self, common_swap, common_power, power_product}
use Rattle.claims.proofs.Exactness.{above_is, below_is, positive_above, positive_below, same_exponent, sub_parts, difference_parts, fraction_exact, two_three, two_487, three_487, two_five, three_five, five_487}
use Rattle.claims.proofs.Valuations.{Prime, two_prime, three_prime, five_prime, other_prime, Often, often_none, often_product, often_power, often_itself, often_once, divided, same_base}
use Rattle.claims.proofs.Scales.{powers, powers_sum, powers_power, times_parts, Factored, factored}

-- HOW OFTEN A PRIME DIVIDES A PRODUCT OF POWERS

often_other : {p q : ℕ} → Prime p → NoCommonFactor q p → (n : ℕ) → Often p (q ^ n) 0
often_other {p} {q} t k n = often_none (λ (d : Divides p (q ^ n)). omega (arith, (common_power n k).one p d (divides_self p), t.least))

often_sum : {p n u v : ℕ} → u ≡ v → Often p n u → Often p n v
often_sum e o = rw e at o

module _ (a b c e : ℕ) where
  often_two : Often 2 (powers a b c e) a
  often_two = often_sum (omega arith) (often_product two_prime (often_product two_prime (often_product two_prime
      (often_itself two_prime a) (often_other two_prime (common_swap two_three) b)) (often_other two_prime (common_swap two_five) c)) (often_other two_prime (common_swap two_487) e))

  often_three : Often 3 (powers a b c e) b
  often_three = often_sum (omega arith) (often_product three_prime (often_product three_prime (often_product three_prime
      (often_other three_prime two_three a) (often_itself three_prime b)) (often_other three_prime (common_swap three_five) c)) (often_other three_prime (common_swap three_487) e))

  often_five : Often 5 (powers a b c e) c
  often_five = often_sum (omega arith) (often_product five_prime (often_product five_prime (often_product five_prime
      (often_other five_prime two_five a) (often_other five_prime three_five b)) (often_itself five_prime c)) (often_other five_prime (common_swap five_487) e))

  often_487 : Often 487 (powers a b c e) e
  often_487 = often_sum (omega arith) (often_product other_prime (often_product other_prime (often_product other_prime
      (often_other other_prime two_487 a) (often_other other_prime three_487 b)) (often_other other_prime five_487 c)) (often_itself other_prime e))

powers_positive : (a b c e : ℕ) → 1 ≤ powers a b c e
powers_positive a b c e = mul-pos (mul-pos (mul-pos (one-le-pow a 2 (omega arith)) (one-le-pow b 3 (omega arith))) (one-le-pow c 5 (omega arith))) (one-le-pow e 487 (omega arith))

-- EXPONENTS IN FIRST OVER SECOND

-- i and j are E's parts above and below the line, but for what both have; so k and l those of F; E is 60 w more than F
balanced : (E F w : ℤ) (i j k l : ℕ) → up E + j ≡ down E + i → up F + l ≡ down F + k → Whole (E -ℤ F) w
    → i + l + down w * parts_of_one ≡ j + k + up w * parts_of_one
balanced E F w i j k l h g u =
    omega (arith, difference_parts E F, ap up u.is, ap down u.is, (times_parts w parts_of_one).0, (times_parts w parts_of_one).1)

-- and the other way round
unbalanced : (E F w : ℤ) (i j k l : ℕ) → up E + j ≡ down E + i → up F + l ≡ down F + k
    → i + l + down w * parts_of_one ≡ j + k + up w * parts_of_one → Whole (E -ℤ F) w
unbalanced E F w i j k l h g e = record {
  is = same_exponent (w *ℤ pos parts_of_one) (E -ℤ F) (
      rw ((times_parts w parts_of_one).0, (times_parts w parts_of_one).1) (omega (arith, difference_parts E F)));
}

-- THE TWO EQUATIONS

-- two equations with a side in common
there : (x y a b c d : ℕ) → 1 ≤ d → b * c ≡ a * d → x * c ≡ y * d → x * a ≡ y * b
there x y a b c d h e f = eq_of_mul-eq-mul_left d h (x * a) (y * b) (omega (arith, ap (λ (z : ℕ). x * z) e, ap (λ (z : ℕ). b * z) f))

back : (x y a b c d : ℕ) → 1 ≤ b → b * c ≡ a * d → x * a ≡ y * b → x * c ≡ y * d
back x y a b c d h e f = eq_of_mul-eq-mul_left b h (x * c) (y * d) (omega (arith, ap (λ (z : ℕ). x * z) e, ap (λ (z : ℕ). d * z) f))

first_is : {r q : Reading} (f : Factored r) (g : Factored q) → bottom r * top q ≡ powers (f.x + g.a) (f.y + g.b) (f.z + g.c) (f.w + g.e)
first_is f g = (λ i. f.bottom_is i * g.top_is i) ∙ powers_sum f.x f.y f.z f.w g.a g.b g.c g.e

second_is : {r q : Reading} (f : Factored r) (g : Factored q) → top r * bottom q ≡ powers (f.a + g.x) (f.b + g.y) (f.c + g.z) (f.e + g.w)
second_is f g = (λ i. f.top_is i * g.bottom_is i) ∙ powers_sum f.a f.b f.c f.e g.x g.y g.z g.w

module _ (r q : Reading) (n d : ℕ) (k : ℤ) (of_2 of_3 of_5 of_487 : ℤ) where
  abbrev low : ℕ
  low = powers (down of_2) (down of_3) (down of_5) (down of_487)

  abbrev high : ℕ
  high = powers (up of_2) (up of_3) (up of_5) (up of_487)

  low_is : below 2 of_2 * below 3 of_3 * below 5 of_5 * below 487 of_487 ≡ low
  low_is = λ i. below_is 2 of_2 i * below_is 3 of_3 i * below_is 5 of_5 i * below_is 487 of_487 i

  high_is : above 2 of_2 * above 3 of_3 * above 5 of_5 * above 487 of_487 ≡ high
  high_is = λ i. above_is 2 of_2 i * above_is 3 of_3 i * above_is 5 of_5 i * above_is 487 of_487 i

  -- the equation of the sixtieth powers, over all that divides and all that multiplies
  module _ (f : Factored r) (g : Factored q) (h : WholeIn 2 r q of_2) (i : WholeIn 3 r q of_3) (j : WholeIn 5 r q of_5) (l : WholeIn 487 r q of_487) where
    sides : top r * bottom q * low ^ parts_of_one ≡ bottom r * top q * high ^ parts_of_one
    sides =
        (λ i. second_is f g i * powers_power (down of_2) (down of_3) (down of_5) (down of_487) parts_of_one i)
        ∙ powers_sum (f.a + g.x) (f.b + g.y) (f.c + g.z) (f.e + g.w) (down of_2 * parts_of_one) (down of_3 * parts_of_one) (down of_5 * parts_of_one) (down of_487 * parts_of_one)
        ∙ (λ o. powers
        (balanced (prime_exponent 2 r) (prime_exponent 2 q) of_2 f.a f.x g.a g.x f.two g.two h o)
        (balanced (prime_exponent 3 r) (prime_exponent 3 q) of_3 f.b f.y g.b g.y f.three g.three i o)
        (balanced (prime_exponent 5 r) (prime_exponent 5 q) of_5 f.c f.z g.c g.z f.five g.five j o)
        (balanced (prime_exponent 487 r) (prime_exponent 487 q) of_487 f.e f.w g.e g.w f.other g.other l o))
        ∙ sym (powers_sum (f.x + g.a) (f.y + g.b) (f.z + g.c) (f.w + g.e) (up of_2 * parts_of_one) (up of_3 * parts_of_one) (up of_5 * parts_of_one) (up of_487 * parts_of_one))
        ∙ sym (λ i. first_is f g i * powers_power (up of_2) (up of_3) (up of_5) (up of_487) parts_of_one i)

    second_positive : 1 ≤ top r * bottom q
    second_positive = rw (second_is f g) (powers_positive (f.a + g.x) (f.b + g.y) (f.c + g.z) (f.e + g.w))

    high_positive : 1 ≤ high ^ parts_of_one
    high_positive = one-le-pow parts_of_one high (powers_positive (up of_2) (up of_3) (up of_5) (up of_487))

    -- from the exponents to the sizes
    sizes_from : Exact of_2 of_3 of_5 of_487 n d k → SizesGive r q n d k
    sizes_from e = record {
      equal = there ((n * above 10 k) ^ parts_of_one) ((d * below 10 k) ^ parts_of_one) (bottom r * top q) (top r * bottom q) (low ^ parts_of_one) (high ^ parts_of_one) high_positive sides raised;
      positive = e.positive;
      lowest = e.lowest;
      without_five = e.without_five;
    }
      where
        raised : (n * above 10 k) ^ parts_of_one * low ^ parts_of_one ≡ (d * below 10 k) ^ parts_of_one * high ^ parts_of_one
        raised =
            sym (power_product (n * above 10 k) low parts_of_one)
            ∙ ap (λ (x : ℕ). x ^ parts_of_one) (ap (λ (x : ℕ). n * above 10 k * x) (sym low_is) ∙ e.equal ∙ ap (λ (x : ℕ). d * below 10 k * x) high_is)
            ∙ power_product (d * below 10 k) high parts_of_one

    -- from the sizes to the exponents
    exact_from : SizesGive r q n d k → Exact of_2 of_3 of_5 of_487 n d k
    exact_from e = record {
      equal = ap (λ (x : ℕ). n * above 10 k * x) low_is ∙ same_base parts_of_one (n * above 10 k * low) (d * below 10 k * high) (omega arith) lowered ∙ ap (λ (x : ℕ). d * below 10 k * x) (sym high_is);
      positive = e.positive;
      lowest = e.lowest;
      without_five = e.without_five;
    }
      where
        lowered : (n * above 10 k * low) ^ parts_of_one ≡ (d * below 10 k * high) ^ parts_of_one
        lowered =
            power_product (n * above 10 k) low parts_of_one
            ∙ back ((n * above 10 k) ^ parts_of_one) ((d * below 10 k) ^ parts_of_one) (bottom r * top q) (top r * bottom q) (low ^ parts_of_one) (high ^ parts_of_one) second_positive sides e.equal
            ∙ sym (power_product (d * below 10 k) high parts_of_one)

-- WHOLE EXPONENTS, FROM THE SIZES

-- x to the 60th times a is y to the 60th times b: the difference of how often p divides them
difference_of : {p x y a b i j : ℕ} → Prime p → 1 ≤ x → 1 ≤ y → Often p a i → Often p b j → x ^ parts_of_one * a ≡ y ^ parts_of_one * b
    → (w : ℤ) × (j + down w * parts_of_one ≡ i + up w * parts_of_one)
difference_of {p} {x} {y} {a} {b} {i} {j} t h g o u e =
    let v = divided t x h in
    let w = divided t y g in
    let z = often_once t (often_product t (often_power t parts_of_one v.often) o) (rw (← e) at (often_product t (often_power t parts_of_one w.often) u)) in
    (sub_ℕ v.times w.times, omega (arith, sub_parts v.times w.times, z))

module _ {r q : Reading} {n d : ℕ} {k : ℤ} (s : SizesGive r q n d k) (f : Factored r) (g : Factored q) where
  x_positive : 1 ≤ n * above 10 k
  x_positive = mul-pos s.positive.0 (positive_above 10 k (omega arith))

  y_positive : 1 ≤ d * below 10 k
  y_positive = mul-pos s.positive.1 (positive_below 10 k (omega arith))

  equation : (n * above 10 k) ^ parts_of_one * powers (f.x + g.a) (f.y + g.b) (f.z + g.c) (f.w + g.e)
      ≡ (d * below 10 k) ^ parts_of_one * powers (f.a + g.x) (f.b + g.y) (f.c + g.z) (f.e + g.w)
  equation =
      ap (λ (x : ℕ). (n * above 10 k) ^ parts_of_one * x) (sym (first_is f g)) ∙ s.equal ∙ ap (λ (x : ℕ). (d * below 10 k) ^ parts_of_one * x) (second_is f g)

  -- the exponent of p, of which the first label has i above the line and j below it, and the second k and l
  whole_of : {p : ℕ} (i j k l : ℕ) → Prime p
      → Often p (powers (f.x + g.a) (f.y + g.b) (f.z + g.c) (f.w + g.e)) (j + k)
      → Often p (powers (f.a + g.x) (f.b + g.y) (f.c + g.z) (f.e + g.w)) (i + l)
      → up (prime_exponent p r) + j ≡ down (prime_exponent p r) + i → up (prime_exponent p q) + l ≡ down (prime_exponent p q) + k → (w : ℤ) × WholeIn p r q w
  whole_of {p} i j k l t o u e h =
      let w = difference_of t x_positive y_positive o u equation in
      (w.0, unbalanced (prime_exponent p r) (prime_exponent p q) w.0 i j k l e h w.1)

  whole_two : (w : ℤ) × WholeIn 2 r q w
  whole_two = whole_of f.a f.x g.a g.x two_prime (often_two _ _ _ _) (often_two _ _ _ _) f.two g.two

  whole_three : (w : ℤ) × WholeIn 3 r q w
  whole_three = whole_of f.b f.y g.b g.y three_prime (often_three _ _ _ _) (often_three _ _ _ _) f.three g.three

  whole_five : (w : ℤ) × WholeIn 5 r q w
  whole_five = whole_of f.c f.z g.c g.z five_prime (often_five _ _ _ _) (often_five _ _ _ _) f.five g.five

  whole_other : (w : ℤ) × WholeIn 487 r q w
  whole_other = whole_of f.e f.w g.e g.w other_prime (often_487 _ _ _ _) (often_487 _ _ _ _) f.other g.other

  sizes_factor : FactorIs r q n d k
  sizes_factor = record {
    of_2 = whole_two.0;
    of_3 = whole_three.0;
    of_5 = whole_five.0;
    of_487 = whole_other.0;
    whole_2 = whole_two.1;
    whole_3 = whole_three.1;
    whole_5 = whole_five.1;
    whole_487 = whole_other.1;
    exact = exact_from r q n d k whole_two.0 whole_three.0 whole_five.0 whole_other.0 f g whole_two.1 whole_three.1 whole_five.1 whole_other.1 s;
  }

factor_sizes : {r q : Reading} {n d : ℕ} {k : ℤ} → FactorIs r q n d k → SizesGive r q n d k
factor_sizes {r} {q} {n} {d} {k} f =
    sizes_from r q n d k f.of_2 f.of_3 f.of_5 f.of_487 (factored r) (factored q) f.whole_2 f.whole_3 f.whole_5 f.whole_487 f.exact

pub sizes_give_the_factor : SizesGiveTheFactor
sizes_give_the_factor r q n d k = ((λ s. sizes_factor s (factored r) (factored q)), (λ f. factor_sizes f))

-- A FRACTION EXACTLY IF THE FOUR ARE WHOLE

at_prime : {r q : Reading} {n d : ℕ} {k : ℤ} → FactorIs r q n d k → (p : ℕ) → Memᴰ p primes → (w : ℤ) × WholeIn p r q w
at_prime f p (Memᴰ.head e) = (f.of_2, rw e f.whole_2)
at_prime f p (Memᴰ.tail (Memᴰ.head e)) = (f.of_3, rw e f.whole_3)
at_prime f p (Memᴰ.tail (Memᴰ.tail (Memᴰ.head e))) = (f.of_5, rw e f.whole_5)
at_prime f p (Memᴰ.tail (Memᴰ.tail (Memᴰ.tail (Memᴰ.head e)))) = (f.of_487, rw e f.whole_487)
at_prime f p (Memᴰ.tail (Memᴰ.tail (Memᴰ.tail (Memᴰ.tail h)))) = elim h [ ]

whole_factor : {r q : Reading} → ((p : ℕ) → Memᴰ p primes → (w : ℤ) × WholeIn p r q w) → (n : ℕ) × (d : ℕ) × (k : ℤ) × FactorIs r q n d k
whole_factor {r} {q} h =
    let a = h 2 (Memᴰ.head refl) in
    let b = h 3 (Memᴰ.tail (Memᴰ.head refl)) in
    let c = h 5 (Memᴰ.tail (Memᴰ.tail (Memᴰ.head refl))) in
    let e = h 487 (Memᴰ.tail (Memᴰ.tail (Memᴰ.tail (Memᴰ.head refl)))) in
    let x = fraction a.0 b.0 c.0 e.0 in (
      x.numerator,
      x.denominator,
      x.k.0,
      record {
        of_2 = a.0;
        of_3 = b.0;
        of_5 = c.0;
        of_487 = e.0;
        whole_2 = a.1;
        whole_3 = b.1;
        whole_5 = c.1;
        whole_487 = e.1;
        exact = fraction_exact a.0 b.0 c.0 e.0;
      },
    )

pub fraction_exactly_if : FractionExactlyIf
fraction_exactly_if r q = (
  (λ h. let f = whole_factor h in (f.0, f.1, f.2, factor_sizes f.3)),
  (λ s. at_prime (sizes_factor s.3 (factored r) (factored q))),
)
