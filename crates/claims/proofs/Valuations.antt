-- How often a prime divides a number: one answer, and additive over products.
use Prim.Native.Nat.{ℕ, zero, suc, ◌≤◌, ◌<◌, ◌+◌, ◌*◌, ◌^◌, ◌/◌, ◌%◌}
use native.Mathlib.Omega.{arith}
use native.Mathlib.Decide.{dec_lt, ℕ_discrete}
use native.Mathlib.Nat.{mul-one, one-mul, mul-mul-mul_comm, eq_of_mul-eq-mul_left, pow-suc, pow-zero, one-le-pow, mul-mod_left, mul-zero, mul-suc, pow-lt-pow_left, div-add-mod', le_dest, mul-le-mul_left}
use mathlib.Core.Path.{◌≡◌, refl, sym, ap, ◌∙◌}
use mathlib.Core.Bool.{Bool, true, false, ◌||◌, not}
use lib.Dec.{eqb, leb}
use borrow.Author.Tests.{eq-eqb, lt-leb}
use Rattle.claims.specs.Fractions.{Divides, NoCommonFactor}
use Rattle.label.proofs.Basics.{all_below, at_below}
use Rattle.claims.proofs.Coprime.{divides, divides_le, euclid, power_sum}

-- PRIMES

-- what a prime does not divide has no factor in common with it
pub record Prime (p : ℕ) : Type 0 where
  pub least : 2 ≤ p
  pub apart : (n : ℕ) → (Divides p n → ⊥) → NoCommonFactor p n

-- no number from 2 up to p divides p
divisor_test : ℕ → ℕ → Bool
divisor_test p m = leb m 1 || not (eqb (p % m) 0)

prime_test : ℕ → Bool
prime_test p = all_below (divisor_test p) p

divisor_one : (p m : ℕ) → divisor_test p m ≡ true → 1 ≤ p → Divides m p → m ≡ 1
unfolding divisor_test
divisor_one p zero t h d = absurd (omega (arith, d.is))
divisor_one p (suc zero) t h d = refl
divisor_one p (suc (suc m)) t h d = absurd (go (rw (lt-leb (suc (suc m)) 1 (omega arith), eq-eqb (p % suc (suc m)) 0 (ap (λ (x : ℕ). x % suc (suc m)) (sym d.is) ∙ mul-mod_left d.times (suc (suc m)))) at t))
  where
    go : false ≡ true → ⊥
    go e = let z : ◌≡◌ {A = ℕ} 0 1 = cc in omega arith

prime_by : (p : ℕ) → 2 ≤ p → prime_test p ≡ true → Prime p
unfolding prime_test
prime_by p h t = record { least = h; apart = λ n g. record { one = λ m x y. go n g m x y (dec_lt m p) } }
  where
    go : (n : ℕ) → (Divides p n → ⊥) → (m : ℕ) → Divides m p → Divides m n → Dec (m < p) → m ≡ 1
    go n g m x y (yes l) = divisor_one p m (at_below (divisor_test p) p t m l) (omega arith) x
    go n g m x y (no l) = let e : m ≡ p = omega (arith, divides_le x (omega arith)) in absurd (g (rw (← e) y))

pub two_prime : Prime 2
unfolding prime_test all_below divisor_test
two_prime = prime_by 2 (omega arith) refl

pub three_prime : Prime 3
unfolding prime_test all_below divisor_test
three_prime = prime_by 3 (omega arith) refl

pub five_prime : Prime 5
unfolding prime_test all_below divisor_test
five_prime = prime_by 5 (omega arith) refl

pub other_prime : Prime 487
unfolding prime_test all_below divisor_test
other_prime = prime_by 487 (omega arith) refl

pub prime_product : {p a b : ℕ} → Prime p → (Divides p a → ⊥) → (Divides p b → ⊥) → Divides p (a * b) → ⊥
prime_product {p} {a} {b} t g h d = h (euclid a (t.apart a g) d)

-- HOW OFTEN

-- p divides n exactly v times
pub record Often (p n v : ℕ) : Type 0 where
  pub rest : ℕ
  pub is : p ^ v * rest ≡ n
  pub free : Divides p rest → ⊥

pub often_none : {p n : ℕ} → (Divides p n → ⊥) → Often p n 0
often_none {p} {n} h = record { rest = n; is = rw pow-zero (one-mul n); free = h }

pub often_product : {p m n u v : ℕ} → Prime p → Often p m u → Often p n v → Often p (m * n) (u + v)
often_product {p} {m} {n} {u} {v} t a b = record {
  rest = a.rest * b.rest;
  is = rw (power_sum p u v) (mul-mul-mul_comm (p ^ u) (p ^ v) a.rest b.rest ∙ (λ i. a.is i * b.is i));
  free = prime_product t a.free b.free;
}

no_divisor_of_one : {p : ℕ} → 2 ≤ p → Divides p 1 → ⊥
no_divisor_of_one h d = omega (arith, divides_le d (omega arith))

pub often_power : {p n v : ℕ} → Prime p → (j : ℕ) → Often p n v → Often p (n ^ j) (v * j)
often_power {p} {n} {v} t zero a = rw (pow-zero, mul-zero) (often_none (no_divisor_of_one t.least))
often_power {p} {n} {v} t (suc j) a = rw (pow-suc, mul-suc) (often_product t (often_power t j a) a)

pub often_itself : {p : ℕ} → Prime p → (j : ℕ) → Often p (p ^ j) j
often_itself {p} t j = record { rest = 1; is = mul-one (p ^ j); free = no_divisor_of_one t.least }

pub often_once : {p n u v : ℕ} → Prime p → Often p n u → Often p n v → u ≡ v
often_once {p} {n} {u} {v} t a b = go (dec_lt u v) (dec_lt v u)
  where
    less : {x y : ℕ} (f : Often p n x) (g : Often p n y) → x < y → ⊥
    less {x} {y} f g h = more (le_dest h)
      where
        more : (z : ℕ) × (suc x + z ≡ y) → ⊥
        more (z, e) = f.free (divides (p ^ z * g.rest) (eq_of_mul-eq-mul_left (p ^ x) (one-le-pow x p (omega (arith, t.least))) (p ^ z * g.rest * p) f.rest (whole ∙ g.is ∙ sym f.is)))
          where
            whole : p ^ x * (p ^ z * g.rest * p) ≡ p ^ y * g.rest
            whole = turn (p ^ x) (p ^ z) g.rest ∙ ap (λ (o : ℕ). o * g.rest) (ap (λ (o : ℕ). p ^ x * o) (sym (pow-suc p z)) ∙ sym (power_sum p x (suc z)) ∙ ap (λ (o : ℕ). p ^ o) (sum z e))
              where
                turn : (a b c : ℕ) → a * (b * c * p) ≡ a * (b * p) * c
                turn a b c = omega arith

                sum : (z : ℕ) → suc x + z ≡ y → x + suc z ≡ y
                sum z e = omega arith

    go : Dec (u < v) → Dec (v < u) → u ≡ v
    go (yes h) y = absurd (less a b h)
    go (no h) (yes y) = absurd (less b a y)
    go (no h) (no y) = omega arith

-- how often p divides n: every positive number has an answer
pub record Divided (p n : ℕ) : Type 0 where
  pub times : ℕ
  pub often : Often p n times

divided_within : {p : ℕ} → Prime p → (f n : ℕ) → n ≤ f → 1 ≤ n → Divided p n
divided_within {p} t zero n h l = absurd (omega arith)
divided_within {p} t (suc f) n h l = go (ℕ_discrete (n % p) 0) (λ m g k. divided_within t f m g k)
  where
    go : Dec (n % p ≡ 0) → ((m : ℕ) → m ≤ f → 1 ≤ m → Divided p m) → Divided p n
    go (yes e) ih = last (n / p) (omega (arith, div-add-mod' n p))
      where
        last : (m : ℕ) → m * p ≡ n → Divided p n
        last zero e = absurd (omega arith)
        last (suc m) e = more (ih (suc m) (omega (arith, mul-le-mul_left (suc m) t.least)) (omega arith))
          where
            more : Divided p (suc m) → Divided p n
            more w = record {
              times = suc w.times;
              often = record {
                rest = w.often.rest;
                is = rw pow-suc (turn (p ^ w.times) w.often.rest ∙ ap (λ (x : ℕ). x * p) w.often.is ∙ e);
                free = w.often.free;
              };
            }
              where
                turn : (a b : ℕ) → a * p * b ≡ a * b * p
                turn a b = omega arith
    go (no e) ih = record { times = 0; often = often_none (λ (d : Divides p n). e (ap (λ (x : ℕ). x % p) (sym d.is) ∙ mul-mod_left d.times p)) }

pub divided : {p : ℕ} → Prime p → (n : ℕ) → 1 ≤ n → Divided p n
divided t n h = divided_within t n n (omega arith) h

-- EQUAL POWERS

pub same_base : (j a b : ℕ) → 1 ≤ j → a ^ j ≡ b ^ j → a ≡ b
same_base j a b h e = go (dec_lt a b) (dec_lt b a)
  where
    go : Dec (a < b) → Dec (b < a) → a ≡ b
    go (yes l) y = absurd (omega (arith, pow-lt-pow_left {a = a} {b = b} {n = j} l (omega arith)))
    go (no l) (yes y) = absurd (omega (arith, pow-lt-pow_left {a = b} {b = a} {n = j} y (omega arith)))
    go (no l) (no y) = omega arith
