-- Numbers without a common factor: Euclid's lemma, products and powers, and that a fraction has one form in lowest terms.
use Prim.Native.Nat.{ℕ, zero, suc, ◌≤◌, ◌+◌, ◌*◌, ◌^◌}
use native.Mathlib.Omega.{arith}
use native.Mathlib.Decide.{dec_le}
use native.Mathlib.Nat.{mul_comm, mul_assoc, le_dest, le_of_mul-le-mul_left, eq_of_mul-eq-mul_left, mul-one, mul-mul-mul_comm, add-zero, add-suc, pow-suc, pow-zero}
use mathlib.Core.Path.{◌≡◌, ap, ◌∙◌}
use Rattle.claims.specs.Fractions.{Divides, NoCommonFactor}

-- DIVISORS

pub divides : {m n : ℕ} (q : ℕ) → q * m ≡ n → Divides m n
divides q e = record { times = q; is = e }

pub divides_self : (n : ℕ) → Divides n n
divides_self n = divides 1 (omega arith)

pub divides_zero : (n : ℕ) → Divides n 0
divides_zero n = divides 0 (omega arith)

pub divides_trans : {l m n : ℕ} → Divides l m → Divides m n → Divides l n
divides_trans {l} {m} {n} x y =
    divides (y.times * x.times) (mul_assoc y.times x.times l ∙ ap (λ (z : ℕ). y.times * z) x.is ∙ y.is)

divides_sum : {l m n : ℕ} → Divides l m → Divides l n → Divides l (m + n)
divides_sum {l} x y = divides (x.times + y.times) (omega (arith, x.is, y.is))

pub divides_le : {m n : ℕ} → Divides m n → 1 ≤ n → m ≤ n
divides_le {m} {n} x h = go x.times x.is
  where
    go : (q : ℕ) → q * m ≡ n → m ≤ n
    go zero e = absurd (omega arith)
    go (suc q) e = omega arith

pub divides_one : {m : ℕ} → Divides m 1 → m ≡ 1
divides_one {m} x = go m x.times x.is (divides_le x (omega arith))
  where
    go : (m q : ℕ) → q * m ≡ 1 → m ≤ 1 → m ≡ 1
    go zero q e h = absurd (omega arith)
    go (suc m) q e h = omega arith

-- EUCLID'S LEMMA

pub common_swap : {a b : ℕ} → NoCommonFactor a b → NoCommonFactor b a
common_swap k = record { one = λ m x y. k.one m y x }

-- taking one of the numbers from the other
common_less : {a b c : ℕ} → a + c ≡ b → NoCommonFactor a b → NoCommonFactor a c
common_less {a} {b} {c} e k = record { one = λ m x y. k.one m x (rw (← e) (divides_sum x y)) }

abbrev Euclid : ℕ → Type 0
Euclid f = (a b c : ℕ) → a + b ≤ f → NoCommonFactor a b → Divides a (b * c) → Divides a c

module _ (f : ℕ) (ih : Euclid f) (a b c q : ℕ) (h : a + b ≤ suc f) (k : NoCommonFactor a b) (e : q * a ≡ b * c) where
  at_most : 1 ≤ a → a ≤ b → Divides a c
  at_most l g = more (le_dest g)
    where
      more : (x : ℕ) × (a + x ≡ b) → Divides a c
      more (x, p) = most (le_dest c_q)
        where
          c_q : c ≤ q
          c_q = le_of_mul-le-mul_left {k = a} (omega (arith, ap (λ (z : ℕ). z * c) p)) l

          most : (y : ℕ) × (c + y ≡ q) → Divides a c
          most (y, r) = ih a x c (omega arith) (common_less p k) (divides y (omega (arith, ap (λ (z : ℕ). z * c) p, ap (λ (z : ℕ). z * a) r)))

-- the other way round, b divides q
above : (f : ℕ) → Euclid f → (a b c q : ℕ) → a + b ≤ suc f → NoCommonFactor a b → q * a ≡ b * c → 1 ≤ b → b ≤ a → Divides a c
above f ih a b c q h k e m g =
    let d = at_most f ih b a q c (omega arith) (common_swap k) (omega arith) m g in
    divides d.times (eq_of_mul-eq-mul_left b m (d.times * a) c (omega (arith, e, ap (λ (z : ℕ). z * a) d.is)))

euclid_step : (f : ℕ) → Euclid f → Euclid (suc f)
euclid_step f ih zero b c h k d =
    let one : b ≡ 1 = k.one b (divides_zero b) (divides_self b) in
    divides 0 (omega (arith, d.is, ap (λ (z : ℕ). z * c) one))
euclid_step f ih (suc a) zero c h k d =
    let one : suc a ≡ 1 = k.one (suc a) (divides_self (suc a)) (divides_zero (suc a)) in
    divides c (omega (arith, ap (λ (z : ℕ). c * z) one))
euclid_step f ih (suc a) (suc b) c h k d = go (dec_le (suc a) (suc b))
  where
    go : Dec (suc a ≤ suc b) → Divides (suc a) c
    go (yes g) = at_most f ih (suc a) (suc b) c d.times h k d.is (omega arith) g
    go (no g) = above f ih (suc a) (suc b) c d.times h k d.is (omega arith) (omega arith)

euclid_on : (f : ℕ) → Euclid f
euclid_on zero a b c h k d = absurd (omega (arith, k.one 0 (divides 0 (omega arith)) (divides 0 (omega arith))))
euclid_on (suc f) a b c h k d = euclid_step f (λ x y z g i j. euclid_on f x y z g i j) a b c h k d

-- what divides a product and has no factor in common with the first number divides the second
pub euclid : {a c : ℕ} (b : ℕ) → NoCommonFactor a b → Divides a (b * c) → Divides a c
euclid {a} {c} b k d = euclid_on (a + b) a b c (omega arith) k d

-- PRODUCTS AND POWERS

pub power_sum : (p m n : ℕ) → p ^ (m + n) ≡ p ^ m * p ^ n
power_sum p m zero = rw (add-zero, pow-zero, mul-one)
power_sum p m (suc n) = rw (add-suc, pow-suc p (m + n), pow-suc p n, power_sum p m n) (mul_assoc (p ^ m) (p ^ n) p)

pub power_product : (p q n : ℕ) → (p * q) ^ n ≡ p ^ n * q ^ n
power_product p q zero = rw (pow-zero (p * q), pow-zero p, pow-zero q)
power_product p q (suc n) = rw (pow-suc (p * q) n, pow-suc p n, pow-suc q n, power_product p q n) (mul-mul-mul_comm (p ^ n) (q ^ n) p q)

pub common_one : (c : ℕ) → NoCommonFactor 1 c
common_one c = record { one = λ m x y. divides_one x }

pub common_product : {a b c : ℕ} → NoCommonFactor a c → NoCommonFactor b c → NoCommonFactor (a * b) c
common_product {a} {b} {c} k l = record { one = λ m x y. l.one m (euclid a (record { one = λ z u v. k.one z v (divides_trans u y) }) x) y }

pub common_power : {p c : ℕ} (n : ℕ) → NoCommonFactor p c → NoCommonFactor (p ^ n) c
common_power {p} {c} zero k = rw pow-zero (common_one c)
common_power {p} {c} (suc n) k = rw pow-suc (common_product (common_power n k) k)

pub common_powers : {p q : ℕ} (n m : ℕ) → NoCommonFactor p q → NoCommonFactor (p ^ n) (q ^ m)
common_powers n m k = common_power n (common_swap (common_power m (common_swap k)))

-- a multiple of p and 1 together are a multiple of q: p and q have no factor in common
pub common_by : (x p y q : ℕ) → x * p + 1 ≡ y * q → NoCommonFactor p q
common_by x p y q e = record { one = λ m u v. divides_one (last m u v) }
  where
    last : (m : ℕ) → Divides m p → Divides m q → Divides m 1
    last zero u v = absurd (omega (arith, ap (λ (z : ℕ). y * z) v.is))
    last (suc m) u v = rest (le_dest more)
      where
        one_side : suc m * (x * u.times) ≡ x * p
        one_side = mul_comm (suc m) (x * u.times) ∙ mul_assoc x u.times (suc m) ∙ ap (λ (z : ℕ). x * z) u.is

        other_side : suc m * (y * v.times) ≡ y * q
        other_side = mul_comm (suc m) (y * v.times) ∙ mul_assoc y v.times (suc m) ∙ ap (λ (z : ℕ). y * z) v.is

        more : x * u.times ≤ y * v.times
        more = le_of_mul-le-mul_left {k = suc m} (rw (one_side, other_side) (omega arith)) (omega arith)

        rest : (t : ℕ) × (x * u.times + t ≡ y * v.times) → Divides (suc m) 1
        rest (t, r) = divides t (omega (arith, one_side, other_side, ap (λ (z : ℕ). suc m * z) r))

-- LOWEST TERMS

pub same_lowest : {n d x y : ℕ} → NoCommonFactor n d → NoCommonFactor x y → (1 ≤ n) × (1 ≤ d) → (1 ≤ x) × (1 ≤ y) → n * y ≡ x * d → (n ≡ x) × (d ≡ y)
same_lowest {n} {d} {x} {y} k l h g e = (same, eq_of_mul-eq-mul_left n h.0 d y (omega (arith, e, ap (λ (z : ℕ). z * d) same)))
  where
    one_way : Divides n x
    one_way = euclid d k (divides y (omega arith))

    other_way : Divides x n
    other_way = euclid y l (divides d (omega arith))

    same : n ≡ x
    same = omega (arith, divides_le one_way g.0, divides_le other_way h.0)
