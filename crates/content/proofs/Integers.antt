-- Integers: how large sums and products are, a product of a sum, and what the machine holds.
use Prim.Native.Nat.{ℕ, zero, suc, ◌+◌, ◌*◌, ◌-◌, ◌<◌, ◌≤◌, ◌^◌}
use native.Mathlib.Omega.{arith}
use native.Mathlib.Nat.{mul-le-mul}
use mathlib.Core.Path.{◌≡◌, refl, sym, ap, ◌∙◌}
use mathlib.Core.Bool.{Bool, true, false, cond}
use lib.IntN.{ℤ, pos, negsuc, suc_ℤ, pred_ℤ, neg_ℤ, nat_abs, sub_ℕ, ◌+ℤ◌, ◌*ℤ◌}
use lib.IntN.{+ℤ_idr, +ℤ-suc_ℤ, +ℤ-pred_ℤ, +ℤ_assoc, suc_ℤ-*ℤ, pred_ℤ-*ℤ, zero-*ℤ}
use lib.Dec.{ltb}
use lib.Signed.{mag}
use mir.Syntax.{w32, w64}
use mir.Val.{SFits, to_z, of_z}
use mir.Facts.{to_z-of_z, sfits_widen}

-- SIZES

difference : (a b : ℕ) → nat_abs (sub_ℕ a (suc b)) ≤ a + suc b
difference a b = go (ltb a (suc b))
  where
    go : (x : Bool) → nat_abs (cond x (negsuc (suc b - suc a)) (pos (a - suc b))) ≤ a + suc b
    go true = omega arith
    go false = omega arith

-- the size of a sum is at most the sum of the sizes
pub abs_sum : (a b : ℤ) → nat_abs (a +ℤ b) ≤ nat_abs a + nat_abs b
abs_sum (pos a) (pos b) = omega arith
abs_sum (pos a) (negsuc b) = difference a b
abs_sum (negsuc a) (pos b) = omega (arith, difference b a)
abs_sum (negsuc a) (negsuc b) = omega arith

pub abs_neg : (n : ℕ) → nat_abs (neg_ℤ (pos n)) ≡ n
abs_neg zero = refl
abs_neg (suc n) = refl

-- the size of a product is the product of the sizes
abs_product : (a b : ℤ) → nat_abs (a *ℤ b) ≡ nat_abs a * nat_abs b
abs_product (pos a) (pos b) = refl
abs_product (pos a) (negsuc b) = abs_neg (a * suc b)
abs_product (negsuc a) (pos b) = abs_neg (suc a * b)
abs_product (negsuc a) (negsuc b) = refl

product_within : (a b : ℤ) {m n : ℕ} → nat_abs a ≤ m → nat_abs b ≤ n → nat_abs (a *ℤ b) ≤ m * n
product_within a b h g = rw (abs_product a b) (mul-le-mul h g)

-- the size that the machine asks of a signed number
pub mag_abs : (z : ℤ) → mag z ≤ nat_abs z
mag_abs (pos n) = omega arith
mag_abs (negsuc n) = omega arith

pub abs_mag : (z : ℤ) → nat_abs z ≤ mag z + 1
abs_mag (pos n) = omega arith
abs_mag (negsuc n) = omega arith

pub wide_fits : {z : ℤ} → nat_abs z < 2 ^ 63 → SFits w64 z
wide_fits {z} h = record { sfits = omega (arith, mag_abs z) }

-- A PRODUCT OF A SUM

up : (a b k : ℤ) → (a +ℤ b) *ℤ k ≡ a *ℤ k +ℤ b *ℤ k → (a +ℤ suc_ℤ b) *ℤ k ≡ a *ℤ k +ℤ suc_ℤ b *ℤ k
up a b k e =
    ap (λ (z : ℤ). z *ℤ k) (+ℤ-suc_ℤ a b)
    ∙ suc_ℤ-*ℤ (a +ℤ b) k
    ∙ ap (λ (z : ℤ). z +ℤ k) e
    ∙ +ℤ_assoc (a *ℤ k) (b *ℤ k) k
    ∙ ap (λ (z : ℤ). a *ℤ k +ℤ z) (sym (suc_ℤ-*ℤ b k))

down : (a b k : ℤ) → (a +ℤ b) *ℤ k ≡ a *ℤ k +ℤ b *ℤ k → (a +ℤ pred_ℤ b) *ℤ k ≡ a *ℤ k +ℤ pred_ℤ b *ℤ k
down a b k e =
    ap (λ (z : ℤ). z *ℤ k) (+ℤ-pred_ℤ a b)
    ∙ pred_ℤ-*ℤ (a +ℤ b) k
    ∙ ap (λ (z : ℤ). z +ℤ neg_ℤ k) e
    ∙ +ℤ_assoc (a *ℤ k) (b *ℤ k) (neg_ℤ k)
    ∙ ap (λ (z : ℤ). a *ℤ k +ℤ z) (sym (pred_ℤ-*ℤ b k))

times_sum_at : (n : ℕ) (a k : ℤ) → ((a +ℤ pos n) *ℤ k ≡ a *ℤ k +ℤ pos n *ℤ k) × ((a +ℤ negsuc n) *ℤ k ≡ a *ℤ k +ℤ negsuc n *ℤ k)
times_sum_at zero a k =
    let z : (a +ℤ pos zero) *ℤ k ≡ a *ℤ k +ℤ pos zero *ℤ k =
    ap (λ (z : ℤ). z *ℤ k) (+ℤ_idr a) ∙ sym (+ℤ_idr (a *ℤ k)) ∙ ap (λ (z : ℤ). a *ℤ k +ℤ z) (sym (zero-*ℤ k)) in
    (z, down a (pos zero) k z)
times_sum_at (suc n) a k =
    let w = times_sum_at n a k in
    (up a (pos n) k w.0, down a (negsuc n) k w.1)

pub times_sum : (a b k : ℤ) → (a +ℤ b) *ℤ k ≡ a *ℤ k +ℤ b *ℤ k
times_sum a (pos n) k = (times_sum_at n a k).0
times_sum a (negsuc n) k = (times_sum_at n a k).1

-- A PRODUCT ADDED TO A SUM, AS THE MACHINE HOLDS THEM

-- 32 bits held in 64
widened : {z : ℤ} → SFits w32 z → SFits w64 z
widened f = sfits_widen tt f

widened_is : {z : ℤ} → SFits w32 z → to_z w64 (of_z w64 z) ≡ z
widened_is f = to_z-of_z (widened f)

abbrev product : ℤ → ℤ → ℤ
product power e = to_z w64 (of_z w64 power) *ℤ to_z w64 (of_z w64 e)

module _ {power e : ℤ} (f : SFits w32 power) (g : SFits w32 e) (small : nat_abs power ≤ 60) where
  product_is : product power e ≡ power *ℤ e
  product_is = rw (widened_is f, widened_is g)

  product_size : nat_abs (power *ℤ e) ≤ 60 * 2 ^ 31
  product_size = let h : nat_abs e ≤ 2 ^ 31 = omega (arith, abs_mag e, g.sfits) in product_within power e small h

  product_fits : SFits w64 (product power e)
  product_fits = rw product_is (wide_fits (omega (arith, product_size)))

  module _ {sum : ℤ} (h : SFits w64 sum) (room : nat_abs sum ≤ 2 ^ 62) where
    abbrev total : ℤ
    total = to_z w64 (of_z w64 sum) +ℤ to_z w64 (of_z w64 (product power e))

    total_is : total ≡ sum +ℤ power *ℤ e
    total_is = rw (to_z-of_z h, to_z-of_z product_fits, product_is)

    total_size : nat_abs (sum +ℤ power *ℤ e) ≤ nat_abs sum + 2 ^ 37
    total_size = omega (arith, abs_sum sum (power *ℤ e), product_size)

    sum_fits : SFits w64 total
    sum_fits = rw total_is (wide_fits (omega (arith, total_size)))

    sum_held : (to_z w64 (of_z w64 total) ≡ sum +ℤ power *ℤ e) × (nat_abs (to_z w64 (of_z w64 total)) ≤ nat_abs sum + 2 ^ 37)
    sum_held = let q = to_z-of_z sum_fits ∙ total_is in (q, rw q total_size)

    -- the same of numbers that are equal to these
    pub sum_of : {p q : ℤ} → p ≡ power → q ≡ e
        → (to_z w64 (of_z w64 (to_z w64 (of_z w64 sum) +ℤ to_z w64 (of_z w64 (product p q)))) ≡ sum +ℤ power *ℤ e)
        × (nat_abs (to_z w64 (of_z w64 (to_z w64 (of_z w64 sum) +ℤ to_z w64 (of_z w64 (product p q))))) ≤ nat_abs sum + 2 ^ 37)
    sum_of i j = rw (i, j) sum_held
