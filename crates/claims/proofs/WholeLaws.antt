-- Sixtieths that are ones: the test by the remainder, the number of ones, and that there is one such number.
use Prim.Native.Nat.{ℕ, zero, suc, ◌≤◌, ◌*◌, ◌/◌, ◌%◌}
use native.Mathlib.Omega.{arith}
use native.Mathlib.Nat.{div-add-mod', mul-mod_left}
use mathlib.Core.Path.{◌≡◌, refl, sym, ap, ◌∙◌}
use mathlib.Core.Bool.{true, false}
use lib.Dec.{eqb}
use lib.IntN.{ℤ, pos, negsuc, neg_ℤ, ◌*ℤ◌, nat_abs, pos-ne-negsuc}
use borrow.Author.Tests.{eqb-true, eqb-false}
use Rattle.label.specs.Limits.{parts_of_one}
use Rattle.label.specs.Reading.{exponent}
use Rattle.label.specs.Conversion.{whole_number}
use Rattle.claims.specs.Converting.{Whole}

pub neg_size : (z : ℤ) → nat_abs (neg_ℤ z) ≡ nat_abs z
neg_size (pos zero) = refl
neg_size (pos (suc n)) = refl
neg_size (negsuc n) = refl

ones_size : (w : ℤ) → nat_abs (w *ℤ pos parts_of_one) ≡ nat_abs w * parts_of_one
ones_size (pos n) = refl
ones_size (negsuc n) = neg_size (pos (suc n * parts_of_one))

pub not_whole : (z : ℤ) → eqb (nat_abs z % parts_of_one) 0 ≡ false → (w : ℤ) → Whole z w → ⊥
not_whole z t w h = eqb-false (nat_abs z % parts_of_one) 0 t (
    ap (λ (x : ℤ). nat_abs x % parts_of_one) (sym h.is) ∙ ap (λ (x : ℕ). x % parts_of_one) (ones_size w) ∙ mul-mod_left (nat_abs w) parts_of_one)

pub is_whole : (z : ℤ) → eqb (nat_abs z % parts_of_one) 0 ≡ true → Whole z (whole_number (exponent z))
is_whole (pos n) t = record { is = ap pos (omega (arith, div-add-mod' n parts_of_one, eqb-true (n % parts_of_one) 0 t)) }
is_whole (negsuc n) t = record { is = go (suc n / parts_of_one) (omega (arith, div-add-mod' (suc n) parts_of_one, eqb-true (suc n % parts_of_one) 0 t)) }
  where
    go : (x : ℕ) → x * parts_of_one ≡ suc n → neg_ℤ (pos x) *ℤ pos parts_of_one ≡ negsuc n
    go zero e = absurd (omega arith)
    go (suc x) e = ap (λ (y : ℕ). neg_ℤ (pos y)) e

pub unlike : (a x : ℕ) → 1 ≤ x → pos a ≡ neg_ℤ (pos x) → ⊥
unlike a zero h e = omega arith
unlike a (suc x) h e = pos-ne-negsuc a x e

pub whole_once : {z w x : ℤ} → Whole z w → Whole z x → w ≡ x
whole_once {z} {w} {x} h g = go w x (h.is ∙ sym g.is)
  where
    go : (w x : ℤ) → w *ℤ pos parts_of_one ≡ x *ℤ pos parts_of_one → w ≡ x
    go (pos a) (pos b) e = ap pos (omega (arith, ap nat_abs e))
    go (pos a) (negsuc b) e = absurd (unlike (a * parts_of_one) (suc b * parts_of_one) (omega arith) e)
    go (negsuc a) (pos b) e = absurd (unlike (b * parts_of_one) (suc a * parts_of_one) (omega arith) (sym e))
    go (negsuc a) (negsuc b) e = ap negsuc (omega (arith, sym (ones_size (negsuc a)) ∙ ap nat_abs e ∙ ones_size (negsuc b)))
