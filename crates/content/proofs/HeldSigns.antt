-- Signed numbers as the machine holds them in w bits: negative ones and others.
use Prim.Native.Nat.{ℕ, suc, ◌-◌, ◌≤◌, ◌<◌, ◌^◌}
use native.Mathlib.Omega.{arith}
use mathlib.Core.Path.{◌≡◌, refl, sym, ap, ◌∙◌}
use mathlib.Core.Bool.{true, false}
use lib.Dec.{T, ltb}
use borrow.Author.Tests.{ltb-true, le-ltb}
use lib.IntN.{ℤ, pos, negsuc, nat_abs, ◌-ℤ◌}
use lib.Signed.{lt_z, non_neg}
use mir.Syntax.{Width, w64}
use mir.Val.{Fits, SFits, hbits, to_z, of_z}
use mir.Facts.{to_z-of_z}
use Rattle.label.proofs.Basics.{false_true}

-- NEGATIVE NUMBERS

pub record Negative (w : Width) (v : ℤ) : Type 0 where
  pub n : ℕ
  pub is : v ≡ negsuc n
  pub small : n < 2 ^ hbits w

negative_of : {w : Width} (v : ℤ) → SFits w v → lt_z v (pos 0) ≡ true → Negative w v
negative_of (pos n) f t = absurd (omega (arith, ltb-true n 0 t))
negative_of (negsuc n) f t = record { n = n; is = refl; small = f.sfits }

from_minus_one : (n : ℕ) → negsuc 0 -ℤ negsuc n ≡ pos n
from_minus_one n =
    let e : ltb (suc n) 1 ≡ false = le-ltb (suc n) 1 (omega arith) in
    let q : suc n - 1 ≡ n = omega arith in
    rw (e, q)

module _ {w : Width} {v : ℤ} (f : SFits w v) (t : lt_z (to_z w (of_z w v)) (pos 0) ≡ true) where
  abbrev rest : ℤ
  rest = negsuc 0 -ℤ to_z w (of_z w v)

  pub negative : Negative w v
  negative = negative_of v f (rw (← to_z-of_z f) t)

  rest_is : rest ≡ pos negative.n
  rest_is = ap (λ (z : ℤ). negsuc 0 -ℤ z) (to_z-of_z f ∙ negative.is) ∙ from_minus_one negative.n

  pub rest_fits : SFits w rest
  rest_fits = rw rest_is (record { sfits = negative.small })

  pub held_rest : to_z w (of_z w rest) ≡ pos negative.n
  held_rest = to_z-of_z rest_fits ∙ rest_is

  pub rest_cast : 2 ^ hbits w ≤ 2 ^ 63 → T (non_neg (to_z w (of_z w rest))) × Fits w64 (nat_abs (to_z w (of_z w rest)))
  rest_cast h = rw held_rest (tt, record { fits = omega (arith, negative.small) })

-- OTHER NUMBERS

pub record Natural (w : Width) (v : ℤ) : Type 0 where
  pub n : ℕ
  pub is : v ≡ pos n
  pub small : n < 2 ^ hbits w

natural_of : {w : Width} (v : ℤ) → SFits w v → lt_z v (pos 0) ≡ false → Natural w v
natural_of (pos n) f t = record { n = n; is = refl; small = f.sfits }
natural_of (negsuc n) f t = absurd (false_true (sym t))

module _ {w : Width} {v : ℤ} (f : SFits w v) (t : lt_z (to_z w (of_z w v)) (pos 0) ≡ false) where
  pub natural : Natural w v
  natural = natural_of v f (rw (← to_z-of_z f) t)

  pub held : to_z w (of_z w v) ≡ pos natural.n
  held = to_z-of_z f ∙ natural.is

  pub natural_cast : 2 ^ hbits w ≤ 2 ^ 63 → T (non_neg (to_z w (of_z w v))) × Fits w64 (nat_abs (to_z w (of_z w v)))
  natural_cast h = rw held (tt, record { fits = omega (arith, natural.small) })
