-- Signed numbers of 64 bits as the machine holds them: differences, and numbers small enough for 32 bits.
use Prim.Native.Nat.{◌+◌, ◌≤◌, ◌<◌, ◌^◌}
use native.Mathlib.Omega.{arith}
use mathlib.Core.Path.{◌≡◌, refl}
use lib.IntN.{ℤ, pos, negsuc, neg_ℤ, nat_abs, ◌-ℤ◌}
use mir.Syntax.{w32, w64}
use mir.Val.{SFits, to_z, of_z}
use mir.Facts.{to_z-of_z}
use Rattle.content.proofs.Integers.{abs_sum, abs_neg, mag_abs, wide_fits}

neg_size : (z : ℤ) → nat_abs (neg_ℤ z) ≡ nat_abs z
neg_size (pos n) = abs_neg n
neg_size (negsuc n) = refl

-- a small number is identified by its bits
pub bits : (z : ℤ) → nat_abs z < 2 ^ 31 → to_z w64 (of_z w64 z) ≡ z
bits z h = to_z-of_z (wide_fits (omega arith))

pub narrow_bits : (z : ℤ) → nat_abs z < 2 ^ 31 → to_z w32 (of_z w32 (to_z w64 (of_z w64 z))) ≡ z
narrow_bits z h = let f : SFits w32 z = record { sfits = omega (arith, mag_abs z) } in rw (bits z h) (to_z-of_z f)

pub minus_size : (a b : ℤ) → nat_abs (a -ℤ b) ≤ nat_abs a + nat_abs b
minus_size a b = omega (arith, abs_sum a (neg_ℤ b), neg_size b)

pub minus_fits : (a b : ℤ) → nat_abs a + nat_abs b < 2 ^ 63 → SFits w64 (a -ℤ b)
minus_fits a b h = wide_fits (omega (arith, minus_size a b))
