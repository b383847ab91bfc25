-- Every answer of a conversion keeps the limits: a law that other code may cite by itself.
use Prim.Native.Nat.{ℕ, ◌^◌}
use native.Mathlib.Omega.{arith}
use mathlib.Core.Path.{◌≡◌, refl}
use mathlib.Core.Bool.{Bool, true, false, ◌&&◌}
use lib.Dec.{leb, eqb}
use lib.IntN.{nat_abs}
use borrow.Author.Tests.{leb-true}
use Rattle.label.specs.Reading.{Reading, reading}
use Rattle.label.specs.Conversion.{Conversion, refuse_conversion, unless, both_known, same_exponents, over, all_whole, fraction_of, small, bounded, converted, conversion}
use Rattle.label.proofs.Basics.{and_left, and_right}
use Rattle.claims.specs.Converting.{Limits, WithinLimits}

refused_within : (i : ℕ) → Limits (refuse_conversion i)
refused_within i = record { numerator = omega arith; denominator = omega arith; k = omega arith }

unless_within : (b : Bool) (i : ℕ) (x : Conversion) → Limits x → Limits (unless b i x)
unfolding unless
unless_within true i x h = h
unless_within false i x h = refused_within i

bounded_within : (x : Conversion) → Limits (bounded x)
unfolding bounded unless
bounded_within x = go (small x) refl
  where
    go : (b : Bool) → small x ≡ b → Limits (unless b 11 x)
    go true e =
        let a = leb x.numerator (2 ^ 53) in
        let b = leb x.denominator (2 ^ 53) in
        let c = leb (nat_abs x.k.0) 9_999 in
        record {
          numerator = leb-true x.numerator (2 ^ 53) (and_left a (b && c) e);
          denominator = leb-true x.denominator (2 ^ 53) (and_left b c (and_right a (b && c) e));
          k = leb-true (nat_abs x.k.0) 9_999 (and_right b c (and_right a (b && c) e));
        }
    go false e = refused_within 11

converted_within : (a b : Reading) → Limits (converted a b)
unfolding converted
converted_within a b =
    unless_within (both_known a b) 8 _
    (unless_within (same_exponents a.dimensions b.dimensions) 9 _
    (unless_within (all_whole (over a.scale b.scale)) 10 _ (bounded_within (fraction_of (over a.scale b.scale)))))

pub within_limits : WithinLimits
unfolding conversion
within_limits n s m t =
    unless_within (eqb (reading n s).number 0) (reading n s).number _
    (unless_within (eqb (reading m t).number 0) (reading m t).number _ (converted_within (reading n s) (reading m t)))
