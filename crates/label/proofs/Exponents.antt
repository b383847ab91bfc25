-- What an exponent that a ratio has says of the ratio: it keeps every bound.
use Prim.Native.Nat.{◌*◌, ◌%◌, ◌≤◌}
use native.Mathlib.Omega.{arith}
use native.Mathlib.Nat.{div-add-mod'}
use mathlib.Core.Path.{◌≡◌, refl, ap}
use mathlib.Core.Bool.{Bool, true, false}
use mathlib.Core.Option.{none, some}
use lib.Dec.{leb}
use borrow.Author.Tests.{eqb-true, leb-true}
use Rattle.label.specs.declared.Exponent.{Exponent}
use Rattle.label.specs.Choice.{pick}
use Rattle.label.specs.Limits.{parts_of_one, most_sixtieths, signed, exclusive_or, Ratio, in_sixtieths, sixtieths, bounded, exponent_in}
use Rattle.label.proofs.Basics.{none_some, and_left, and_right}

pub whole_sixtieths : (q : Ratio) → in_sixtieths q ≡ true → sixtieths q * q.denominator ≡ parts_of_one * q.numerator
whole_sixtieths q e = omega (arith, div-add-mod' (parts_of_one * q.numerator) q.denominator, eqb-true (parts_of_one * q.numerator % q.denominator) 0 e)

pub record ExponentKept (turned : Bool) (q : Ratio) (e : Exponent) : Type 0 where
  pub is : signed (exclusive_or turned q.negative) (sixtieths q) ≡ e.0
  pub short : q.short ≡ true
  pub not_zero : 1 ≤ q.numerator
  pub whole : in_sixtieths q ≡ true
  pub small : sixtieths q ≤ most_sixtieths

pub exponent_kept : (turned : Bool) (q : Ratio) (e : Exponent) → exponent_in turned q ≡ some e → ExponentKept turned q e
unfolding exponent_in
exponent_kept turned q e h = go (bounded q) refl h
  where
    go : (b : Bool) → bounded q ≡ b → pick b (some (record { 0 = signed (exclusive_or turned q.negative) (sixtieths q) })) none ≡ some e → ExponentKept turned q e
    go false p h = absurd (none_some h)
    go true p h =
        let y : record { 0 = signed (exclusive_or turned q.negative) (sixtieths q) } ≡ e = cc in
        let a = and_right q.short _ p in
        let b = and_right (leb 1 q.numerator) _ a in
        record {
          is = ap (λ (x : Exponent). x.0) y;
          short = and_left q.short _ p;
          not_zero = leb-true 1 q.numerator (and_left (leb 1 q.numerator) _ a);
          whole = and_left (in_sixtieths q) _ b;
          small = leb-true (sixtieths q) most_sixtieths (and_right (in_sixtieths q) _ b);
        }
