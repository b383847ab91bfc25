-- Exponents and factors as they are written.
use Prim.Native.Nat.{ℕ, ◌*◌, ◌/◌}
use mathlib.Core.Path.{◌≡◌, sym, ◌∙◌}
use mathlib.Core.Bool.{Bool, true, false}
use mathlib.Core.List.{[], ◌++◌}
use mathlib.Core.Option.{none, some}
use lib.Dec.{eqb}
use lib.IntN.{ℤ, pos, nat_abs}
use borrow.Author.Tests.{eq-eqb, ne_eqb}
use Rattle.label.proofs.Figures.{size_signed}
use Rattle.label.specs.declared.Tens.{Tens}
use Rattle.label.specs.Bytes.{bytes}
use Rattle.label.specs.Choice.{pick}
use Rattle.label.specs.Limits.{negative, denominator_of, lowest_terms}
use Rattle.label.specs.Reading.{exponent}
use Rattle.label.specs.Writing.{sign_text, figures, factor_text, whole_text, fraction_text, power_text, exponent_text}
use Rattle.label.specs.Rows.{Style}
use Rattle.notations.specs.declared.rows.Style as rows
use Rattle.notations.specs.Styles.{style_in}

module _ (y : Style) (b : Bool) (p q : ℕ) where
  pub power_fraction : (q ≡ 1 → ⊥) → y.fractions ≡ true → power_text y b p q ≡ some (fraction_text y b p q)
  unfolding power_text
  power_fraction h f = rw (ne_eqb q 1 h, f)

  pub power_none : (q ≡ 1 → ⊥) → y.fractions ≡ false → power_text y b p q ≡ none
  unfolding power_text
  power_none h f = rw (ne_eqb q 1 h, f)

  pub power_one : q ≡ 1 → pick b false (eqb p 1) ≡ true → power_text y b p q ≡ some []
  unfolding power_text
  power_one h f = rw (eq-eqb q 1 h, f)

  pub power_whole : q ≡ 1 → pick b false (eqb p 1) ≡ false → power_text y b p q ≡ some (whole_text y b p)
  unfolding power_text
  power_whole h f = rw (eq-eqb q 1 h, f)

-- an exponent is the power in lowest terms
pub exponent_power : (y : Style) (z : ℤ) {n d : ℕ} {b : Bool} → n ≡ nat_abs z → d ≡ denominator_of (pos n) → b ≡ negative z
    → exponent_text y (exponent z) ≡ power_text y b (n * d / 60) d
unfolding exponent_text lowest_terms denominator_of
exponent_power y z e f g = rw (g, f, e, size_signed (negative z) _)

module _ (y : rows.Style) (k : Tens) {n : ℕ} (e : n ≡ nat_abs k.0) where
  pub factor_omitted : n ≡ 0 → factor_text (style_in y) k ≡ some []
  unfolding factor_text
  factor_omitted z = rw (eq-eqb (nat_abs k.0) 0 (sym e ∙ z))

  pub factor_none : (n ≡ 0 → ⊥) → y.factors ≡ false → factor_text (style_in y) k ≡ none
  unfolding factor_text style_in
  factor_none z f = rw (ne_eqb (nat_abs k.0) 0 (λ q. z (e ∙ q)), f)

  pub factor_some : (n ≡ 0 → ⊥) → y.factors ≡ true → {b : Bool} → b ≡ negative k.0
      → factor_text (style_in y) k ≡ some ((pick y.ten_stars (bytes "10**") (bytes "10") ++ (sign_text y.signed b ++ figures n)) ++ pick y.gap (bytes " ") (bytes ""))
  unfolding factor_text style_in
  factor_some z t f = rw (ne_eqb (nat_abs k.0) 0 (λ q. z (e ∙ q)), t, f, e)
