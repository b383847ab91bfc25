-- The styles of label/specs/Rows.antt, as the code has them.
use Rattle.std.specs.Prelude.{ℕ, ◌≡◌, [], ◌∷◌}
use Rattle.std.proofs.Math.Option.{some}
use Rattle.label.specs.Bytes.{bytes}
use Rattle.label.specs.Choice.{pick}
use Rattle.label.specs.Rows as spec
use Rattle.notations.specs.declared.rows.Style.{Style}

unfoldable pub style_in : Style → spec.Style
style_in y = record {
  quotes = y.quotes;
  joint = y.joint ∷ [];
  raise = pick y.stars (bytes "**") (bytes "");
  wrapped = y.wrapped;
  fractions = y.fractions;
  factors = y.factors;
  ten = pick y.factors (pick y.ten_stars (bytes "10**") (bytes "10")) (bytes "");
  signed = y.signed;
  gap = pick y.gap (bytes " ") (bytes "");
}

-- the style of notation n
pub record StyleOf (n : ℕ) (y : Style) : Type 0 where
  pub is : spec.style_of n ≡ some (style_in y)
  pub number : y.notation ≡ n

-- b is the byte that joins units in notation n
pub record JointOf (n b : ℕ) : Type 0 where
  pub is : (y : spec.Style) → spec.style_of n ≡ some y → y.joint ≡ b ∷ []
