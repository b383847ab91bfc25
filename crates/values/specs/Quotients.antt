-- A power's ratio as the code holds it.
use Rattle.std.specs.Prelude.{◌<◌, ◌≡◌, true, false, Option, Some, None}
use Rattle.label.specs.Limits.{Ratio}
use Rattle.values.specs.Bounds.{numerator_bound}
use Rattle.values.specs.declared.ratios.Quotient.{Quotient}

-- the code holds the ratio of a power whose digit runs are short
abbrev pub ratio_of : Quotient → Ratio
ratio_of q = record { negative = q.negative; numerator = q.numerator; denominator = q.denominator; short = true }

-- the answer is the ratio x, or none where a digit run of x is long
abbrev pub HoldsRatio : Ratio → Option Quotient → Type 0
HoldsRatio x None = x.short ≡ false
HoldsRatio x (Some q) = (ratio_of q ≡ x) × (q.numerator < numerator_bound)
