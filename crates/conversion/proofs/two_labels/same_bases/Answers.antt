-- `conversion::two_labels::same_bases` meets its contract: equal lists have the same exponents.
use mathlib.Core.Path.{◌∙◌}
use Rattle.conversion.proofs.Summing.{exponents_compared}
use Rattle.conversion.proofs.two_labels.same_bases.Goals as goal

pub returns : goal.returns
returns c = c.eq.ensures ∙ exponents_compared _ _
