-- `rewriting::exponent_text::denominator` meets its contract: the divisors of 60 are tried in turn.
use mathlib.Core.Path.{◌∙◌, refl}
use Rattle.rewriting.proofs.NumberLaws.{divides, divides_not, no_divisor, found}
use Rattle.rewriting.proofs.exponent_text.denominator.Goals as goal

pub returns-then-sixtieths-d-eq0 : goal.returns-then-sixtieths-d-eq0
returns-then-sixtieths-d-eq0 c =
    found _ _ (c.loop-d.invariant ∙ divides _ _ _ 0 c.loop-d-test.true refl c.if-sixtieths-d-eq0.true)

pub loop-d-preserved : goal.loop-d-preserved
loop-d-preserved c =
    c.loop-d.invariant ∙ divides_not _ _ _ 0 c.loop-d-test.true refl c.if-sixtieths-d-eq0.false

pub returns : goal.returns
returns c = found _ _ (c.loop-d.invariant ∙ no_divisor _ _ c.loop-d-test.false)
