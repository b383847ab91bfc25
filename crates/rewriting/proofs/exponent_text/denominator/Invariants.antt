use mathlib.Core.Path.{◌≡◌}
use lib.ListN.{drop}
use Rattle.label.specs.Limits.{denominator_among, divisors}
use Rattle.rewriting.proofs.exponent_text.denominator.Given as goal

-- the divisors before this one were tried
abbrev pub invariant-loop-d : goal.invariant-loop-d
invariant-loop-d l = denominator_among l.sixtieths divisors ≡ denominator_among l.sixtieths (drop l.d-index divisors)
