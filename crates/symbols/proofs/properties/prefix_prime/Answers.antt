use native.Mathlib.Omega.{arith}
use mathlib.Core.Path.{ap, ◌∙◌}
use Rattle.label.specs.declared.Tens.{Tens}
use Rattle.label.specs.Options.{told}
use Rattle.label.specs.Prefixes.{power_of}
use Rattle.symbols.proofs.UnitLaws.{held, odd_prime, even_prime, in_tens_small}
use Rattle.symbols.proofs.properties.prefix_prime.Goals as goal

pub returns-then-prime-eq1 : goal.returns-then-prime-eq1
returns-then-prime-eq1 c = odd_prime _ c.requires c.if-prime-eq1.true _

pub returns : goal.returns
returns c =
    held _ _ (ap (λ (t : Tens). t.0) c.prefix_power.ensures
    ∙ even_prime c.args.prime c.requires c.if-prime-eq1.false (power_of (told c.args.prefix)))
    (omega (arith, in_tens_small c.args.prime (told c.args.prefix)))
