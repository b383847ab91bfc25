use native.Mathlib.Omega.{arith}
use mathlib.Core.Option.{some}
use mathlib.Core.Path.{ap, ◌∙◌}
use lib.IntN.{ℤ}
use Rattle.label.specs.declared.Tens.{Tens}
use Rattle.symbols.proofs.UnitLaws.{byte_held, held, tens_at, tens_small}
use Rattle.symbols.proofs.properties.prefix_power.Goals as goal

pub returns-in-Some : goal.returns-in-Some
returns-in-Some c =
    rw c.in-Some.is
    (ap {B = Tens} (λ (z : ℤ). record { 0 = z }) (held _ _ (c.from.ensures ∙ byte_held c.prefix_tens.type_inv ∙ c.prefix_tens.ensures ∙ tens_at c.in-Some.place)
    (omega (arith, tens_small (some c.in-Some.place)))))
