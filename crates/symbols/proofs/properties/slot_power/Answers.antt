use native.Mathlib.Omega.{arith}
use mathlib.Core.Path.{◌∙◌}
use Rattle.symbols.specs.Views.{symbol_in}
use Rattle.symbols.proofs.UnitLaws.{byte_held, held, slot_small}
use Rattle.symbols.proofs.PropertyLaws.{power_in_row}
use Rattle.symbols.proofs.properties.slot_power.Goals as goal

pub returns : goal.returns
returns c =
    λ s.
    held _ _ (c.from.ensures ∙ byte_held c.unit_power.type_inv ∙ c.unit_power.ensures ∙ rw c.row.ensures.value (power_in_row s c.args.x _ c.requires))
    (omega (arith, slot_small c.args.slot c.requires (symbol_in s c.args.x)))
