use mathlib.Core.Path.{◌∙◌}
use Rattle.symbols.proofs.PropertyLaws.{sum_fits, sum_is}
use Rattle.symbols.proofs.UnitLaws.{byte_held}
use Rattle.symbols.proofs.properties.prime_power.Goals as goal

pub overflow_add-result : goal.overflow_add-result
overflow_add-result c =
    sum_fits c.args.x _ c.requires c.prefix_prime-tens.ensures (c.from-size.ensures ∙ byte_held c.unit_prime.type_inv ∙ rw c.row.ensures.value at c.unit_prime.ensures)

pub returns : goal.returns
returns c =
    sum_is c.args.x _ c.requires c.prefix_prime-tens.ensures (c.from-size.ensures ∙ byte_held c.unit_prime.type_inv ∙ rw c.row.ensures.value at c.unit_prime.ensures)
