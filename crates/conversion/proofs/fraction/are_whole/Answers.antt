-- `conversion::fraction::are_whole` meets its contract.
use native.Mathlib.Omega.{arith}
use Rattle.std.proofs.lemmas.Grind.{common_steps}
use Rattle.conversion.proofs.Fractions.{all_whole_bits}
use Rattle.conversion.proofs.fraction.are_whole.Goals as goal

pub returns-then-is_whole-3 : goal.returns-then-is_whole-3
returns-then-is_whole-3 c = grind (arith, common_steps, all_whole_bits c.args.r c.requires)

pub returns-else-is_whole-3 : goal.returns-else-is_whole-3
returns-else-is_whole-3 c = grind (arith, common_steps, all_whole_bits c.args.r c.requires)
