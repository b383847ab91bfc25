-- `tokens::power::power_after` meets its contract: each way is one of `PowerSteps`.
use Rattle.std.proofs.Common.{arith, rules}
use Rattle.std.proofs.lemmas.Grind.{common_steps}
use Rattle.label.specs.declared.WrittenPower.TheVariants.{Whole}
use Rattle.tokens.proofs.PowerSteps.{after₁, after₂, after₃, after₄, after₅}
use Rattle.tokens.proofs.power.power_after.Goals as goal

pub returns-then-r : goal.returns-then-r
returns-then-r c = after₁ c.args.r c.args.s.now c.args.at _ (grind (arith, common_steps)) c.integer.ensures (c.integer_as.ensures Whole (λ x y e. search rules))

pub returns-then-r-2 : goal.returns-then-r-2
returns-then-r-2 c = after₂ c.args.r c.args.s.now c.args.at (grind (arith, common_steps)) _ (grind (arith, common_steps)) c.bracketed.ensures

pub returns-then-r-3 : goal.returns-then-r-3
returns-then-r-3 c = after₃ c.args.r c.args.s.now c.args.at (grind (arith, common_steps)) (grind (arith, common_steps)) _ (grind (arith, common_steps)) c.power.ensures

pub returns-then-r-4 : goal.returns-then-r-4
returns-then-r-4 c = after₄ c.args.r c.args.s.now c.args.at (grind (arith, common_steps)) (grind (arith, common_steps)) (grind (arith, common_steps)) _ (grind (arith, common_steps)) c.starred.ensures

pub returns : goal.returns
returns c = after₅ c.args.r c.args.s.now c.args.at (grind (arith, common_steps)) (grind (arith, common_steps)) (grind (arith, common_steps)) c.requires (grind (arith, common_steps))
