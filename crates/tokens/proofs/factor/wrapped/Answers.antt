-- `tokens::factor::wrapped` meets its contract: each way is one of `FactorSteps`.
use Rattle.std.proofs.Common.{arith, rules}
use Rattle.std.proofs.lemmas.Grind.{common_steps}
use Rattle.label.specs.declared.WrittenFactor.TheVariants.{TenTo}
use Rattle.tokens.proofs.FactorSteps.{wrapped_no_integer, wrapped_bracket, wrapped_bare}
use Rattle.tokens.proofs.factor.wrapped.Goals as goal

pub returns-in_err-n : goal.returns-in_err-n
returns-in_err-n c = rw c.from_residual.ensures (wrapped_no_integer c.args.r c.args.s.now c.args.at (grind (arith, common_steps)) (rw c.in_err-n.was at c.integer.ensures))

pub returns-then-r : goal.returns-then-r
returns-then-r c = wrapped_bracket c.args.r c.args.s.now c.args.at (grind (arith, common_steps)) _ (rw c.in_ok-n.was at c.integer.ensures) c.closed.ensures

pub returns : goal.returns
returns c = wrapped_bare c.args.r c.args.s.now c.args.at _ (grind (arith, common_steps)) c.integer-2.ensures (c.integer_as.ensures TenTo (λ x y e. search rules))
