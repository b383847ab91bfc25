-- `tokens::factor::ten_factor` meets its contract: each way is one of `FactorSteps`.
use Rattle.std.proofs.Common.{arith, rules}
use Rattle.std.proofs.lemmas.Grind.{common_steps}
use Rattle.label.specs.Ranges.{between}
use Rattle.label.specs.declared.WrittenFactor.TheVariants.{TenTo}
use Rattle.tokens.proofs.Readers.{byte_is, byte_not}
use Rattle.tokens.proofs.FactorSteps.{ten₁, ten₂, ten₃, ten₄}
use Rattle.tokens.proofs.factor.ten_factor.Goals as goal

pub returns-then-r : goal.returns-then-r
returns-then-r c = ten₁ c.args.r c.args.s.now (between c.args.s.now c.args.start c.args.end) c.args.end _ (grind (arith, common_steps)) c.integer.ensures (c.integer_as.ensures TenTo (λ x y e. search rules))

pub returns-then-r-2 : goal.returns-then-r-2
returns-then-r-2 c = ten₂ c.args.r c.args.s.now (between c.args.s.now c.args.start c.args.end) c.args.end (grind (arith, common_steps)) _ (grind (arith, common_steps)) c.wrapped.ensures

pub returns-then-c-eq42 : goal.returns-then-c-eq42
returns-then-c-eq42 c = ten₃ c.args.r c.args.s.now (between c.args.s.now c.args.start c.args.end) c.args.end (grind (arith, common_steps)) (grind (arith, common_steps)) _ (byte_is c.byte_at-c.ensures c.if-c-eq42.true) c.starred_factor.ensures

pub returns : goal.returns
returns c = ten₄ c.args.r c.args.s.now (between c.args.s.now c.args.start c.args.end) c.args.end (grind (arith, common_steps)) (grind (arith, common_steps)) _ (byte_not c.byte_at-c.ensures c.if-c-eq42.false) c.plain_factor.ensures
