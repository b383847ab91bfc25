-- `tokens::factor::factor_at` meets its contract: each way is one of `FactorSteps`.
use Rattle.tokens.proofs.FactorSteps.{factor₁, factor₂}
use Rattle.tokens.proofs.factor.factor_at.Goals as goal

pub returns-then-is_ten : goal.returns-then-is_ten
returns-then-is_ten c = factor₁ _ c.digits-end.ensures c.is_ten.ensures _ c.if-is_ten.true c.ten_factor.ensures

pub returns : goal.returns
returns c = factor₂ _ c.digits-end.ensures c.is_ten.ensures _ c.if-is_ten.false c.plain_factor.ensures
