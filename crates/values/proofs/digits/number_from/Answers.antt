-- `values::digits::number_from` meets its contract. The invariant says what the digits passed have brought.
use Rattle.values.proofs.Numbers.{passed_more}
use Rattle.values.proofs.digits.number_from.Goals as goal

pub loop-c-preserved : goal.loop-c-preserved
loop-c-preserved c =
    passed_more c.loop-c.invariant _ c.loop-c-test.true c.digit_value.ensures.0 c.digit_value.ensures.1
