-- `conversion::prime_powers::raised` meets its contract: each turn of the loop is one of `Raising`.
use native.Mathlib.Omega.{arith}
use Rattle.conversion.proofs.Raising.{raising_past, raising_room, raising_more, raising_done}
use Rattle.conversion.proofs.prime_powers.raised.Goals as goal

pub returns-then-value-gt-LARGEST : goal.returns-then-value-gt-LARGEST
returns-then-value-gt-LARGEST c = search (raising_past, arith)

pub overflow_mul-value : goal.overflow_mul-value
overflow_mul-value c = omega (arith, raising_room c.loop-turn.invariant (omega arith) (omega arith))

pub loop-turn-preserved : goal.loop-turn-preserved
loop-turn-preserved c = raising_more c.loop-turn.invariant (omega arith) (omega arith) (omega arith)

pub returns : goal.returns
returns c = search (raising_done, arith)
