-- `symbols::keys::key` meets its contract: each turn of the loop is one of `KeyLaws`.
use native.Mathlib.Omega.{arith}
use Rattle.symbols.proofs.KeyLaws.{room, keyed_more, keyed_end}
use Rattle.symbols.proofs.keys.key.Goals as goal

pub overflow_mul-number : goal.overflow_mul-number
overflow_mul-number c =
    omega (arith, room c.loop-byte.invariant (omega arith) (omega arith))

pub overflow_add-number : goal.overflow_add-number
overflow_add-number c =
    omega (arith, room c.loop-byte.invariant (omega arith) (omega arith))

pub loop-byte-preserved : goal.loop-byte-preserved
loop-byte-preserved c =
    rw c.from.ensures (keyed_more c.loop-byte.invariant (omega arith) (omega arith))

pub returns : goal.returns
returns c = keyed_end c.loop-byte.invariant c.loop-byte-test.false
