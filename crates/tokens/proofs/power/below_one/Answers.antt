-- `tokens::power::below_one` meets its contract: each way is one of `PowerSteps`.
use native.Mathlib.Omega.{arith}
use Rattle.label.specs.Bytes.{digit_zero}
use Rattle.tokens.proofs.Readers.{byte_found, byte_is, byte_not}
use Rattle.tokens.proofs.PowerSteps.{below_one_no_zero, below_one_zero}
use Rattle.tokens.proofs.power.below_one.Goals as goal

pub returns-then-byte_at-ne48 : goal.returns-then-byte_at-ne48
returns-then-byte_at-ne48 c = below_one_no_zero c.args.s.now c.args.negative c.args.at (byte_not c.byte_at.ensures c.if-byte_at-ne48.true)

pub returns : goal.returns
returns c =
    let zero = byte_is c.byte_at.ensures c.if-byte_at-ne48.false in
    below_one_zero c.args.s.now c.args.negative c.args.at _ (byte_found c.args.s.now c.args.at digit_zero (omega arith) zero) zero c.pointed.ensures
