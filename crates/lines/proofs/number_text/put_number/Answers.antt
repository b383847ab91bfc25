-- `lines::number_text::put_number` meets its contract: one digit or two.
use native.Mathlib.Omega.{arith}
use Rattle.lines.proofs.Putting.{one_digit, two_digits}
use Rattle.lines.proofs.number_text.put_number.Goals as goal

pub returns-then-number-lt10 : goal.returns-then-number-lt10
returns-then-number-lt10 c = rw c.copy.ensures.size (one_digit c.args.number c.args.out.now (omega arith) c.copy.ensures.bytes)

pub returns : goal.returns
returns c = rw c.copy-2.ensures.size (two_digits c.args.number c.args.out.now (omega arith) c.copy-2.ensures.bytes)
