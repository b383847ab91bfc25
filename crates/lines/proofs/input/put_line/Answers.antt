-- `lines::input::put_line` meets its contract: a newline follows the answer.
use native.Mathlib.Omega.{arith}
use Rattle.lines.proofs.Keeping.{line_put}
use Rattle.lines.proofs.input.put_line.Goals as goal

pub bounds-out-size : goal.bounds-out-size
bounds-out-size c = omega (arith, c.answer_line-size.ensures.short, c.answer_line-size.auto.out)

pub overflow_add-result : goal.overflow_add-result
overflow_add-result c = omega (arith, c.answer_line-size.ensures.short)

pub returns : goal.returns
returns c =
    line_put c.args.line.now c.args.out.now c.answer_line-size.new.out c.answer_line-size.result (omega arith) c.answer_line-size.ensures
