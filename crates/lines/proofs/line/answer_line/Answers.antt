-- `lines::line::answer_line` meets its contract: a malformed line. The check finds the others.
use native.Mathlib.Omega.{arith}
use mathlib.Core.Path.{◌≡◌, ap, ◌∙◌}
use Rattle.label.specs.Refusals.{number_of}
use Rattle.lines.proofs.Lines.{answer_refused}
use Rattle.lines.proofs.line.answer_line.Goals as goal

pub returns-in-Err : goal.returns-in-Err
returns-in-Err c =
    let e : c.from.result ≡ 15 = c.from.ensures ∙ c.number.ensures ∙ ap number_of c.in-Err.ensures.err.0 in
    answer_refused c.args.line.now c.args.out.now (omega arith) c.in-Err.ensures.err.1 (rw e at c.put_number.ensures)
