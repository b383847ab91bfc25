-- `lines::line::put_result` meets its contract: every result fits.
use native.Mathlib.Omega.{arith}
use Rattle.lines.proofs.Results.{result_put}
use Rattle.lines.proofs.line.put_result.Goals as goal

pub returns : goal.returns
returns c =
    let all = result_put c.args.source c.args.text.now c.args.target c.args.out.now c.rewrite.new.buffer c.rewrite.result (omega arith) c.rewrite.ensures.answer_is c.rewrite.ensures.buffer_after in
    record { number_value = all.0; puts = all.1 }
