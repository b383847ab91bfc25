-- `rewriting::rewrite::rewrite` meets its contract: the result as an answer.
use Rattle.label.specs.Writing.{rewriting_into}
use Rattle.rewriting.proofs.Delivering.{answered}
use Rattle.rewriting.proofs.rewrite.rewrite.Goals as goal

pub returns-clause-answer_is : goal.returns-clause-answer_is
unfolding rewriting_into
returns-clause-answer_is c = rw c.from.ensures (answered _ c.read_and_write.ensures.answers)

pub returns-clause-buffer_after : goal.returns-clause-buffer_after
unfolding rewriting_into
returns-clause-buffer_after c = c.read_and_write.ensures.buffer
