-- `words::speak::speak` meets its contract: the result as an answer.
use Rattle.label.specs.Words.{speaking_into}
use Rattle.rewriting.proofs.Delivering.{answered}
use Rattle.words.proofs.speak.speak.Goals as goal

pub returns-clause-answer_is : goal.returns-clause-answer_is
unfolding speaking_into
returns-clause-answer_is c = rw c.from.ensures (answered _ c.read_and_say.ensures.answers)

pub returns-clause-buffer_after : goal.returns-clause-buffer_after
unfolding speaking_into
returns-clause-buffer_after c = c.read_and_say.ensures.buffer
