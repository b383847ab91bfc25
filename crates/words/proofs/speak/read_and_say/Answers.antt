-- `words::speak::read_and_say` meets its contract: a refusal of the label, or its words.
use Rattle.std.proofs.lemmas.Result.{err_from_is_err_and}
use Rattle.rewriting.proofs.Delivering.{refused, delivers_as, terms_are}
use Rattle.words.proofs.SpeakLaws.{label_refused, label_spoken, label_short}
use Rattle.words.proofs.speak.read_and_say.Goals as goal

pub returns-in_err-answer : goal.returns-in_err-answer
returns-in_err-answer c =
    let p = err_from_is_err_and c.from_residual.result c.from_residual.ensures.1 in
    rw (p.1, p.2) (refused _ (label_refused _ _ _ c.in_err-answer.ensures))

pub say_into-requires-clause-terms : goal.say_into-requires-clause-terms
say_into-requires-clause-terms c = terms_are c.in_ok-answer.ensures

pub say_into-requires-clause-short : goal.say_into-requires-clause-short
say_into-requires-clause-short c = label_short c.in_ok-answer.ensures

pub returns : goal.returns
returns c = delivers_as (label_spoken c.in_ok-answer.ensures) c.say_into.ensures
