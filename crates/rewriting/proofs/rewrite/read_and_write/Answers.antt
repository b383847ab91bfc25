-- `rewriting::rewrite::read_and_write` meets its contract: a refusal of the source, or what is written.
use Rattle.std.proofs.lemmas.Result.{err_from_is_err_and}
use Rattle.rewriting.proofs.Delivering.{refused, delivers_as, source_refused, terms_are, source_read}
use Rattle.rewriting.proofs.rewrite.read_and_write.Goals as goal

pub returns-in_err-answer : goal.returns-in_err-answer
returns-in_err-answer c =
    let p = err_from_is_err_and c.from_residual.result c.from_residual.ensures.1 in
    rw (p.1, p.2) (refused _ (source_refused _ _ _ _ c.in_err-answer.ensures))

pub write-requires : goal.write-requires
write-requires c = terms_are c.in_ok-answer.ensures

pub returns : goal.returns
returns c = delivers_as (source_read c.in_ok-answer.ensures _) c.write.ensures
