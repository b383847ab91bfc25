-- `reading::read::read` meets its contract: each way is one of `Answering`.
use Rattle.reading.proofs.Answering.{accepted₁, read_refused, read_accepted}
use Rattle.std.proofs.lemmas.Result.{err_from_is_err_and}
use Rattle.reading.proofs.read.read.Goals as goal

pub returns-in_err-k : goal.returns-in_err-k
returns-in_err-k c =
    let p = err_from_is_err_and c.from_residual.result c.from_residual.ensures.1 in
    rw (p.1, p.2) (read_refused c.in_err-k.ensures)

pub returns : goal.returns
returns c = read_accepted c.in_ok-k.ensures (accepted₁ c.all_named.ensures c.verdicts_on-verdicts.ensures c.add_up.ensures)
