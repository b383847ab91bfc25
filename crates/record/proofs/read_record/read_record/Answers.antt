-- `record::read_record::read_record` meets its contract: an accepted reading, and a refusal.
use mathlib.Core.Path.{sym}
use Rattle.std.proofs.lemmas.Result.{err_from_is_err_and}
use Rattle.reading.proofs.Answering.{accepted_number}
use Rattle.record.proofs.Answering.{refused, recordable, accepted}
use Rattle.record.proofs.read_record.read_record.Goals as goal

pub returns-in_err-a-clause-value : goal.returns-in_err-a-clause-value
returns-in_err-a-clause-value c =
    let p = err_from_is_err_and c.from_residual.result c.from_residual.ensures.1 in
    rw (p.1, p.2) c.in_err-a.ensures

pub returns-in_err-a-clause-buffer_after : goal.returns-in_err-a-clause-buffer_after
returns-in_err-a-clause-buffer_after c =
    refused c.args.notation c.args.label.now _ c.args.buffer.now c.in_err-a.ensures

pub write_record-requires : goal.write_record-requires
write_record-requires c = recordable c.in_ok-a.ensures

pub returns-clause-value : goal.returns-clause-value
returns-clause-value c = sym (accepted_number c.in_ok-a.ensures)

pub returns-clause-buffer_after : goal.returns-clause-buffer_after
returns-clause-buffer_after c = accepted c.in_ok-a.ensures c.args.buffer.now c.write_record.ensures
