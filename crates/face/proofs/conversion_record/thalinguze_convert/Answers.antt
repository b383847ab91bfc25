-- `face::conversion_record::thalinguze_convert` meets its contract: an accepted conversion, and a refusal.
use Rattle.claims.proofs.ConversionLimits.{within_limits}
use Rattle.face.proofs.ConversionBytes.{refused, fits, accepted}
use Rattle.face.proofs.conversion_record.thalinguze_convert.Goals as goal

pub write_conversion-requires : goal.write_conversion-requires
write_conversion-requires c =
    fits c.in-Ok.x c.in-Ok.ensures (within_limits c.args.first c.args.first_label.now c.args.second c.args.second_label.now)

pub returns-in-Ok-clause-buffer_after : goal.returns-in-Ok-clause-buffer_after
returns-in-Ok-clause-buffer_after c = accepted c.in-Ok.x c.in-Ok.ensures c.args.buffer.now c.write_conversion.ensures

pub returns-in-Err-clause-buffer_after : goal.returns-in-Err-clause-buffer_after
returns-in-Err-clause-buffer_after c = refused c.in-Err.e c.in-Err.ensures c.args.buffer.now
