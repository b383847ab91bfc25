-- `face::conversion_record::write_conversion` meets its contract: as much of the record as fits.
use native.Mathlib.Omega.{arith}
use borrow.Author.Rules.{rules}
use mir.Syntax.{w32}
use mir.Val.{SFits}
use Rattle.face.proofs.ConversionBytes.{record_written}
use Rattle.face.proofs.conversion_record.write_conversion.Goals as goal

pub returns : goal.returns
returns c =
    let tens_fit : SFits w32 c.args.x.k.0 = record { sfits = omega arith } in
    record_written c.args.x c.requires tens_fit c.from.ensures c.put_all.new.b c.put_all.auto.b c.put_all.ensures c.args.buffer.now c.min-size.ensures (search rules)
