-- `record::buffer::write_record` meets its contract: a buffer shorter than the record, and any other.
use native.Mathlib.Omega.{arith}
use mathlib.Core.Path.{refl, sym, ◌∙◌}
use lib.Seq.{length-take-le}
use Rattle.record.specs.Record.{record_size}
use Rattle.record.proofs.Lending.{front_length, over_short, over_part}
use Rattle.record.proofs.buffer.write_record.Goals as goal

pub slice_bounds-copy-end : goal.slice_bounds-copy-end
slice_bounds-copy-end c =
    sym (front_length c.put_record.new.b c.args.buffer.now (omega (arith, c.put_record.auto.b)))

pub copy-requires : goal.copy-requires
copy-requires c =
    omega (arith, front_length c.put_record.new.b c.args.buffer.now (omega (arith, c.put_record.auto.b)))

pub returns-then-buffer-lt-RECORD_SIZE : goal.returns-then-buffer-lt-RECORD_SIZE
returns-then-buffer-lt-RECORD_SIZE c =
    λ s w.
    rw (← c.put_record.ensures s w) (over_short c.put_record.new.b c.args.buffer.now (omega (arith, c.put_record.auto.b)) c.copy.ensures.bytes)

pub slice_bounds-put_record-end-3 : goal.slice_bounds-put_record-end-3
slice_bounds-put_record-end-3 c = sym (length-take-le record_size c.args.buffer.now (omega arith))

pub put_record-requires-2 : goal.put_record-requires-2
put_record-requires-2 c = (length-take-le record_size c.args.buffer.now (omega arith), c.requires)

pub returns : goal.returns
returns c =
    λ s w.
    let b = c.args.buffer.now in
    rw (← c.put_record-2.ensures s w) (over_part c.put_record-2.new.b b (c.put_record-2.auto.b ∙ length-take-le record_size b (omega arith)) (omega arith) refl)
