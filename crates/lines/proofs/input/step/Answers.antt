-- `lines::input::step` meets its contract: a chunk without a newline, and one with a newline.
use Rattle.label.specs.Bytes.{newline}
use Rattle.lines.proofs.Lines.{place_found, place_missing}
use Rattle.lines.proofs.Feeding.{step_on, step_ends}
use Rattle.lines.proofs.input.step.Goals as goal

pub returns-in_default : goal.returns-in_default
returns-in_default c =
    step_on c.args.chunk.now c.args.line.now c.keep.new.self c.args.out.now (place_missing newline c.args.chunk.now c.place_of.ensures (search c.in_default.is)) c.keep.ensures

pub returns : goal.returns
returns c =
    step_ends c.args.chunk.now c.args.line.now c.keep-2.new.self (place_found newline c.args.chunk.now c.in-Some.end c.place_of.ensures c.in-Some.is) c.keep-2.ensures c.args.out.now c.put_line-written.new.out c.put_line-written.result
    (rw c.text.ensures at c.put_line-written.ensures)
