-- `typing::state::Typing::read` meets its contract: too many bytes, in a notation or in none, and any other label.
use mathlib.Core.Path.{refl, sym, ap, ◌∙◌}
use mathlib.Core.Bool.{true, false}
use lib.ListN.{take}
use Rattle.label.specs.Reading.{Reading}
use Rattle.record.specs.Record.{buffer_after}
use Rattle.typing.proofs.PartSteps.{read_short, long_answer}
use Rattle.typing.proofs.state.Typing.read.Goals as goal

pub returns-then-is_notation : goal.returns-then-is_notation
returns-then-is_notation c =
    let all = long_answer c.args.self.now c.if-size-gt-MOST_BYTES.true c.args.buffer.now true (sym c.is_notation.ensures ∙ c.if-is_notation.true) in
    record { value = all.0; buffer_after = all.1 }

pub returns-else-is_notation : goal.returns-else-is_notation
returns-else-is_notation c =
    let all = long_answer c.args.self.now c.if-size-gt-MOST_BYTES.true c.args.buffer.now false (sym c.is_notation.ensures ∙ c.if-is_notation.false) in
    record { value = all.0; buffer_after = all.1 }

pub returns : goal.returns
returns c =
    let e = read_short c.args.self.now (take c.args.self.now.count c.args.self.now.room) c.if-size-gt-MOST_BYTES.false refl in
    record { value = c.read_record.ensures.value ∙ ap (λ (r : Reading). r.number) e; buffer_after = c.read_record.ensures.buffer_after ∙ ap (λ (r : Reading). buffer_after r c.args.buffer.now) e }
