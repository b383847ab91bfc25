-- `typing::state::Typing::end_label` meets its contract: after the end, and before it.
use mathlib.Core.Path.{sym, ◌∙◌}
use Rattle.typing.proofs.PartSteps.{ended_again, ended_first}
use Rattle.typing.proofs.state.Typing.end_label.Goals as goal

pub returns-then-has_ended : goal.returns-then-has_ended
returns-then-has_ended c =
    let all = ended_again c.args.self c.args.buffer.now (sym c.has_ended.ensures ∙ c.if-has_ended.true) in
    record { number_value = c.number_of_answer.ensures ∙ all.0; state_value = all.1.0; buffer_after = all.1.1 }

pub returns : goal.returns
returns c =
    let all = ended_first c.args.self c.args.buffer.now (sym c.has_ended.ensures ∙ c.if-has_ended.false) (c.number_of_answer-number.ensures ∙ c.read.ensures.value) c.read.ensures.buffer_after in
    record { number_value = all.0; state_value = all.1.0; buffer_after = all.1.1 }
