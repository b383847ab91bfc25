-- `typing::lent_state::end_lent` meets its contract: after the end, and before it.
use mathlib.Core.Path.{◌∙◌}
use mathlib.Core.Bool.{true, false}
use Rattle.typing.proofs.Layouts.{has_all_bytes}
use Rattle.typing.proofs.LentSteps.{ended_as, ends_after, ends_before}
use Rattle.typing.proofs.lent_state.end_lent.Goals as goal

pub returns-then-has_ended : goal.returns-then-has_ended
returns-then-has_ended c =
    let t = c.load_state-t.result in
    let all = ends_after c.args.state.now t c.load_state-t.ensures c.args.buffer.now (ended_as c.args.state.now t c.load_state-t.ensures c.has_ended.result true c.has_ended.ensures c.if-has_ended.true) in
    record { value = c.number_of_answer.ensures ∙ all.0; state_after = all.1.0; buffer_after = all.1.1 }

pub store_state-requires : goal.store_state-requires
store_state-requires c =
    let b = c.args.state.now in
    has_all_bytes b (ended_as b c.load_state-t.result c.load_state-t.ensures c.has_ended.result false c.has_ended.ensures c.if-has_ended.false)

pub returns : goal.returns
returns c =
    let t = c.load_state-t.result in
    let all = ends_before c.args.state.now t c.load_state-t.ensures c.args.buffer.now c.end_label-r.new.buffer c.store_state.new.b c.end_label-r.result
    (ended_as c.args.state.now t c.load_state-t.ensures c.has_ended.result false c.has_ended.ensures c.if-has_ended.false)
    c.end_label-r.ensures.number_value c.end_label-r.ensures.state_value c.end_label-r.ensures.buffer_after c.store_state.ensures in
    record { value = all.0; state_after = all.1.0; buffer_after = all.1.1 }
