-- `typing::lent_state::begin_lent` meets its contract: too few bytes, and enough.
use Rattle.typing.proofs.LentSteps.{begin_too_short, begin_with_room}
use Rattle.typing.proofs.lent_state.begin_lent.Goals as goal

pub returns-then-state-lt-STATE_SIZE : goal.returns-then-state-lt-STATE_SIZE
returns-then-state-lt-STATE_SIZE c =
    let all = begin_too_short c.args.notation c.args.state.now c.if-state-lt-STATE_SIZE.true in
    record { value = all.0; state_after = all.1 }

pub returns : goal.returns
returns c =
    let all = begin_with_room c.args.notation c.args.state.now c.if-state-lt-STATE_SIZE.false c.fresh_state.result c.store_state.new.b c.fresh_state.ensures c.store_state.ensures in
    record { value = all.0; state_after = all.1 }
