-- `typing::lent_state::load_state` meets its contract: too few bytes, and enough.
use borrow.Author.Rules.{rules}
use Rattle.typing.proofs.LentSteps.{short_loaded, state_loaded}
use Rattle.typing.proofs.lent_state.load_state.Goals as goal

pub returns-then-b-lt-STATE_SIZE : goal.returns-then-b-lt-STATE_SIZE
returns-then-b-lt-STATE_SIZE c =
    short_loaded c.args.b.now c.fresh_state-t.result c.fresh_state-t.ensures c.if-b-lt-STATE_SIZE.true

pub returns : goal.returns
returns c =
    state_loaded c.args.b.now c.if-b-lt-STATE_SIZE.false c.four_bytes_at.ensures c.four_bytes_at-2.ensures (search rules)
