-- `typing::state::Typing::has_ended` meets its contract: by the mark, and by the count.
use Rattle.typing.proofs.PartSteps.{ended_says, count_says}
use mathlib.Core.Path.{◌∙◌}
use Rattle.typing.proofs.state.Typing.has_ended.Goals as goal

pub returns-then-self : goal.returns-then-self
returns-then-self c = c.if-self.true ∙ ended_says c.args.self.now c.if-self.true

pub returns-else-self : goal.returns-else-self
returns-else-self c = count_says c.args.self.now c.if-self.false
