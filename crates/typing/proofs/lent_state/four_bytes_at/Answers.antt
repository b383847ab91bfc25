-- `typing::lent_state::four_bytes_at` meets its contract.
use mathlib.Core.Path.{◌∙◌}
use Rattle.typing.proofs.LentSteps.{four_bytes}
use Rattle.typing.proofs.lent_state.four_bytes_at.Goals as goal

pub returns : goal.returns
returns c = c.from_le_bytes.ensures ∙ four_bytes c.args.b.now c.args.at c.requires
