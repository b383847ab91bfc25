-- `typing::lent_state::store_state` meets its contract: the numbers, the mark and the room.
use borrow.Author.Rules.{rules}
use mathlib.Core.Bool.{Bool, true, false}
use mathlib.Core.Path.{◌≡◌, refl, ◌∙◌}
use Rattle.std.specs.Int.{from_bool}
use Rattle.typing.specs.Layout.{ended_byte}
use Rattle.typing.proofs.LentSteps.{state_stored}
use Rattle.typing.proofs.lent_state.store_state.Goals as goal

mark : (e : Bool) → from_bool e ≡ ended_byte e
mark true = refl
mark false = refl

pub returns : goal.returns
returns c =
    state_stored c.args.t.now c.args.b.now c.requires (search rules) (search rules) (c.from.ensures ∙ mark c.args.t.now.ended) (search rules)
