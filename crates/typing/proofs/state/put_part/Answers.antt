-- `typing::state::put_part` meets its contract: no room, and as much of the part as has room.
use borrow.Author.Rules.{rules}
use native.Mathlib.Omega.{arith}
use mathlib.Core.Path.{sym}
use Rattle.typing.proofs.WrittenOver.{written_past, part_put}
use Rattle.typing.proofs.state.put_part.Goals as goal

pub returns-then-room-at : goal.returns-then-room-at
returns-then-room-at c = sym (written_past c.args.at c.args.part.now c.args.room.now (omega arith))

pub returns : goal.returns
returns c =
    part_put c.args.at c.args.room.now c.args.part.now (omega arith) c.min-size.ensures (omega arith) (search rules)
