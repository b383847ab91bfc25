-- `rewriting::text::Text::append_if` meets its contract.
use Rattle.rewriting.proofs.TextLaws.{writes_nothing}
use Rattle.rewriting.proofs.text.Text.append_if.Goals as goal

pub returns-then-wanted : goal.returns-then-wanted
returns-then-wanted g c = rw c.if-wanted.true c.append.ensures

pub returns-else-wanted : goal.returns-else-wanted
returns-else-wanted g c = rw c.if-wanted.false writes_nothing
