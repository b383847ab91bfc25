-- `rewriting::figures::push_sign` meets its contract: no sign is nothing.
use Rattle.rewriting.proofs.TextLaws.{writes_nothing}
use Rattle.rewriting.proofs.figures.push_sign.Goals as goal

pub returns-else-plussed : goal.returns-else-plussed
returns-else-plussed g c = rw (c.if-negative.false, c.if-plussed.false) writes_nothing
