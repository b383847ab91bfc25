-- `rewriting::rewrite::deliver` meets its contract: 14, or the text in the buffer.
use Rattle.rewriting.proofs.Delivering.{too_short, long_enough}
use Rattle.rewriting.proofs.rewrite.deliver.Goals as goal

pub returns-then-buffer-text : goal.returns-then-buffer-text
returns-then-buffer-text c = too_short _ _ c.if-buffer-text.true

pub returns : goal.returns
returns c = long_enough _ _ _ _ c.if-buffer-text.false c.copy.ensures.size c.copy.ensures.bytes
