use Rattle.descent.proofs.LabelSteps.{nothing_ends, text_ends}
use Rattle.descent.proofs.whole_label.ended.Goals as goal

pub returns-in_err-end : goal.returns-in_err-end
returns-in_err-end c = rw (c.in_err-end.was, c.from_residual.ensures) nothing_ends

pub returns : goal.returns
returns c = rw (c.in_ok-end.was, c.then_some.ensures) (text_ends c.in_ok-end.end)
