-- `rewriting::figures::push_figures` meets its contract: no digit, or the last digit after the others, if there are any.
use Rattle.rewriting.proofs.TextLaws.{writes_nothing, writes_both, writes_as}
use Rattle.rewriting.proofs.NumberLaws.{figures_none, figures_one, figures_more}
use Rattle.rewriting.proofs.figures.+push_figures.Goals as goal
use Rattle.rewriting.proofs.figures.+push_figures.Goals.{then-n-ge10, else-n-ge10}

pub returns-then-most-eq0 : goal.returns-then-most-eq0
returns-then-most-eq0 g t c = writes_as (figures_none _ _ c.if-most-eq0.true) writes_nothing

pub returns : goal.returns
returns g t c = elim c.if-n-ge10.branch [
  | then-n-ge10 w ↦ writes_as (figures_more _ _ c.if-most-eq0.false w.if-n-ge10.true) (writes_both w.push_figures.ensures (rw w.text-is at c.push.ensures))
  | else-n-ge10 w ↦ writes_as (figures_one _ _ c.if-most-eq0.false w.if-n-ge10.false) (rw w.text-is at c.push.ensures)
]
