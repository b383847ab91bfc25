-- `rewriting::exponent_text::push_integer` meets its contract.
use Rattle.label.specs.Writing.{figures}
use Rattle.rewriting.proofs.TextLaws.{writes_both}
use Rattle.rewriting.proofs.exponent_text.push_integer.Goals as goal

pub returns : goal.returns
unfolding figures
returns g c = writes_both c.push_sign.ensures c.push_figures.ensures
