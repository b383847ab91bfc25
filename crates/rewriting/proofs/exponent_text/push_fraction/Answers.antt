-- `rewriting::exponent_text::push_fraction` meets its contract.
use Rattle.label.specs.Bytes.{bytes}
use Rattle.label.specs.Writing.{figures}
use Rattle.notations.specs.Styles.{style_in}
use Rattle.rewriting.proofs.TextLaws.{writes_both}
use Rattle.rewriting.proofs.exponent_text.push_fraction.Goals as goal

pub returns : goal.returns
unfolding figures style_in bytes
returns g c =
    writes_both c.append_if.ensures
    (writes_both (writes_both (writes_both c.push.ensures c.push_integer.ensures) (writes_both c.push-2.ensures c.push_figures.ensures)) c.push-3.ensures)
