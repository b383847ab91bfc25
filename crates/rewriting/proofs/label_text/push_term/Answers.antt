-- `rewriting::label_text::push_term` meets its contract: no form, or the unit, then the exponent.
use Rattle.rewriting.proofs.TextLaws.{then_text, then_nothing}
use Rattle.rewriting.proofs.label_text.push_term.Goals as goal

pub returns-in_err-push_form : goal.returns-in_err-push_form
returns-in_err-push_form g c = rw c.from_residual.ensures (then_nothing _ c.in_err-push_form.ensures)

pub returns : goal.returns
returns g c = then_text _ _ c.push_exponent.result c.in_ok-push_form.ensures c.push_exponent.ensures
