-- `rewriting::form::push_form` meets its contract: no form, or the prefix, then the name or the letters.
use mathlib.Core.Path.{refl}
use Rattle.rewriting.specs.Forms.{written_form, form_text}
use Rattle.rewriting.proofs.TextLaws.{writes_both, has_form, lacks_form, form_lost}
use Rattle.rewriting.proofs.form.push_form.Goals as goal

pub returns-in_default : goal.returns-in_default
unfolding written_form
returns-in_default g c = rw c.in_default.is (lacks_form refl (form_lost c.lose_form.ensures))

pub returns : goal.returns
unfolding written_form form_text
returns g c = rw c.in-Some.is (has_form refl (writes_both c.push_key.ensures c.push_name.ensures))
