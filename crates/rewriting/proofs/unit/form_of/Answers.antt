-- `rewriting::unit::form_of` meets its contract: no name, read as the same, quoted, not to be quoted, or known.
use mathlib.Core.Path.{refl}
use Rattle.notations.specs.Styles.{style_in}
use Rattle.rewriting.proofs.UnitTexts.{plain_kept, lent_text, is_lent, form_is, unnamed_plain, plain_alone, reads_plain, reads_other, reads_quoted, reads_not}
use Rattle.rewriting.proofs.unit.form_of.Goals as goal

-- A NAME ALONE, OR LETTERS ALONE

pub returns-then-is_same-clause-alone : goal.returns-then-is_same-clause-alone
returns-then-is_same-clause-alone c = plain_alone c.in_ok-form.ensures

pub returns-in-Unknown-clause-alone : goal.returns-in-Unknown-clause-alone
returns-in-Unknown-clause-alone c = rw c.in-Unknown.is (record { keyless = refl; letters = refl })

-- THE TEXT

pub returns-in_err-form-clause-by_index : goal.returns-in_err-form-clause-by_index
returns-in_err-form-clause-by_index c =
    λ own o. rw c.from_residual.ensures (unnamed_plain c.in_err-form.ensures _ (style_in c.args.style) own o)

-- a form is written
pub returns-in_err-push_form-clause-by_index : goal.returns-in_err-push_form-clause-by_index
returns-in_err-push_form-clause-by_index c = absurd (form_is _ _ c.in_err-push_form.ensures.formless)

-- the text is never longer than the array
pub returns-in_err-spelling-clause-by_index : goal.returns-in_err-spelling-clause-by_index
returns-in_err-spelling-clause-by_index c =
    let kept = plain_kept c.in_ok-form.ensures c.requires.0 c.requires.1 c.new-plain.ensures c.in_ok-push_form.ensures in
    absurd (is_lent kept _ c.written.ensures c.in_err-spelling.ensures.value)

pub returns-then-is_same-clause-by_index : goal.returns-then-is_same-clause-by_index
unfolding style_in
returns-then-is_same-clause-by_index c = λ own o.
    let kept = plain_kept c.in_ok-form.ensures c.requires.0 c.requires.1 c.new-plain.ensures c.in_ok-push_form.ensures in
    let text = lent_text kept _ c.written.ensures c.in_ok-spelling.ensures.value in
    reads_plain c.in_ok-form.ensures c.requires.0 _ own o text _ c.symbol-y.ensures.result_value c.is_same.ensures c.if-is_same.true

pub returns-in-Unknown-clause-by_index : goal.returns-in-Unknown-clause-by_index
unfolding style_in
returns-in-Unknown-clause-by_index c = λ own o.
    let kept = plain_kept c.in_ok-form.ensures c.requires.0 c.requires.1 c.new-plain.ensures c.in_ok-push_form.ensures in
    let text = lent_text kept _ c.written.ensures c.in_ok-spelling.ensures.value in
    reads_quoted c.in_ok-form.ensures c.requires.0 _ own o text _ c.symbol-y.ensures.result_value c.is_same.ensures c.if-is_same.false c.in-Unknown.is c.if-style.true

pub returns-in_default-clause-by_index : goal.returns-in_default-clause-by_index
unfolding style_in
returns-in_default-clause-by_index c = λ own o.
    let kept = plain_kept c.in_ok-form.ensures c.requires.0 c.requires.1 c.new-plain.ensures c.in_ok-push_form.ensures in
    let text = lent_text kept _ c.written.ensures c.in_ok-spelling.ensures.value in
    reads_not c.in_ok-form.ensures c.requires.0 _ own o text _ c.symbol-y.ensures.result_value c.is_same.ensures c.if-is_same.false c.in-Unknown.is c.if-style.false

pub returns-in_default-2-clause-by_index : goal.returns-in_default-2-clause-by_index
unfolding style_in
returns-in_default-2-clause-by_index c = λ own o.
    let kept = plain_kept c.in_ok-form.ensures c.requires.0 c.requires.1 c.new-plain.ensures c.in_ok-push_form.ensures in
    let text = lent_text kept _ c.written.ensures c.in_ok-spelling.ensures.value in
    reads_other c.in_ok-form.ensures c.requires.0 _ own o text _ c.symbol-y.ensures.result_value c.is_same.ensures c.if-is_same.false c.in_default.is
