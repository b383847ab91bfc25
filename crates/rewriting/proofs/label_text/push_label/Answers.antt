-- `rewriting::label_text::push_label` meets its contract: no terms, or the factor, and each turn of the loop one term more; or no form.
use native.Mathlib.Omega.{arith}
use mathlib.Core.Path.{sym, ◌∙◌}
use borrow.Author.Rules.{rules}
use Rattle.rewriting.proofs.TextLaws.{form_as, lacks_form}
use Rattle.rewriting.proofs.LabelTexts.{noted_at, letters_inside, term_raised, no_term_yet, no_terms, factor_formless, label_formless, term_loses, next_term, all_terms}
use Rattle.rewriting.proofs.label_text.push_label.Goals as goal

pub returns-then-count-eq0 : goal.returns-then-count-eq0
returns-then-count-eq0 g c = rw c.clear.ensures (no_terms _ _ _ c.args.content.now _ c.if-count-eq0.true)

pub returns-in_err-push_factor : goal.returns-in_err-push_factor
returns-in_err-push_factor g c =
    let lost = c.in_err-push_factor.ensures in
    rw (c.from_residual.ensures, ← c.clear.ensures) (lacks_form (factor_formless _ _ _ c.args.content.now _ (omega arith) lost.formless) lost.loses)

pub loop-i-init : goal.loop-i-init
loop-i-init g c = no_term_yet _ _ _ _

pub form_of-form-requires : goal.form_of-form-requires
form_of-form-requires g c = letters_inside c.requires c.loop-i-test.true (noted_at c.args.content.now c.loop-i.i _ (search rules)) c.source_term.ensures

pub returns-in_err-push_term : goal.returns-in_err-push_term
returns-in_err-push_term g c =
    let raised = term_raised _ _ _ c.args.content.now c.loop-i.i (noted_at c.args.content.now c.loop-i.i _ (search rules)) c.source_term.ensures _ c.form_of-form.ensures.by_index in
    let lost = c.in_err-push_term.ensures in
    rw (c.from_residual-in_err-push_term.ensures, ← c.clear.ensures)
    (lacks_form (label_formless _ _ _ c.args.content.now _ _ c.loop-i-test.true (sym raised ∙ lost.formless))
    (term_loses c.loop-i.invariant c.in_ok-push_factor.ensures c.push_joint.ensures lost.loses))

pub loop-i-preserved : goal.loop-i-preserved
loop-i-preserved g c =
    let raised = term_raised _ _ _ c.args.content.now c.loop-i.i (noted_at c.args.content.now c.loop-i.i _ (search rules)) c.source_term.ensures _ c.form_of-form.ensures.by_index in
    next_term c.loop-i.invariant c.push_joint.ensures (form_as (sym raised) c.in_ok-push_term.ensures)

pub returns : goal.returns
returns g c = rw (← c.clear.ensures) (all_terms c.loop-i.invariant _ (omega arith) (omega arith) c.in_ok-push_factor.ensures)
