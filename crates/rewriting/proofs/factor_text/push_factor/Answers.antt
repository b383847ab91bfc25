-- `rewriting::factor_text::push_factor` meets its contract: nothing for 0, no form, or each part in turn.
use native.Mathlib.Omega.{arith}
use mathlib.Core.Path.{ap, ◌∙◌}
use lib.IntN.{nat_abs}
use borrow.Author.Tests.{not-true, not-false}
use mir.Syntax.{w32}
use mir.Val.{SFits}
use mir.Facts.{to_z-of_z}
use Rattle.label.specs.Bytes.{bytes}
use Rattle.label.specs.Writing.{figures}
use Rattle.rewriting.proofs.TextLaws.{writes_nothing, writes_both, has_form, lacks_form, form_lost}
use Rattle.rewriting.proofs.NumberLaws.{is_below}
use Rattle.rewriting.proofs.PowerLaws.{factor_omitted, factor_none, factor_some}
use Rattle.rewriting.proofs.factor_text.push_factor.Goals as goal

pub returns-then-size-eq0 : goal.returns-then-size-eq0
returns-then-size-eq0 g c =
    let fits : SFits w32 c.args.k.0 = record { sfits = omega arith } in
    let size = c.from-size.ensures ∙ c.unsigned_abs.ensures.value ∙ ap nat_abs (to_z-of_z fits) in
    has_form (factor_omitted _ _ size c.if-size-eq0.true) writes_nothing

pub returns-then-not-style : goal.returns-then-not-style
returns-then-not-style g c =
    let fits : SFits w32 c.args.k.0 = record { sfits = omega arith } in
    let size = c.from-size.ensures ∙ c.unsigned_abs.ensures.value ∙ ap nat_abs (to_z-of_z fits) in
    lacks_form (factor_none _ _ size c.if-size-eq0.false (not-true _ c.if-not-style.true)) (form_lost c.lose_form.ensures)

pub returns : goal.returns
unfolding figures bytes
returns g c =
    let fits : SFits w32 c.args.k.0 = record { sfits = omega arith } in
    let size = c.from-size.ensures ∙ c.unsigned_abs.ensures.value ∙ ap nat_abs (to_z-of_z fits) in
    has_form (factor_some _ _ size c.if-size-eq0.false (not-false _ c.if-not-style.false) (is_below fits))
    (writes_both (writes_both c.push_ten.ensures (writes_both c.push_sign.ensures c.push_figures.ensures)) c.append_if.ensures)
