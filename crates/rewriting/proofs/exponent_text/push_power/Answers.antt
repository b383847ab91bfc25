-- `rewriting::exponent_text::push_power` meets its contract: a fraction, no form, 1, or a whole number.
use mathlib.Core.Path.{◌≡◌}
use mathlib.Core.Bool.{true, false}
use lib.Dec.{eqb}
use borrow.Author.Tests.{eq-eqb, ne_eqb, not-true, not-false}
use Rattle.label.specs.Choice.{pick}
use Rattle.notations.specs.Styles.{style_in}
use Rattle.rewriting.proofs.TextLaws.{writes_nothing, has_form, lacks_form, form_lost}
use Rattle.rewriting.proofs.PowerLaws.{power_fraction, power_none, power_one, power_whole}
use Rattle.rewriting.proofs.exponent_text.push_power.Goals as goal
use Rattle.rewriting.proofs.exponent_text.push_power.Goals.{then-power-via-then-power, then-power-via-else-power+then-power-ne1-2}

pub returns-then-not-style : goal.returns-then-not-style
unfolding style_in
returns-then-not-style g c = lacks_form (power_none _ _ _ _ c.if-power-ne1.true (not-true _ c.if-not-style.true)) (form_lost c.lose_form.ensures)

pub returns-then-power-ne1 : goal.returns-then-power-ne1
unfolding style_in
returns-then-power-ne1 g c = has_form (power_fraction _ _ _ _ c.if-power-ne1.true (not-false _ c.if-not-style.false)) c.push_fraction.ensures

pub returns-then-power : goal.returns-then-power
returns-then-power g c =
    let one = c.if-power-ne1.false in
    let y = style_in c.args.style in
    elim c.then-power.branch [
      | then-power-via-then-power w ↦ let e : pick c.args.power.negative false (eqb c.args.power.n 1) ≡ false = rw w.if-power.true in has_form (power_whole y _ _ _ one e) c.push_whole.ensures
      | then-power-via-else-power+then-power-ne1-2 w ↦ let e : pick c.args.power.negative false (eqb c.args.power.n 1) ≡ false = rw w.if-power.false (ne_eqb _ 1 w.if-power-ne1-2.true) in has_form (power_whole y _ _ _ one e) c.push_whole.ensures
    ]

pub returns-else-power-ne1-2 : goal.returns-else-power-ne1-2
returns-else-power-ne1-2 g c =
    let e : pick c.args.power.negative false (eqb c.args.power.n 1) ≡ true = rw c.if-power.false (eq-eqb _ 1 c.if-power-ne1-2.false) in
    has_form (power_one (style_in c.args.style) _ _ _ c.if-power-ne1.false e) writes_nothing
