-- `rewriting::exponent_text::push_exponent` meets its contract: the exponent in lowest terms is written.
use native.Mathlib.Omega.{arith}
use mathlib.Core.Path.{ap, ◌∙◌}
use lib.IntN.{nat_abs}
use mir.Syntax.{w32}
use mir.Val.{SFits}
use mir.Facts.{to_z-of_z}
use Rattle.notations.specs.Styles.{style_in}
use Rattle.rewriting.proofs.NumberLaws.{is_below}
use Rattle.rewriting.proofs.PowerLaws.{exponent_power}
use Rattle.rewriting.proofs.exponent_text.push_exponent.Goals as goal

pub returns : goal.returns
returns g c =
    let fits : SFits w32 c.args.exponent.0 = record { sfits = omega arith } in
    let size = c.from-sixtieths.ensures ∙ c.unsigned_abs.ensures.value ∙ ap nat_abs (to_z-of_z fits) in
    rw (exponent_power (style_in c.args.style) c.args.exponent.0 size c.denominator-d.ensures.0 (is_below fits)) c.push_power.ensures
