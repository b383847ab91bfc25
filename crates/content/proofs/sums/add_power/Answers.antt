-- `content::sums::add_power` meets its contract: the product and the sum fit 64 bits.
use native.Mathlib.Omega.{arith}
use mathlib.Core.Path.{◌∙◌}
use mir.Syntax.{w32}
use mir.Val.{SFits}
use mir.Facts.{to_z-of_z}
use Rattle.content.proofs.Integers.{sum_of}
use Rattle.content.proofs.sums.add_power.Goals as goal

pub returns : goal.returns
returns c =
    let exponent_fits : SFits w32 c.args.exponent.0 = record { sfits = omega arith } in
    sum_of c.ranges.power exponent_fits c.requires.1 c.ranges.sum c.requires.0
    (c.from.ensures ∙ to_z-of_z c.ranges.power) (c.from-2.ensures ∙ to_z-of_z exponent_fits)
