-- `conversion::fraction::fraction` meets its contract: the exponents are small, and their powers are held.
use Rattle.conversion.proofs.Fractions.{ones_told, fraction_is}
use Rattle.conversion.proofs.fraction.fraction.Goals as goal

pub returns : goal.returns
returns c =
    let r = c.args.r in
    fraction_is r
    (ones_told r.twos c.requires.twos c.ones.ensures)
    (ones_told r.threes c.requires.threes c.ones-threes.ensures)
    (ones_told r.fives c.requires.fives c.ones-fives.ensures)
    (ones_told r.others c.requires.others c.ones-others.ensures)
    c.above.ensures c.above-2.ensures c.above-3.ensures c.product-n.ensures c.below.ensures c.below-2.ensures c.below-3.ensures c.product-d.ensures
