-- `conversion::prime_powers::product` meets its contract.
use Rattle.conversion.proofs.Raising.{held_product}
use Rattle.conversion.proofs.prime_powers.product.Goals as goal

pub returns : goal.returns
returns c =
    held_product c.args.twos c.args.threes c.args.others c.raised.ensures c.raised-2.ensures c.raised-3.ensures
