-- `conversion::convert::convert_sums` meets its contract: each way is one of `Converting`.
use Rattle.conversion.proofs.Converting.{unknown_unit, other_dimensions, no_fraction, large_fraction, fraction_given}
use Rattle.conversion.proofs.convert.convert_sums.Goals as goal

pub returns-then-not-known : goal.returns-then-not-known
returns-then-not-known c = λ a b k u v. unknown_unit a b k (cc)

pub returns-then-not-same_bases : goal.returns-then-not-same_bases
returns-then-not-same_bases c = λ a b k u v. other_dimensions a b k (cc) u v c.same_bases.ensures (cc)

pub returns-then-not-are_whole : goal.returns-then-not-are_whole
returns-then-not-are_whole c = λ a b k u v. no_fraction a b k (cc) u v c.same_bases.ensures (cc) c.first_over_second-ratio.ensures.0 c.are_whole.ensures (cc)

pub returns-then-not-is_small : goal.returns-then-not-is_small
returns-then-not-is_small c =
    λ a b k u v.
    large_fraction a b k (cc) u v c.same_bases.ensures (cc) c.first_over_second-ratio.ensures.0 c.are_whole.ensures (cc) c.fraction-x.ensures c.is_small.ensures (cc)

pub returns : goal.returns
returns c =
    λ a b k u v.
    fraction_given a b k (cc) u v c.same_bases.ensures (cc) c.first_over_second-ratio.ensures.0 c.are_whole.ensures (cc) c.fraction-x.ensures c.is_small.ensures (cc)
