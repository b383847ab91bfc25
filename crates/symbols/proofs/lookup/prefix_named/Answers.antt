-- `symbols::lookup::prefix_named` meets its contract: each turn of the loop is one of `PrefixLaws`.
use mathlib.Core.Path.{refl}
use Rattle.symbols.proofs.KeyLaws.{spelled}
use Rattle.symbols.proofs.PrefixLaws.{search_none, search_hit, search_miss, search_all, too_long}
use Rattle.symbols.proofs.lookup.prefix_named.Goals as goal

pub returns-then-size-gt-MOST_LETTERS-clause-is : goal.returns-then-size-gt-MOST_LETTERS-clause-is
returns-then-size-gt-MOST_LETTERS-clause-is c =
    too_long _ c.if-size-gt-MOST_LETTERS.true

pub loop-i-init : goal.loop-i-init
loop-i-init c =
    search_none (spelled c.type_inv.spelling refl c.key-number.ensures)

pub returns-then-is_prefix-clause-is : goal.returns-then-is_prefix-clause-is
returns-then-is_prefix-clause-is c =
    search_hit c.loop-i-test.true c.loop-i.invariant c.prefix_code.ensures c.is_prefix.ensures c.if-is_prefix.true

pub loop-i-preserved : goal.loop-i-preserved
loop-i-preserved c =
    search_miss c.loop-i-test.true c.loop-i.invariant c.prefix_code.ensures c.is_prefix.ensures c.if-is_prefix.false

pub returns-clause-is : goal.returns-clause-is
returns-clause-is c = search_all c.loop-i-test.false c.loop-i.invariant
