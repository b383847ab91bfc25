-- `symbols::lookup::unit_named` meets its contract: each turn of the loop is one of `NameLaws`.
use native.Mathlib.Omega.{arith}
use Rattle.symbols.proofs.KeyLaws.{spelled}
use Rattle.symbols.proofs.NameLaws.{search_start, search_hit, search_miss, search_all, too_long, unit_room}
use Rattle.symbols.proofs.lookup.unit_named.Goals as goal

pub returns-then-size-gt-MOST_LETTERS-clause-is : goal.returns-then-size-gt-MOST_LETTERS-clause-is
returns-then-size-gt-MOST_LETTERS-clause-is c =
    too_long _ _ c.if-size-gt-MOST_LETTERS.true

pub loop-i-init : goal.loop-i-init
loop-i-init c =
    rw c.from-first.ensures (rw c.first_in_group.ensures
    (search_start (spelled c.type_inv.spelling (omega arith) c.key-number.ensures)))

pub returns-then-is_name-clause-is : goal.returns-then-is_name-clause-is
returns-then-is_name-clause-is c =
    search_hit c.loop-i-test.true c.loop-i.invariant c.nth_name-name.ensures c.is_name.ensures c.if-is_name.true

pub returns-then-is_name-clause-row : goal.returns-then-is_name-clause-row
returns-then-is_name-clause-row c = omega (arith, c.nth_name-name.ensures.unit_is, unit_room c.loop-i.i)

pub loop-i-preserved : goal.loop-i-preserved
loop-i-preserved c =
    search_miss c.loop-i-test.true c.loop-i.invariant c.nth_name-name.ensures c.is_name.ensures c.if-is_name.false

pub returns-clause-is : goal.returns-clause-is
returns-clause-is c = search_all c.loop-i-test.false c.loop-i.invariant
