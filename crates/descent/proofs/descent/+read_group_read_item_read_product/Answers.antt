-- The cycle of the descent meets its contracts: each way through the code is a law of `StepLaws`.
use Rattle.std.proofs.Common.{arith}
use Rattle.descent.proofs.StepLaws.{group_of_nothing, group_ended, item_group, item_unit, turn_first, turn_none, turn_next, turn_last, turn_over, ready_over}
use Rattle.descent.proofs.descent.+read_group_read_item_read_product.Goals as goal

-- A GROUP: the product is called, and finds nothing; the bracket that closes, found or not

pub read_group-returns-in_err-end : goal.read_group-returns-in_err-end
read_group-returns-in_err-end t c = rw c.from_residual.ensures (group_of_nothing c.in_err-end.ensures)

pub read_group-returns : goal.read_group-returns
read_group-returns t c = rw c.then_some.ensures (group_ended c.in_ok-end.ensures c.closes.ensures)

-- AN ITEM: a group or a unit

pub read_item-returns-then-byte_at-eq40 : goal.read_item-returns-then-byte_at-eq40
read_item-returns-then-byte_at-eq40 t c = search (item_group, arith)

pub read_item-returns : goal.read_item-returns
read_item-returns t c = search (item_unit, arith)

-- A PRODUCT: up to the loop; an item that finds nothing; the item below the last slash; no last slash; the next turn

pub read_product-loop-end-init : goal.read_product-loop-end-init
read_product-loop-end-init t c = turn_first c.requires c.leading_slash-l.ensures (rw (← c.is_some.ensures) c.turned_by-down.ensures) c.unwrap_or-from.ensures

pub read_product-returns-in_err-end : goal.read_product-returns-in_err-end
read_product-returns-in_err-end t c = rw c.from_residual.ensures (turn_none c.loop-end.invariant c.in_err-end.ensures c.args.sense.over)

pub read_product-read_item-requires-then-last_slash : goal.read_product-read_item-requires-then-last_slash
read_product-read_item-requires-then-last_slash t c = (
  omega (arith, c.requires.within, c.loop-end.invariant.forward, c.in_ok-end.ensures.reads.is.ahead),
  ready_over c.loop-end.invariant c.in_ok-end.ensures c.in_default.ensures c.last_slash.ensures c.if-last_slash.true,
)

pub read_product-returns-then-last_slash : goal.read_product-returns-then-last_slash
read_product-returns-then-last_slash t c =
    turn_over
    c.loop-end.invariant c.in_ok-end.ensures c.in_default.ensures c.last_slash.ensures c.if-last_slash.true c.read_item-then-last_slash.ensures

pub read_product-returns-in_default : goal.read_product-returns-in_default
read_product-returns-in_default t c =
    turn_last c.loop-end.invariant c.in_ok-end.ensures c.in_default.ensures c.last_slash.ensures c.if-last_slash.false

pub read_product-loop-end-preserved : goal.read_product-loop-end-preserved
read_product-loop-end-preserved t c =
    turn_next c.loop-end.invariant c.in_ok-end.ensures c.in-Some.ensures c.turned_by-down-in-loop-end.ensures
