-- `record::field_bytes::put_all` meets its contract: each turn of the loop is one of `Writing`.
use native.Mathlib.Omega.{arith}
use borrow.Author.Rules.{rules}
use Rattle.record.proofs.Writing.{all₀, all_more, all_done}
use Rattle.record.proofs.field_bytes.put_all.Goals as goal

pub loop-i-init : goal.loop-i-init
loop-i-init c = search (all₀, arith)

pub loop-i-preserved : goal.loop-i-preserved
loop-i-preserved c =
    all_more c.args.numbers.now c.loop-i.b c.loop-i.i c.loop-i.invariant c.loop-i-test.true c.requires (search rules)

pub returns : goal.returns
returns c = search (all_done, arith)
