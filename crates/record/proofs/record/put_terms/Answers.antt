-- `record::record::put_terms` meets its contract: each turn of the loop is one of `Joining`.
use native.Mathlib.Omega.{arith}
use Rattle.record.proofs.Joining.{terms₀, terms_step, terms_done}
use Rattle.record.proofs.record.put_terms.Goals as goal

pub loop-i-init : goal.loop-i-init
loop-i-init c = search (terms₀, arith)

pub loop-i-preserved : goal.loop-i-preserved
loop-i-preserved c =
    terms_step c.loop-i.b c.put_all.new.b c.loop-i.i c.term_fields-f.result c.loop-i.invariant c.put_all.auto.b c.term_fields-f.ensures.result_len c.term_fields-f.ensures.by_index c.put_all.ensures

pub returns : goal.returns
returns c = terms_done c.loop-i.invariant (omega arith)
