use native.Mathlib.Omega.{arith}
use Rattle.descent.proofs.LabelSteps.{no_factor_read, factor_read, ready_empty}
use Rattle.descent.proofs.whole_label.factored.Goals as goal

pub returns-in_err-f : goal.returns-in_err-f
returns-in_err-f c = rw c.from_residual.ensures (no_factor_read c.in_err-f.ensures)

pub read_product-end-requires : goal.read_product-end-requires
read_product-end-requires c = search (ready_empty, arith)

pub returns : goal.returns
returns c = factor_read c.in_ok-f.ensures c.gap-at.ensures c.requires c.read_product-end.ensures c.ended.ensures
