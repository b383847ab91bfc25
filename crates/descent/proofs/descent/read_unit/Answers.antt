use Rattle.descent.proofs.StepLaws.{unit_unspelled, unit_unpowered, unit_read}
use Rattle.descent.proofs.descent.read_unit.Goals as goal

pub returns-in_err-end : goal.returns-in_err-end
returns-in_err-end c = rw c.from_residual.ensures (unit_unspelled c.in_err-end.ensures)

pub returns-in_err-p : goal.returns-in_err-p
returns-in_err-p c = rw c.from_residual-in_err-p.ensures (unit_unpowered c.in_ok-end.ensures c.in_err-p.ensures)

pub returns : goal.returns
returns c = unit_read c.in_ok-end.ensures c.in_ok-p.ensures c.requires (rw (← c.ok_or-exponent.ensures.ok_part) c.exponent_of.ensures) c.keep.ensures
