use Rattle.record.proofs.Writing.{PuttingAll}
use Rattle.record.proofs.field_bytes.put_all.Given as goal

abbrev pub invariant-loop-i : goal.invariant-loop-i
invariant-loop-i l = PuttingAll l.initial.b l.at l.numbers l.b l.i
