use Rattle.record.proofs.Joining.{TermsPut}
use Rattle.record.proofs.record.put_terms.Given as goal

abbrev pub invariant-loop-i : goal.invariant-loop-i
invariant-loop-i l = TermsPut l.initial.b l.content l.b l.i
