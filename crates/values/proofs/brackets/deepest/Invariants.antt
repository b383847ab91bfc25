use Rattle.values.proofs.OpenBrackets.{Counted}
use Rattle.values.proofs.brackets.deepest.Given as goal

abbrev pub invariant-loop-c : goal.invariant-loop-c
invariant-loop-c l = Counted l.s l.most l.depth l.c-index
