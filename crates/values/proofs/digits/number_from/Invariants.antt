use Rattle.values.proofs.Numbers.{NumberBefore}
use Rattle.values.proofs.digits.number_from.Given as goal

abbrev pub invariant-loop-c : goal.invariant-loop-c
invariant-loop-c l = NumberBefore l.digits l.n l.c-index l.value
