use Rattle.content.proofs.Naming.{NamedTo}
use Rattle.content.proofs.named.all_named.Given as goal

abbrev pub invariant-loop-i : goal.invariant-loop-i
invariant-loop-i l = NamedTo l.n l.s l.terms l.i l.symbols
