use Rattle.symbols.proofs.NameLaws.{SearchingNames}
use Rattle.symbols.proofs.lookup.unit_named.Given as goal

abbrev pub invariant-loop-i : goal.invariant-loop-i
invariant-loop-i l = SearchingNames l.n l.spelling l.size l.number l.i
