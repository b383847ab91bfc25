use Rattle.symbols.proofs.PrefixLaws.{SearchingPrefixes}
use Rattle.symbols.proofs.lookup.prefix_named.Given as goal

abbrev pub invariant-loop-i : goal.invariant-loop-i
invariant-loop-i l = SearchingPrefixes l.spelling l.size l.number l.i
