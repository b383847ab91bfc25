use Rattle.symbols.proofs.PairLaws.{SameUpTo}
use Rattle.symbols.proofs.keys.compare.Given as goal

abbrev pub invariant-loop-pairs : goal.invariant-loop-pairs
invariant-loop-pairs l = SameUpTo l.size l.number l.symbol_size l.symbol_number l.pairs
