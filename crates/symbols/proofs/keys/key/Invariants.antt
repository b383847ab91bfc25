use Rattle.symbols.proofs.KeyLaws.{Keyed}
use Rattle.symbols.proofs.keys.key.Given as goal

abbrev pub invariant-loop-byte : goal.invariant-loop-byte
invariant-loop-byte l = Keyed l.spelling l.number l.byte-index
