use Prim.Native.Nat.{◌-◌}
use Rattle.conversion.proofs.Raising.{Raising}
use Rattle.conversion.proofs.prime_powers.raised.Given as goal

abbrev pub invariant-loop-turn : goal.invariant-loop-turn
invariant-loop-turn l = Raising l.start l.prime l.exponent l.value (l.exponent - l._turn)
