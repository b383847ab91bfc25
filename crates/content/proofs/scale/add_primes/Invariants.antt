use Prim.Native.Nat.{ℕ}
use mathlib.Core.List.{List}
use Rattle.label.specs.Units.{◌↑◌}
use Rattle.label.specs.Reading.{prime_in}
use Rattle.symbols.specs.Slots.{prime_at}
use Rattle.symbols.specs.Views.{symbol_in}
use Rattle.content.proofs.SumLaws.{Gathered}
use Rattle.content.proofs.scale.add_primes.Given as goal

abbrev pub invariant-loop-prime : goal.invariant-loop-prime
invariant-loop-prime l =
    ((s : List ℕ) → Gathered (λ j. j ↑ prime_in (prime_at j) (symbol_in s l.x)) l.prime l.e l.initial.sums l.sums)
