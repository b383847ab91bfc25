use Prim.Native.Nat.{ℕ}
use mathlib.Core.List.{List}
use Rattle.symbols.specs.Views.{symbol_in, slot_in}
use Rattle.content.proofs.SumLaws.{Gathered}
use Rattle.content.proofs.dimensions.add_bases.Given as goal

abbrev pub invariant-loop-slot : goal.invariant-loop-slot
invariant-loop-slot l = ((s : List ℕ) → Gathered (λ j. slot_in j (symbol_in s l.x)) l.slot l.e l.initial.sums l.sums)
