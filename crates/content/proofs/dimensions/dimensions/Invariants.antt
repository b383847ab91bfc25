use Prim.Native.Nat.{ℕ}
use mathlib.Core.List.{List}
use lib.ListN.{length}
use Rattle.label.specs.Reading.{base_in}
use Rattle.label.specs.Units.{base_count}
use Rattle.content.specs.Views.{terms_in}
use Rattle.content.specs.Sums.{SumsWithin, zero_sums}
use Rattle.content.proofs.TotalLaws.{Totals, bound}
use Rattle.content.proofs.dimensions.dimensions.Given as goal

abbrev pub invariant-loop-term : goal.invariant-loop-term
invariant-loop-term l = record {
  small : SumsWithin (bound (length l.yielded)) l.sums;
  totals : (s : List ℕ) → Totals base_in (terms_in s l.terms l.symbols (length l.yielded)) (zero_sums base_count) l.sums;
}
