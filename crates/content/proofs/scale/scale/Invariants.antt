use Prim.Native.Nat.{ℕ}
use mathlib.Core.List.{List}
use lib.ListN.{length}
use Rattle.label.specs.Reading.{prime_in}
use Rattle.symbols.specs.Slots.{prime_at}
use Rattle.content.specs.Views.{terms_in}
use Rattle.content.specs.Sums.{SumsWithin}
use Rattle.content.proofs.TotalLaws.{Totals, bound, tens}
use Rattle.content.proofs.scale.scale.Given as goal

abbrev pub invariant-loop-term : goal.invariant-loop-term
invariant-loop-term l = record {
  small : SumsWithin (bound (length l.yielded)) l.sums;
  totals : (s : List ℕ) → Totals (λ b. prime_in (prime_at b)) (terms_in s l.terms l.symbols (length l.yielded)) (tens l.tens) l.sums;
}
