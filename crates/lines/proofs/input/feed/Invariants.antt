use Prim.Native.Nat.{◌-◌, ◌<◌}
use mathlib.Core.Path.{◌≡◌}
use lib.ListN.{length}
use Rattle.lines.specs.Feeding.{OutputDue}
use Rattle.lines.proofs.input.feed.Given as goal

abbrev pub invariant-loop-used : goal.invariant-loop-used
invariant-loop-used l =
    (length l.out ≡ length l.initial.out) × (0 < l.written → 0 < l.used) × OutputDue l.chunk l.initial.line l.line l.out (record { used = l.used; written = l.written })

abbrev pub decreases-loop-used : goal.decreases-loop-used
decreases-loop-used l = length l.chunk - l.used
