-- The chunk is used as far as its end, and the buffer for answers keeps its length. Each turn uses at least a byte of the chunk.
use Rattle.std.proofs.Common.{length, ◌-◌, ◌≡◌, ◌≤◌}
use Rattle.label_lines.proofs.pass.Given as goal

abbrev pub invariant-loop-used : goal.invariant-loop-used
invariant-loop-used g l = (l.used ≤ length l.chunk) × (length l.out ≡ length l.fn.out)

abbrev pub decreases-loop-used : goal.decreases-loop-used
decreases-loop-used g l = length l.chunk - l.used
