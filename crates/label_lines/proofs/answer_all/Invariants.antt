-- The buffers keep their lengths.
use Rattle.std.proofs.Common.{length, ◌≡◌}
use Rattle.label_lines.proofs.answer_all.Given as goal

abbrev pub invariant-loop : goal.invariant-loop
invariant-loop g l = (length l.input ≡ length l.fn.input) × (length l.out ≡ length l.fn.out)
