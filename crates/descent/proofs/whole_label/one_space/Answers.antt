use native.Mathlib.Omega.{arith}
use Rattle.descent.proofs.LabelSteps.{space_passed, no_space_passed}
use Rattle.descent.proofs.whole_label.one_space.Goals as goal

pub returns-then-byte_at-eq32 : goal.returns-then-byte_at-eq32
returns-then-byte_at-eq32 c = search (space_passed, arith)

pub returns : goal.returns
returns c = search (no_space_passed, arith)
