-- `typing::state::capped` meets its contract: the smaller of two numbers.
use native.Mathlib.Omega.{arith}
use Rattle.typing.specs.Typing as spec
use Rattle.typing.proofs.state.capped.Goals as goal

pub returns : goal.returns
unfolding spec.capped
returns c = grind arith
