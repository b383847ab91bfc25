-- `tokens::number::integer` meets its contract: digits after the sign, under it.
use Prim.Native.Nat.{ℕ}
use lib.Dec.{eqb}
use mathlib.Core.Path.{ap}
use Rattle.label.specs.Bytes.{minus}
use Rattle.tokens.proofs.Numbers.{integer_after}
use Rattle.tokens.proofs.number.integer.Goals as goal

pub returns : goal.returns
returns c =
    rw c.under_sign.ensures
    (integer_after c.args.s.now c.args.at _ (ap (λ (x : ℕ). eqb x minus) c.byte_at-negative.ensures) c.after_sign.ensures.value c.unsigned.ensures)
