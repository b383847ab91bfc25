-- `tokens::power::bracketed_on` meets its contract: each way is one of `PowerSteps`.
use native.Mathlib.Omega.{arith}
use Rattle.label.specs.Bytes.{close_bracket}
use Rattle.tokens.proofs.Readers.{byte_found, byte_is}
use Rattle.tokens.proofs.PowerSteps.{on_close, on_slash_no_digits, on_slash_digits, on_other}
use Rattle.tokens.proofs.power.bracketed_on.Goals as goal

pub returns-in-41 : goal.returns-in-41
returns-in-41 c =
    let close = byte_is c.byte_at.ensures c.in-41.is in
    on_close c.args.s.now c.args.n c.args.at (byte_found c.args.s.now c.args.at close_bracket (omega arith) close) close c.requires.inside

pub returns-in_err-digits-in-47 : goal.returns-in_err-digits-in-47
returns-in_err-digits-in-47 c =
    rw c.from_residual.ensures (on_slash_no_digits c.args.s.now c.args.n c.args.at (byte_is c.byte_at.ensures c.in-47.is) (rw c.in_err-digits-in-47.was at c.unsigned.ensures))

pub returns-in_ok-digits-in-47 : goal.returns-in_ok-digits-in-47
returns-in_ok-digits-in-47 c =
    on_slash_digits c.args.s.now c.args.n c.args.at (byte_is c.byte_at.ensures c.in-47.is) _ c.requires.inside (rw c.in_ok-digits-in-47.was at c.unsigned.ensures) c.closed.ensures

pub returns-in_default : goal.returns-in_default
returns-in_default c = on_other c.args.s.now c.args.n c.args.at _ (λ e. omega arith) (λ e. omega arith) c.pointed.ensures
