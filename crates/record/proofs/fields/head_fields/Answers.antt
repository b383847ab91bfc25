-- `record::fields::head_fields` meets its contract.
use native.Mathlib.Omega.{arith}
use mir.Syntax.{w32}
use mir.Val.{SFits}
use Rattle.record.proofs.Fielding.{widened, head_is}
use Rattle.record.proofs.fields.head_fields.Goals as goal

pub overflow_cast-result-2 : goal.overflow_cast-result-2
overflow_cast-result-2 c =
    let tens_fit : SFits w32 c.args.a.k.0 = record { sfits = omega arith } in
    widened tens_fit

pub returns : goal.returns
returns c =
    let tens_fit : SFits w32 c.args.a.k.0 = record { sfits = omega arith } in
    let a = c.args.a in
    head_is c.args.number a.k a.verdicts.known a.verdicts.lawful a.verdicts.recommended c.args.count (omega arith) tens_fit c.requires
    c.flag-known.ensures c.flag-lawful.ensures c.flag-recommended.ensures
