-- `conversion::convert::convert` meets its contract: the first label refused, the second, and both accepted.
use Rattle.std.proofs.Common.{◌≡◌, ◌∙◌, ◌&&◌}
use Rattle.std.proofs.lemmas.Result.{err_from_is_err_and}
use Rattle.conversion.proofs.Converting.{first_refused, second_refused, both_accepted}
use Rattle.conversion.proofs.convert.convert.Goals as goal
use Rattle.conversion.proofs.convert.convert.Goals.{then-a, else-a}

pub returns-in_err-a : goal.returns-in_err-a
returns-in_err-a c =
    let p = err_from_is_err_and c.from_residual.result c.from_residual.ensures.1 in
    rw (p.1, p.2) (first_refused c.args.first c.args.s.now c.args.second c.args.t.now _ c.in_err-a.ensures)

pub returns-in_err-b : goal.returns-in_err-b
returns-in_err-b c =
    let p = err_from_is_err_and c.from_residual-in_err-b.result c.from_residual-in_err-b.ensures.1 in
    rw (p.1, p.2) (second_refused c.args.first c.args.s.now c.args.second c.args.t.now c.in_ok-a.ensures _ c.in_err-b.ensures)

pub returns : goal.returns
returns c =
    let known : c.if-a.known ≡ (c.in_ok-a.a.verdicts.known && c.in_ok-b.b.verdicts.known) =
    elim c.if-a.branch [ then-a w ↦ rw w.if-a.true w.known-is | else-a w ↦ rw w.if-a.false (w.known-is ∙ w.if-a.false) ] in
    both_accepted c.args.first c.args.s.now c.args.second c.args.t.now c.in_ok-a.ensures c.in_ok-b.ensures known c.convert_sums.ensures
