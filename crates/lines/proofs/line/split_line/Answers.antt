-- `lines::line::split_line` meets its contract: each way a line is malformed, and four fields. The check finds that a line is too long.
use mathlib.Core.Path.{refl}
use Rattle.label.specs.Bytes.{tab}
use Rattle.lines.proofs.Lines.{some_place, no_place, not_parted, one_field, two_fields, three_fields, five_fields, four_fields}
use Rattle.std.proofs.lemmas.Result.{err_from_is_err_and}
use Rattle.lines.proofs.line.split_line.Goals as goal

pub returns-in_err-id-clause-err : goal.returns-in_err-id-clause-err
returns-in_err-id-clause-err c =
    let p = err_from_is_err_and c.from_residual.result c.from_residual.ensures.1 in
    rw (p.1, p.2) (c.in_err-id.ensures.err.0, one_field c.args.line.now c.in_err-id.ensures.err.1)

pub returns-in_err-source-clause-err : goal.returns-in_err-source-clause-err
returns-in_err-source-clause-err c =
    let p = err_from_is_err_and c.from_residual-in_err-source.result c.from_residual-in_err-source.ensures.1 in
    rw (p.1, p.2) (c.in_err-source.ensures.err.0, two_fields c.args.line.now c.in_ok-id.ensures.ok c.in_err-source.ensures.err.1)

pub returns-in_err-text-clause-err : goal.returns-in_err-text-clause-err
returns-in_err-text-clause-err c =
    let p = err_from_is_err_and c.from_residual-in_err-text.result c.from_residual-in_err-text.ensures.1 in
    rw (p.1, p.2) (c.in_err-text.ensures.err.0, three_fields c.args.line.now c.in_ok-id.ensures.ok c.in_ok-source.ensures.ok c.in_err-text.ensures.err.1)

pub returns-then-is_some-clause-err : goal.returns-then-is_some-clause-err
returns-then-is_some-clause-err c =
    (refl, five_fields c.args.line.now c.in_ok-id.ensures.ok c.in_ok-source.ensures.ok c.in_ok-text.ensures.ok (some_place tab c.in_ok-text.target.now c.place_of.ensures c.is_some.ensures c.if-is_some.true))

pub returns-clause-ok : goal.returns-clause-ok
returns-clause-ok c =
    four_fields c.args.line.now c.in_ok-id.ensures.ok c.in_ok-source.ensures.ok c.in_ok-text.ensures.ok c.if-line-gt-MOST_LINE.false
    (not_parted c.in_ok-text.target.now (no_place tab c.in_ok-text.target.now c.place_of.ensures c.is_some.ensures c.if-is_some.false))
