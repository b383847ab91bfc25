-- `lines::line::split_field` meets its contract: with a tab, and without one.
use mathlib.Core.Path.{refl}
use Rattle.label.specs.Bytes.{tab}
use Rattle.lines.proofs.Lines.{place_found, place_missing, parted, not_parted}
use Rattle.lines.proofs.line.split_field.Goals as goal

pub returns-in_default-clause-err : goal.returns-in_default-clause-err
returns-in_default-clause-err c = (refl, not_parted c.args.s.now (place_missing tab c.args.s.now c.place_of.ensures (search c.in_default.is)))

pub returns-clause-ok : goal.returns-clause-ok
returns-clause-ok c = parted c.args.s.now (place_found tab c.args.s.now c.in-Some.end c.place_of.ensures c.in-Some.is)
