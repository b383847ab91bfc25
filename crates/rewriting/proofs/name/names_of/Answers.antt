-- `rewriting::name::names_of` meets its contract: past the table, and in it.
use native.Mathlib.Omega.{arith}
use Rattle.rewriting.proofs.NameTable.{unit_names, no_unit_names}
use Rattle.rewriting.proofs.name.names_of.Goals as goal

pub returns-then-unit-ge-UNITS : goal.returns-then-unit-ge-UNITS
returns-then-unit-ge-UNITS c = no_unit_names _ c.if-unit-ge-UNITS.true

pub returns : goal.returns
returns c = unit_names _ (omega arith) _ _ c.first_name-first.ensures c.first_name-end.ensures
