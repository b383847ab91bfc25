-- `rewriting::name::first_name` meets its contract: each run of rows is computed from the table of units.
use Prim.Native.Nat.{◌+◌, ◌-◌}
use native.Mathlib.Omega.{arith}
use mathlib.Core.Path.{refl}
use borrow.Author.Rules.{rules}
use Rattle.symbols.specs.Columns.{unit_count}
use Rattle.rewriting.proofs.NameTable.{rows_compute, first_in_row}
use Rattle.rewriting.proofs.name.first_name.Goals as goal

pub overflow_add-result : goal.overflow_add-result
unfolding rows_compute
overflow_add-result c = search rules

pub overflow_add-result-in-27-to-38 : goal.overflow_add-result-in-27-to-38
unfolding rows_compute
overflow_add-result-in-27-to-38 c = search rules

pub overflow_add-result-in-40-to-47 : goal.overflow_add-result-in-40-to-47
unfolding rows_compute
overflow_add-result-in-40-to-47 c = search rules

pub overflow_add-result-in-48-to-51 : goal.overflow_add-result-in-48-to-51
unfolding rows_compute
overflow_add-result-in-48-to-51 c = search rules

pub overflow_add-result-in-52-to-59 : goal.overflow_add-result-in-52-to-59
unfolding rows_compute
overflow_add-result-in-52-to-59 c = search rules

pub overflow_add-result-in_default : goal.overflow_add-result-in_default
unfolding rows_compute
overflow_add-result-in_default c = search rules

pub returns-in-39 : goal.returns-in-39
unfolding rows_compute
returns-in-39 c = first_in_row 39 1 2 refl _ (omega (arith, c.in-39.is)) (omega (arith, c.in-39.is))

pub returns-in-0-to-26 : goal.returns-in-0-to-26
unfolding rows_compute
returns-in-0-to-26 c = omega (arith, first_in_row 0 27 0 refl c.args.unit (omega arith) (omega arith))

pub returns-in-27-to-38 : goal.returns-in-27-to-38
unfolding rows_compute
returns-in-27-to-38 c = first_in_row 27 12 1 refl _ (omega arith) (omega arith)

pub returns-in-40-to-47 : goal.returns-in-40-to-47
unfolding rows_compute
returns-in-40-to-47 c = first_in_row 40 8 3 refl _ (omega arith) (omega arith)

pub returns-in-48-to-51 : goal.returns-in-48-to-51
unfolding rows_compute
returns-in-48-to-51 c = first_in_row 48 4 4 refl _ (omega arith) (omega arith)

pub returns-in-52-to-59 : goal.returns-in-52-to-59
unfolding rows_compute
returns-in-52-to-59 c = first_in_row 52 8 5 refl _ (omega arith) (omega arith)

pub returns-in_default : goal.returns-in_default
unfolding rows_compute
returns-in_default c = first_in_row 60 (unit_count + 1 - 60) 7 refl _ (omega arith) (omega arith)
