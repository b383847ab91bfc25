-- `rewriting::unit::code_of` meets its contract: one of the table, one past it, or none.
use Rattle.rewriting.proofs.NameTable.{no_prefix, prefix_coded, prefix_uncoded}
use Rattle.rewriting.proofs.unit.code_of.Goals as goal

pub returns-in-Some : goal.returns-in-Some
returns-in-Some c = rw (c.in-Some.is, c.prefix_code.ensures) (prefix_coded _)

pub returns-in_default : goal.returns-in_default
returns-in_default c = rw c.in-Some.is (prefix_uncoded _ c.if-place-lt-PREFIXES.false)

pub returns-in_default-2 : goal.returns-in_default-2
returns-in_default-2 c = rw c.in_default.is no_prefix
