-- `rewriting::name::is_known` meets its contract.
use mathlib.Core.Path.{◌∙◌}
use Rattle.rewriting.proofs.NameTable.{is_known}
use Rattle.rewriting.proofs.name.is_known.Goals as goal

pub returns : goal.returns
returns c = c.has_notation.ensures ∙ is_known _ _ c.nth_name.ensures
