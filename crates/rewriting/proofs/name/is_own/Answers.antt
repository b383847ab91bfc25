-- `rewriting::name::is_own` meets its contract.
use mathlib.Core.Path.{◌∙◌}
use Rattle.rewriting.proofs.NameTable.{is_own}
use Rattle.rewriting.proofs.name.is_own.Goals as goal

pub returns : goal.returns
returns c = λ l o. c.is_name.ensures ∙ is_own _ _ c.nth_name.ensures o
