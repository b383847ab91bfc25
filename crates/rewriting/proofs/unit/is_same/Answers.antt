-- `rewriting::unit::is_same` meets its contract: prefixes, units and letters are compared in turn.
use mathlib.Core.Path.{◌∙◌}
use borrow.Author.Tests.{tests}
use borrow.Author.Rules.{rules}
use Rattle.rewriting.proofs.UnitTexts.{other_prefix, known_first, known_second, both_known, both_unknown, same_slices}
use Rattle.rewriting.proofs.unit.is_same.Goals as goal

pub returns-then-ne : goal.returns-then-ne
returns-then-ne c = other_prefix _ _ _ _ (search (rules, tests))

pub returns-in-Known-Known : goal.returns-in-Known-Known
returns-in-Known-Known c = both_known _ _ _ _ (search (rules, tests)) c.in-Known-Known.is-0 c.in-Known-Known.is-1

pub returns-in-Unknown-Unknown : goal.returns-in-Unknown-Unknown
returns-in-Unknown-Unknown c = c.eq.ensures ∙ same_slices _ _ ∙ both_unknown _ _ _ _ (search (rules, tests)) c.in-Unknown-Unknown.is-0 c.in-Unknown-Unknown.is-1

pub returns-in_default : goal.returns-in_default
returns-in_default c = known_first _ _ _ _ c.in_default.is-0 c.in_default.is-1

pub returns-in_default-2 : goal.returns-in_default-2
returns-in_default-2 c = known_second _ _ _ _ c.in_default.is-0 c.in_default.is-1
