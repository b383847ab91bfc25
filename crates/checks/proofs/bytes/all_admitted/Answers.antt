-- `checks::bytes::all_admitted` meets its contract: what `all` answers of a list is what the definition says of it.
use Rattle.std.proofs.Common.{rules, tests}
use Rattle.std.proofs.lemmas.Iterator.{YieldsList-from_slice}
use mathlib.Core.Path.{◌∙◌}
use Rattle.std.proofs.lemmas.Iterator.Search.{all_from_yields_List}
use Rattle.label.specs.Bytes.{admitted}
use Rattle.checks.proofs.Admitted.{all_told}
use Rattle.checks.proofs.bytes.all_admitted.Goals as goal

pub returns : goal.returns
unfolding admitted
returns c =
    all_from_yields_List admitted _ _ c.all.result c.all.ensures.ran (YieldsList-from_slice c.args.s.now cc) (λ x b q k. search (rules, tests))
    ∙ all_told admitted c.args.s.now
