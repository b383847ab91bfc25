-- `scan::run::run` meets its contract: its search ends where the run ends.
use Rattle.std.proofs.Common.{Some, None, not, rules, sym, tests, ◌∙◌}
use Rattle.std.proofs.lemmas.Iterator.{YieldsList-from_slice}
use Rattle.std.proofs.lemmas.Iterator.Search.{position_from_yields_List}
use Rattle.scan.proofs.Scanning.{ends}
use Rattle.scan.proofs.run.run.Goals as goal

pub returns-in-Some : goal.returns-in-Some
returns-in-Some g c p d =
    ends p c.args.s.now c.args.at c.requires.at_in_bounds (Some c.in-Some.n)
    (sym c.in-Some.is ∙ position_from_yields_List (λ x. not (p x)) _ _ c.position.result c.position.ensures.ran (YieldsList-from_slice _ c.iter.ensures.rest) (λ x b q k. search (rules, tests, d)))

pub returns : goal.returns
returns g c p d =
    ends p c.args.s.now c.args.at c.requires.at_in_bounds None
    (sym c.in-None.is ∙ position_from_yields_List (λ x. not (p x)) _ _ c.position.result c.position.ensures.ran (YieldsList-from_slice _ c.iter.ensures.rest) (λ x b q k. search (rules, tests, d)))
