-- `slices::find` meets its contract: its search is the library's.
use Rattle.std.proofs.Common.{◌≡◌, ◌+◌, ap, arith, eqb, rules, sym, tests, ◌∙◌}
use Rattle.std.specs.List.{position}
use Rattle.std.proofs.lemmas.Iterator.{YieldsList-from_slice}
use Rattle.std.proofs.lemmas.Iterator.Search.{position_from_yields_List}
use Rattle.slices.specs.Slices.{slice}
use Rattle.slices.proofs.Finding.{found, missed, length_slice}
use Rattle.slices.proofs.find.Goals as goal

pub returns-in-Some-clause-is : goal.returns-in-Some-clause-is
unfolding slice
returns-in-Some-clause-is c =
    let e : c.position.result ≡ position (λ d. eqb d c.args.byte) (slice c.args.start c.args.end c.args.s.now) = position_from_yields_List (λ d. eqb d c.args.byte) _ _ c.position.result c.position.ensures.ran (YieldsList-from_slice _ c.iter.ensures.rest) (λ x b q k. search (rules, tests)) in
    ap (λ n. c.args.start + n) (found c.args.byte _ c.in-Some.i (sym e ∙ c.in-Some.is))

pub returns-in-None-clause-is : goal.returns-in-None-clause-is
unfolding slice
returns-in-None-clause-is c =
    let e : c.position.result ≡ position (λ d. eqb d c.args.byte) (slice c.args.start c.args.end c.args.s.now) = position_from_yields_List (λ d. eqb d c.args.byte) _ _ c.position.result c.position.ensures.ran (YieldsList-from_slice _ c.iter.ensures.rest) (λ x b q k. search (rules, tests)) in
    let m = missed c.args.byte (slice c.args.start c.args.end c.args.s.now) (sym e ∙ c.in-None.is) in
    omega (arith, m, length_slice c.args.start c.args.end c.args.s.now c.requires.end_within)
