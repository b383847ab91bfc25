-- `notations::rows::notation_named` meets its contract: the place of a name tells its number.
use mathlib.Core.Path.{refl}
use borrow.Author.Rules.{rules}
use borrow.Author.Tests.{tests}
use Rattle.std.proofs.lemmas.Iterator.{YieldsList-from_slice}
use Rattle.std.proofs.lemmas.Iterator.Search.{position_from_yields_List}
use Rattle.std.specs.Str.{bytes_eq}
use Rattle.label.specs.Bytes.{bytes}
use Rattle.label.specs.Rows.{named}
use Rattle.notations.proofs.NameLaws.{rows, by_place}
use Rattle.notations.proofs.rows.notation_named.Goals as goal

pub returns-in_err-place : goal.returns-in_err-place
unfolding named rows bytes
returns-in_err-place c =
    let e = position_from_yields_List (λ x. bytes_eq c.args.name.now x.now) _ _ _ c.position.ensures.ran (YieldsList-from_slice _ c.iter.ensures.rest) (λ x b q k. search (rules, tests)) in
    rw c.from_residual.ensures ((by_place c.iter.ensures.rest refl e).missing c.in_err-place.was)

pub returns : goal.returns
unfolding named rows bytes
returns c =
    let e = position_from_yields_List (λ x. bytes_eq c.args.name.now x.now) _ _ _ c.position.ensures.ran (YieldsList-from_slice _ c.iter.ensures.rest) (λ x b q k. search (rules, tests)) in
    (by_place c.iter.ensures.rest refl e).found c.in_ok-place.was
