-- `rewriting::rewrite::write` meets its contract: a refusal of the target, no form, a text that is too long, or what is delivered.
use native.Mathlib.Omega.{arith}
use mathlib.Core.Path.{refl, sym, ◌∙◌}
use Rattle.std.proofs.lemmas.Option.{MatchOption-at_some, MatchOption-at_none}
use Rattle.std.proofs.lemmas.Result.{err_from_is_err_and}
use Rattle.label.specs.declared.Refusal.TheVariants.{NoNotation, NoForm, LongResult}
use Rattle.notations.proofs.Numbers.{in_range}
use Rattle.rewriting.proofs.Delivering.{refused, refusal_is, delivers_as, not_wanted, formless_is, long_is, text_is}
use Rattle.rewriting.proofs.rewrite.write.Goals as goal

pub returns-then-not-is_notation : goal.returns-then-not-is_notation
returns-then-not-is_notation c = refused NoNotation (not_wanted _ _ (sym c.is_notation.ensures ∙ c.if-not-is_notation.true))

pub overflow_cast-m : goal.overflow_cast-m
overflow_cast-m c = omega (arith, (in_range _ (sym c.is_notation.ensures ∙ c.if-not-is_notation.false)).most)

pub returns-in_err-ok_or : goal.returns-in_err-ok_or
returns-in_err-ok_or c =
    let target = sym c.is_notation.ensures ∙ c.if-not-is_notation.false in
    let p = err_from_is_err_and c.from_residual.result c.from_residual.ensures.1 in
    let none = c.in_err-ok_or.ensures.ok_part in
    rw (p.1, p.2, refusal_is _ NoForm _ none c.in_err-ok_or.ensures.value)
    (refused NoForm (formless_is c.style_of-style.ensures target _ _ (MatchOption-at_none _ _ none c.push_label.ensures).formless))

pub returns-in_default : goal.returns-in_default
returns-in_default c =
    let target = sym c.is_notation.ensures ∙ c.if-not-is_notation.false in
    let form = MatchOption-at_some _ _ _ c.in_ok-ok_or.ensures.ok_part c.push_label.ensures in
    refused LongResult (long_is c.style_of-style.ensures target _ _ refl form (rw c.in_default.is at c.written.ensures))

pub deliver-requires : goal.deliver-requires
deliver-requires c =
    let target = sym c.is_notation.ensures ∙ c.if-not-is_notation.false in
    let form = MatchOption-at_some _ _ _ c.in_ok-ok_or.ensures.ok_part c.push_label.ensures in
    let text = rw c.in-Ok.is at c.written.ensures in
    omega (arith, (text_is c.style_of-style.ensures target _ _ refl form _ text).1)

pub returns : goal.returns
returns c =
    let target = sym c.is_notation.ensures ∙ c.if-not-is_notation.false in
    let form = MatchOption-at_some _ _ _ c.in_ok-ok_or.ensures.ok_part c.push_label.ensures in
    let text = rw c.in-Ok.is at c.written.ensures in
    delivers_as (text_is c.style_of-style.ensures target _ _ refl form _ text).0 c.deliver.ensures
