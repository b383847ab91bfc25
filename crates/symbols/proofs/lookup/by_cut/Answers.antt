-- `symbols::lookup::by_cut` meets its contract: each answer is one of `SymbolLaws`.
use mathlib.Core.Path.{sym, ◌∙◌}
use Rattle.symbols.specs.Views.{symbol_in}
use Rattle.symbols.proofs.SymbolLaws.{first_known, second_known, unknown_cut, unknown_whole, known_bounded}
use Rattle.symbols.proofs.lookup.by_cut.Goals as goal

pub returns-in-Some-clause-is : goal.returns-in-Some-clause-is
returns-in-Some-clause-is c = first_known _ c.cut-two.ensures c.in-Some.ensures

pub returns-in-Some-clause-bounded : goal.returns-in-Some-clause-bounded
returns-in-Some-clause-bounded c = known_bounded _ _ c.in-Some.ensures

pub returns-in-Some-known_cut-clause-is : goal.returns-in-Some-known_cut-clause-is
returns-in-Some-known_cut-clause-is c =
    second_known _ c.cut-two.ensures c.in_default.ensures c.cut-one.ensures c.in-Some-known_cut.ensures

pub returns-in-Some-known_cut-clause-bounded : goal.returns-in-Some-known_cut-clause-bounded
returns-in-Some-known_cut-clause-bounded c = known_bounded _ _ c.in-Some-known_cut.ensures

pub returns-in-Some-or-clause-is : goal.returns-in-Some-or-clause-is
unfolding symbol_in
returns-in-Some-or-clause-is c =
    unknown_cut _ c.cut-two.ensures c.in_default.ensures c.cut-one.ensures c.in_default-known_cut.ensures
    (sym c.or.ensures ∙ c.in-Some-or.is)

pub returns-in-None-clause-is : goal.returns-in-None-clause-is
unfolding symbol_in
returns-in-None-clause-is c =
    unknown_whole _ c.cut-two.ensures c.in_default.ensures c.cut-one.ensures c.in_default-known_cut.ensures
    (sym c.or.ensures ∙ c.in-None.is)
