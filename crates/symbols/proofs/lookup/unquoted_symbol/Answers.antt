-- `symbols::lookup::unquoted_symbol` meets its contract: the whole first, then the cuts.
use mathlib.Core.Path.{◌∙◌}
use Rattle.symbols.specs.Views.{symbol_in}
use Rattle.symbols.proofs.SymbolLaws.{whole_known, whole_other}
use Rattle.symbols.proofs.lookup.unquoted_symbol.Goals as goal

pub returns-in-Some-clause-is : goal.returns-in-Some-clause-is
unfolding symbol_in
returns-in-Some-clause-is c = whole_known _ _ c.in-Some.ensures.is

pub returns-in-None-clause-is : goal.returns-in-None-clause-is
returns-in-None-clause-is c = c.by_cut.ensures.is ∙ whole_other _ _ c.in-None.ensures.is
