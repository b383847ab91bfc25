-- `symbols::lookup::quoted_symbol` meets its contract: the prefix before the quote, and the letters after it.
use Rattle.symbols.specs.Views.{symbol_in}
use Rattle.symbols.proofs.lookup.quoted_symbol.Goals as goal

pub returns-clause-is : goal.returns-clause-is
unfolding symbol_in
returns-clause-is c = rw (c.prefix_named.ensures.is, c.first_quote.ensures.before)
