-- `symbols::keys::first_quote` meets its contract: a quote is searched.
use Rattle.symbols.proofs.Quotes.{found}
use Rattle.symbols.proofs.keys.first_quote.Goals as goal

pub returns : goal.returns
returns c = found c.find.ensures.is c.find.ensures.within
