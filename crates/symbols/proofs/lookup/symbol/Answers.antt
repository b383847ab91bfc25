-- `symbols::lookup::symbol` meets its contract: with a quote or without.
use mathlib.Core.Path.{◌∙◌}
use Rattle.symbols.proofs.SymbolLaws.{symbol_quoted, symbol_plain, letters_quoted, letters_plain}
use Rattle.symbols.proofs.lookup.symbol.Goals as goal

pub returns-then-quote-span-clause-result_value : goal.returns-then-quote-span-clause-result_value
returns-then-quote-span-clause-result_value c =
    c.quoted_symbol.ensures.is ∙ symbol_quoted _ c.requires.1 c.first_quote-quote.ensures c.if-quote-span.true

pub returns-then-quote-span-clause-letters_at : goal.returns-then-quote-span-clause-letters_at
returns-then-quote-span-clause-letters_at c =
    letters_quoted c.args.n c.requires.1 c.first_quote-quote.ensures c.if-quote-span.true _ c.quoted_symbol.ensures.bounded.1

pub returns-clause-result_value : goal.returns-clause-result_value
returns-clause-result_value c =
    c.unquoted_symbol.ensures.is ∙ symbol_plain _ c.requires.1 c.first_quote-quote.ensures c.if-quote-span.false

pub returns-clause-letters_at : goal.returns-clause-letters_at
returns-clause-letters_at c =
    letters_plain c.args.n c.requires.1 c.first_quote-quote.ensures c.if-quote-span.false _ c.unquoted_symbol.ensures.bounded.1
