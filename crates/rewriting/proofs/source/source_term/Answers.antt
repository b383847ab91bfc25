-- `rewriting::source::source_term` meets its contract.
use Rattle.rewriting.proofs.LabelTexts.{term_is}
use Rattle.rewriting.proofs.source.source_term.Goals as goal

pub returns : goal.returns
returns c = term_is c.code_of-code.ensures c.min.ensures c.letters_in-own.ensures
