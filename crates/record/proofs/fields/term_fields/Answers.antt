-- `record::fields::term_fields` meets its contract.
use Rattle.descent.specs.Terms.{term_at}
use native.Mathlib.Omega.{arith}
use borrow.Author.Rules.{rules}
use mir.Syntax.{w32}
use mir.Val.{SFits}
use Rattle.std.proofs.lemmas.List.{get_or_default}
use Rattle.record.proofs.Fielding.{term_is}
use Rattle.record.proofs.fields.term_fields.Goals as goal

pub returns-clause-by_index : goal.returns-clause-by_index
returns-clause-by_index c =
    let exponent_fits : SFits w32 (term_at c.args.content.now.terms c.args.i).exponent.0 = record { sfits = search rules } in
    term_is c.requires.1 _ _ (get_or_default c.args.content.now.symbols c.args.i _ _ (omega arith)) c.code.ensures c.code-2.ensures c.known_row.ensures
    c.from.ensures exponent_fits c.letter_span-letters.ensures
