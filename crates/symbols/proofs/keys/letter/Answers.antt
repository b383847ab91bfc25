-- `symbols::keys::letter` meets its contract: a shift by eight bits for each letter after it.
use native.Mathlib.Omega.{arith}
use mathlib.Core.Path.{sym}
use Rattle.symbols.proofs.PairLaws.{shifted, no_letter}
use Rattle.symbols.proofs.keys.letter.Goals as goal

pub returns-then-after-ge-MOST_LETTERS : goal.returns-then-after-ge-MOST_LETTERS
returns-then-after-ge-MOST_LETTERS c = sym (no_letter _ _ c.if-after-ge-MOST_LETTERS.true (omega arith))

pub returns : goal.returns
returns c = shifted _ _
