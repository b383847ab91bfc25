-- `rewriting::letters::push_key` meets its contract: no letter, or the last letter after the others.
use native.Mathlib.Omega.{arith}
use Rattle.rewriting.proofs.TextLaws.{writes_nothing, writes_both, writes_as}
use Rattle.rewriting.proofs.LetterLaws.{letters_none, letters_end, letters_more}
use Rattle.rewriting.proofs.letters.+push_key.Goals as goal
use Rattle.rewriting.proofs.letters.+push_key.Goals.{else-most-gt0-via-then-most-gt0+else-key-gt0, else-most-gt0-via-else-most-gt0}

pub returns-then-key-gt0 : goal.returns-then-key-gt0
returns-then-key-gt0 g t c = writes_as (letters_more _ _ (λ e. omega arith) (λ e. omega arith)) (writes_both c.push_key.ensures c.push.ensures)

pub returns-else-most-gt0 : goal.returns-else-most-gt0
returns-else-most-gt0 g t c = elim c.else-most-gt0.branch [
  | else-most-gt0-via-then-most-gt0+else-key-gt0 w ↦ writes_as (letters_end _ _ (omega arith)) writes_nothing
  | else-most-gt0-via-else-most-gt0 w ↦ writes_as (letters_none _ _ (omega arith)) writes_nothing
]
