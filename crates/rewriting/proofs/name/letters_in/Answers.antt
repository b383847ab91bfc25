-- `rewriting::name::letters_in` meets its contract: more letters than a name has, or letters with a key.
use mathlib.Core.Path.{refl}
use Rattle.symbols.proofs.KeyLaws.{spelled}
use Rattle.rewriting.proofs.NameTable.{own_long, own_spelled}
use Rattle.rewriting.proofs.name.letters_in.Goals as goal

pub returns-then-size-gt-MOST_LETTERS : goal.returns-then-size-gt-MOST_LETTERS
returns-then-size-gt-MOST_LETTERS c = own_long _ _ refl c.if-size-gt-MOST_LETTERS.true

pub returns : goal.returns
returns c = own_spelled (spelled c.type_inv.spelling refl c.key-number.ensures)
