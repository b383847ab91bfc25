-- `rewriting::name::name_in` meets its contract: its own name, or else another.
use borrow.Author.Rules.{rules}
use Rattle.rewriting.proofs.NameTable.{takes}
use Rattle.rewriting.proofs.name.name_in.Goals as goal

pub returns-clause-by_index : goal.returns-clause-by_index
returns-clause-by_index c = λ l o. takes _ l _ _ _ (c.own_place-place.ensures.by_index l o) c.or_else.ensures (λ p. search rules)
