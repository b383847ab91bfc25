-- `rewriting::name::own_place` meets its contract: the first place of a name with those letters.
use mathlib.Core.Path.{◌≡◌}
use mathlib.Core.Bool.{true, false}
use Prim.Native.Nat.{ℕ}
use borrow.Author.Rules.{rules}
use borrow.Author.Tests.{tests}
use Rattle.rewriting.specs.Names.{entry, entry_name, is_named}
use Rattle.std.proofs.lemmas.Iterator.{first_from_Range}
use Rattle.rewriting.proofs.NameTable.{first_place, own_answer, own_this, own_later, own_none}
use Rattle.rewriting.proofs.name.own_place.Goals as goal

pub returns-clause-by_index : goal.returns-clause-by_index
returns-clause-by_index c = λ l o.
    let n = c.args.n in
    let yes = λ (i : ℕ). is_named n l (entry_name (entry i)) ≡ true in
    let no = λ (i : ℕ). is_named n l (entry_name (entry i)) ≡ false in
    (first_place (own_answer n l) c.args.names c.requires yes no (λ i ys. own_this n l i ys) (λ i ys. own_later n l i ys) (own_none n l) c.find.result
    (first_from_Range _ _ _ _ yes no c.find.ensures.ran (λ x q k. search (rules, tests)) (λ x q k. search (rules, tests)))).0
