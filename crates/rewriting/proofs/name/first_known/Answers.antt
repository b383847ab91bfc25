-- `rewriting::name::first_known` meets its contract: the first place of a known name.
use mathlib.Core.Path.{◌≡◌}
use mathlib.Core.Bool.{true, false}
use Prim.Native.Nat.{ℕ}
use borrow.Author.Rules.{rules}
use borrow.Author.Tests.{tests}
use Rattle.label.specs.Notations.{member}
use Rattle.label.specs.Writing.{name_among}
use Rattle.rewriting.specs.Names.{entry}
use Rattle.std.proofs.lemmas.Iterator.{first_from_Range}
use Rattle.rewriting.proofs.NameTable.{first_place, among_this, among_later, among_none}
use Rattle.rewriting.proofs.name.first_known.Goals as goal

pub returns : goal.returns
returns c =
    let n = c.args.n in
    let yes = λ (i : ℕ). member n (entry i).known_in ≡ true in
    let no = λ (i : ℕ). member n (entry i).known_in ≡ false in
    first_place (name_among n) c.args.names c.requires yes no (λ i ys. among_this n _ ys) (λ i ys. among_later n _ ys) (among_none n) c.find.result
    (first_from_Range _ _ _ _ yes no c.find.ensures.ran (λ x q k. search (rules, tests)) (λ x q k. search (rules, tests)))
