-- `words::spoken_terms::say_label` meets its contract: the factor, and each turn of the loop one term more.
use native.Mathlib.Omega.{arith}
use borrow.Author.Rules.{rules}
use mathlib.Core.Path.{◌≡◌, ap}
use Prim.Native.Nat.{◌<◌}
use lib.ListN.{length, length-append}
use Rattle.std.proofs.lemmas.List.{length-take}
use Rattle.std.proofs.lemmas.Slice.Zip.{zip_turn, zip_end}
use Rattle.descent.specs.declared.terms.Term.{Term}
use Rattle.descent.specs.Terms.{count, terms}
use Rattle.content.proofs.Turns.{Turn, turn, turns}
use Rattle.rewriting.specs.Units.{LettersInside}
use Rattle.words.proofs.TermWords.{no_term_said, term_next, all_said}
use Rattle.words.proofs.spoken_terms.say_label.Goals as goal

pub loop-term-init : goal.loop-term-init
loop-term-init g c = no_term_said

pub loop-term-preserved : goal.loop-term-preserved
loop-term-preserved g c =
    let t = c.args.content.now.terms in
    let x = c.args.content.now.symbols in
    let i = length c.loop-term.yielded in
    let at : Turn t x (count t) i c.in-Some.term.now c.in-Some.symbol.now =
    turn t x (count t) i
    (zip_turn (terms t (count t)) x c.loop-term.yielded c.into_iter-term-iterator.result c.loop-term.term-iterator c.next.new.self c.next.result
    (cc) (cc) c.loop-term.yielded_by _ c.in-Some.is c.next.ensures.steps) in
    rw length-append
    (term_next c.loop-term.invariant at.symbol c.say_symbol.ensures (rw (← ap (λ (a : Term). a.exponent) at.term) c.say_exponent.ensures))

pub say_symbol-requires : goal.say_symbol-requires
say_symbol-requires g c =
    let t = c.args.content.now.terms in
    let x = c.args.content.now.symbols in
    let i = length c.loop-term.yielded in
    let at : Turn t x (count t) i c.in-Some.term.now c.in-Some.symbol.now =
    turn t x (count t) i
    (zip_turn (terms t (count t)) x c.loop-term.yielded c.into_iter-term-iterator.result c.loop-term.term-iterator c.next.new.self c.next.result
    (cc) (cc) c.loop-term.yielded_by _ c.in-Some.is c.next.ensures.steps) in
    let h : i < count t = omega (arith, at.below, length-take (count t) t.items) in
    let w : LettersInside c.args.s.now c.in-Some.symbol.now = rw at.symbol (c.requires.terms i h).letters in
    search rules

pub returns : goal.returns
returns g c =
    let t = c.args.content.now.terms in
    let x = c.args.content.now.symbols in
    let i = length c.loop-term.yielded in
    let room : length (terms t (count t)) ≡ count t = omega (arith, length-take (count t) t.items, c.requires.few) in
    let names : length x ≡ 32 = search rules in
    let e : i ≡ count t =
    turns t x (count t) i
    (zip_end (terms t (count t)) x c.loop-term.yielded c.into_iter-term-iterator.result c.loop-term.term-iterator c.next.new.self c.next.result
    (cc) (cc) c.loop-term.yielded_by c.in-None.is c.next.ensures.steps) room (omega (arith, c.requires.few)) in
    rw (← c.clear.ensures) (all_said c.loop-term.invariant _ c.say_factor.ensures (omega arith))
