-- `content::scale::scale` meets its contract. The invariant: the sums are the factor's tens and totals over the terms passed, and small.
use native.Mathlib.Omega.{arith}
use mathlib.Core.Path.{◌≡◌, refl, ap}
use mathlib.Core.List.{[]}
use lib.ListN.{length, length-append}
use Rattle.std.proofs.lemmas.Slice.Zip.{zip_turn, zip_end}
use Rattle.label.specs.Reading.{prime_in}
use Rattle.symbols.specs.Slots.{prime_at}
use Rattle.descent.specs.declared.terms.Term.{Term}
use Rattle.descent.specs.Terms.{terms}
use Rattle.content.specs.Views.{terms_in}
use Rattle.content.proofs.Turns.{Turn, turn, turns}
use Rattle.content.proofs.TotalLaws.{no_totals, one_total, tens_are, tens_within, summable, bound_more, same_totals, scale_is}
use Rattle.content.proofs.scale.scale.Goals as goal

pub loop-term-init : goal.loop-term-init
unfolding terms_in
loop-term-init c = record {
  small = rw c.requires.1 (tens_within c.in_sixtieths-tens.result c.in_sixtieths-tens.ensures.1);
  totals = λ s. rw c.requires.1 (no_totals (λ b. prime_in (prime_at b)) _);
}

pub add_primes-requires : goal.add_primes-requires
add_primes-requires c =
    let t = c.args.terms.now in
    let x = c.args.symbols.now in
    let i = length c.loop-term.yielded in
    let at : Turn t x c.args.count i c.in-Some.term.now c.in-Some.symbol.now =
    turn t x c.args.count i
    (zip_turn (terms t c.args.count) x c.loop-term.yielded c.into_iter-term-iterator.result c.loop-term.term-iterator c.next.new.self c.next.result
    (cc) (cc) c.loop-term.yielded_by _ c.in-Some.is c.next.ensures.steps) in
    summable i (c.loop-term.invariant.totals []).room (omega arith) c.loop-term.invariant.small

pub loop-term-preserved : goal.loop-term-preserved
loop-term-preserved c =
    let t = c.args.terms.now in
    let x = c.args.symbols.now in
    let i = length c.loop-term.yielded in
    let at : Turn t x c.args.count i c.in-Some.term.now c.in-Some.symbol.now =
    turn t x c.args.count i
    (zip_turn (terms t c.args.count) x c.loop-term.yielded c.into_iter-term-iterator.result c.loop-term.term-iterator c.next.new.self c.next.result
    (cc) (cc) c.loop-term.yielded_by _ c.in-Some.is c.next.ensures.steps) in
    let more = bound_more i c.loop-term.invariant.small (c.add_primes.ensures []) in
    rw length-append (record {
      small = more;
      totals = λ s. one_total s t x i at.symbol (ap (λ (a : Term). a.exponent) at.term) (c.loop-term.invariant.totals s) (c.add_primes.ensures s);
    })

pub returns : goal.returns
returns c =
    let k = c.args.k in
    let t = c.args.terms.now in
    let x = c.args.symbols.now in
    let i = length c.loop-term.yielded in
    let room : length (terms t c.args.count) ≡ c.args.count = omega arith in
    let e : i ≡ c.args.count =
    turns t x c.args.count i
    (zip_end (terms t c.args.count) x c.loop-term.yielded c.into_iter-term-iterator.result c.loop-term.term-iterator c.next.new.self c.next.result
    (cc) (cc) c.loop-term.yielded_by c.in-None.is c.next.ensures.steps) room (omega arith) in
    let starts = tens_are c.in_sixtieths-tens.result c.in_sixtieths-tens.ensures.1 k c.in_sixtieths-tens.ensures.0 in
    ((c.loop-term.invariant.totals []).room, λ s u h. rw e at (scale_is k (terms_in s u x i) _ c.loop-term.sums refl starts (same_totals s t u x i (rw e h) (c.loop-term.invariant.totals s))))
