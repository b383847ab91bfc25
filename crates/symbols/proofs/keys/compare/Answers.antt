-- `symbols::keys::compare` meets its contract: each way through it is one of `PairLaws`.
use native.Mathlib.Omega.{arith}
use mathlib.Core.Path.{sym, ◌∙◌}
use Rattle.symbols.proofs.PairLaws.{sizes_differ, same_start, same_pair, first_difference, no_difference}
use Rattle.symbols.proofs.keys.compare.Goals as goal

pub returns-then-size-symbol_size : goal.returns-then-size-symbol_size
returns-then-size-symbol_size c =
    let all = sizes_differ c.args.size c.args.number c.args.symbol_size c.args.symbol_number (λ e. absurd (omega arith)) in
    record { equal_value = all.0; pairs_value = all.1 }

pub loop-pairs-init : goal.loop-pairs-init
loop-pairs-init c = same_start _ _ _ _ (omega arith)

pub returns-then-letter : goal.returns-then-letter
returns-then-letter c =
    let all = first_difference c.loop-pairs.invariant c.loop-pairs-test.true
    (λ e. c.if-letter.true (c.letter.ensures ∙ e ∙ sym c.letter-in-loop-pairs.ensures)) in
    record { equal_value = all.0; pairs_value = all.1 }

pub loop-pairs-preserved : goal.loop-pairs-preserved
loop-pairs-preserved c =
    same_pair c.loop-pairs.invariant c.loop-pairs-test.true
    (sym c.letter.ensures ∙ c.if-letter.false ∙ c.letter-in-loop-pairs.ensures)

pub returns : goal.returns
returns c =
    let all = no_difference c.loop-pairs.invariant c.loop-pairs-test.false in
    record { equal_value = all.0; pairs_value = all.1 }
