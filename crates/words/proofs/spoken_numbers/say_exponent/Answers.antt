-- `words::spoken_numbers::say_exponent` meets its contract: nothing, or the exponent in lowest terms.
use native.Mathlib.Omega.{arith}
use mathlib.Core.Path.{ap, ◌∙◌}
use lib.IntN.{nat_abs}
use mir.Syntax.{w32}
use mir.Val.{SFits}
use mir.Facts.{to_z-of_z}
use borrow.Author.Tests.{eq-eqb, ne_eqb}
use Rattle.label.specs.Bytes.{bytes}
use Rattle.rewriting.proofs.NumberLaws.{is_below}
use Rattle.words.proofs.SpeechLaws.{no_words, more_words, words_as}
use Rattle.words.proofs.NumberWords.{exponent_unsaid, exponent_said}
use Rattle.words.proofs.spoken_numbers.say_exponent.Goals as goal
use Rattle.words.proofs.spoken_numbers.say_exponent.Goals.{else-not-negative-via-then-not-negative+else-sixtieths-eq-PARTS_OF_ONE, else-not-negative-via-else-not-negative}

pub returns-then-sixtieths-eq-PARTS_OF_ONE : goal.returns-then-sixtieths-eq-PARTS_OF_ONE
returns-then-sixtieths-eq-PARTS_OF_ONE g c =
    let fits : SFits w32 c.args.exponent.0 = record { sfits = omega arith } in
    let size = c.from-sixtieths.ensures ∙ c.unsigned_abs.ensures.value ∙ ap nat_abs (to_z-of_z fits) in
    words_as (exponent_unsaid _ size (is_below fits) (rw c.if-not-negative.true (eq-eqb _ 60 c.if-sixtieths-eq-PARTS_OF_ONE.true))) no_words

pub returns : goal.returns
unfolding bytes
returns g c =
    let fits : SFits w32 c.args.exponent.0 = record { sfits = omega arith } in
    let size = c.from-sixtieths.ensures ∙ c.unsigned_abs.ensures.value ∙ ap nat_abs (to_z-of_z fits) in
    words_as (exponent_said _ size (is_below fits) (elim c.else-not-negative.branch [
      | else-not-negative-via-then-not-negative+else-sixtieths-eq-PARTS_OF_ONE w ↦ rw w.if-not-negative.true (ne_eqb _ 60 w.if-sixtieths-eq-PARTS_OF_ONE.false)
      | else-not-negative-via-else-not-negative w ↦ rw w.if-not-negative.false
    ]) c.denominator-d.ensures.0)
    (more_words c.say_to_the.ensures (more_words c.say_integer.ensures c.say_over.ensures))
