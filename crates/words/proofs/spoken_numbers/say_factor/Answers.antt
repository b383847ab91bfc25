-- `words::spoken_numbers::say_factor` meets its contract: nothing, or ten to the k.
use native.Mathlib.Omega.{arith}
use mathlib.Core.Path.{ap, ◌∙◌}
use lib.IntN.{nat_abs}
use mir.Syntax.{w32}
use mir.Val.{SFits}
use mir.Facts.{to_z-of_z}
use Rattle.label.specs.Bytes.{bytes}
use Rattle.rewriting.proofs.NumberLaws.{is_below}
use Rattle.words.proofs.SpeechLaws.{no_words, more_words, words_as}
use Rattle.words.proofs.NumberWords.{factor_unsaid, factor_said}
use Rattle.words.proofs.spoken_numbers.say_factor.Goals as goal

pub returns-then-size-eq0 : goal.returns-then-size-eq0
returns-then-size-eq0 g c =
    let fits : SFits w32 c.args.k.0 = record { sfits = omega arith } in
    let size = c.from-size.ensures ∙ c.unsigned_abs.ensures.value ∙ ap nat_abs (to_z-of_z fits) in
    words_as (factor_unsaid _ size c.if-size-eq0.true) no_words

pub returns : goal.returns
unfolding bytes
returns g c =
    let fits : SFits w32 c.args.k.0 = record { sfits = omega arith } in
    let size = c.from-size.ensures ∙ c.unsigned_abs.ensures.value ∙ ap nat_abs (to_z-of_z fits) in
    words_as (factor_said _ size c.if-size-eq0.false (is_below fits)) (more_words c.say.ensures (more_words c.say_to_the.ensures c.say_integer.ensures))
