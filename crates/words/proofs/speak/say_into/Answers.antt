-- `words::speak::say_into` meets its contract: the words without the first space are delivered.
use native.Mathlib.Omega.{arith}
use mathlib.Core.Path.{refl, sym, ◌∙◌}
use Rattle.rewriting.proofs.TextLaws.{ok_err}
use Rattle.words.proofs.SpeakLaws.{written_words, words_given, words_fit}
use Rattle.words.proofs.speak.say_into.Goals as goal

-- the words are never longer than the room
pub returns-in_default : goal.returns-in_default
returns-in_default c =
    let kept = written_words c.requires.short refl c.say_label.ensures in
    absurd (ok_err (sym kept ∙ rw c.in_default.is at c.written.ensures))

pub deliver-requires : goal.deliver-requires
deliver-requires c =
    let kept = written_words c.requires.short refl c.say_label.ensures in
    let given = words_given c.in-Ok.spoken.now _ _ kept (rw c.in-Ok.is at c.written.ensures) c.min-start.ensures in
    omega (arith, words_fit given c.requires.short)

pub returns : goal.returns
returns c =
    let kept = written_words c.requires.short refl c.say_label.ensures in
    rw (words_given c.in-Ok.spoken.now _ _ kept (rw c.in-Ok.is at c.written.ensures) c.min-start.ensures) at c.deliver.ensures
