-- `words::spoken_numbers::say_over` meets its contract: nothing, or "over" and the number.
use borrow.Author.Tests.{eq-eqb, ne_eqb}
use Rattle.label.specs.Bytes.{bytes}
use Rattle.words.proofs.SpeechLaws.{no_words, more_words}
use Rattle.words.proofs.spoken_numbers.say_over.Goals as goal

pub returns-then-d-eq1 : goal.returns-then-d-eq1
returns-then-d-eq1 g c = rw (eq-eqb _ 1 c.if-d-eq1.true) no_words

pub returns : goal.returns
unfolding bytes
returns g c = rw (ne_eqb _ 1 c.if-d-eq1.false) (more_words c.say.ensures c.say_number.ensures)
