-- `words::spoken_numbers::say_integer` meets its contract: "minus" or nothing, and the number.
use Rattle.label.specs.Bytes.{bytes}
use Rattle.words.proofs.SpeechLaws.{more_words}
use Rattle.words.proofs.spoken_numbers.say_integer.Goals as goal
use Rattle.words.proofs.spoken_numbers.say_integer.Goals.{then-negative, else-negative}

pub returns : goal.returns
unfolding bytes
returns g c = elim c.if-negative.branch [
  | then-negative w ↦ rw w.if-negative.true (more_words w.say.ensures (rw w.text-is at c.say_number.ensures))
  | else-negative w ↦ rw w.if-negative.false (rw w.text-is at c.say_number.ensures)
]
