-- `words::spoken_numbers::say_number` meets its contract: the digits after a space.
use Rattle.label.specs.Writing.{figures}
use Rattle.words.proofs.SpeechLaws.{one_word}
use Rattle.words.proofs.spoken_numbers.say_number.Goals as goal

pub returns : goal.returns
unfolding figures
returns g c = one_word c.push.ensures c.push_figures.ensures
