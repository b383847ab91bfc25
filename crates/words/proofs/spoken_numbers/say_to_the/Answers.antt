-- `words::spoken_numbers::say_to_the` meets its contract: two words.
use Rattle.label.specs.Bytes.{bytes}
use Rattle.words.proofs.SpeechLaws.{more_words}
use Rattle.words.proofs.spoken_numbers.say_to_the.Goals as goal

pub returns : goal.returns
unfolding bytes
returns g c = more_words c.say.ensures c.say-2.ensures
