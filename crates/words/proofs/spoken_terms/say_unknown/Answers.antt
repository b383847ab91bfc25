-- `words::spoken_terms::say_unknown` meets its contract: "unit", the letters, "end".
use Rattle.label.specs.Bytes.{bytes}
use Rattle.words.proofs.SpeechLaws.{more_words}
use Rattle.words.proofs.spoken_terms.say_unknown.Goals as goal

pub returns : goal.returns
unfolding bytes
returns g c = more_words c.say.ensures (more_words c.say_letters.ensures c.say-2.ensures)
