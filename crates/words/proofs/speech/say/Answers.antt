-- `words::speech::say` meets its contract: a space, and the bytes of the word.
use Rattle.words.proofs.SpeechLaws.{one_word}
use Rattle.words.proofs.speech.say.Goals as goal

pub returns : goal.returns
returns g c = one_word c.push.ensures c.append.ensures
