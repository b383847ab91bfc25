-- `words::spoken_terms::say_letters` meets its contract: each turn of the loop says one letter more.
use Rattle.words.proofs.SpeechLaws.{no_letters, letter_more}
use Rattle.words.proofs.spoken_terms.say_letters.Goals as goal

pub loop-letter-init : goal.loop-letter-init
loop-letter-init g c = no_letters

pub loop-letter-preserved : goal.loop-letter-preserved
loop-letter-preserved g c = letter_more _ _ c.loop-letter.invariant c.loop-letter-test.true c.push.ensures c.push-in-loop-letter.ensures
