-- `words::spoken_terms::say_symbol` meets its contract: the prefix, and the name or the letters.
use Rattle.words.proofs.SpeechLaws.{more_words, words_as}
use Rattle.words.proofs.TermWords.{known_words, unknown_words}
use Rattle.words.proofs.spoken_terms.say_symbol.Goals as goal

pub returns-in-Known : goal.returns-in-Known
returns-in-Known g c =
    words_as (known_words _ _ c.in-Known.is) (more_words c.say_prefix.ensures c.say_unit.ensures)

pub returns-in-Unknown : goal.returns-in-Unknown
returns-in-Unknown g c =
    words_as (unknown_words _ _ c.in-Unknown.is) (more_words c.say_prefix.ensures c.say_unknown.ensures)
