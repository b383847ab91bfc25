use lib.ListN.{take}
use Rattle.label.specs.Words.{letter_words}
use Rattle.words.specs.Speech.{SaysWords}
use Rattle.words.proofs.spoken_terms.say_letters.Given as goal

abbrev pub invariant-loop-letter : goal.invariant-loop-letter
invariant-loop-letter g l = SaysWords g.row.N l.initial.text (letter_words (take l.letter-index l.letters)) l.text
