use lib.ListN.{length}
use Rattle.words.proofs.TermWords.{SaidSoFar}
use Rattle.words.proofs.spoken_terms.say_label.Given as goal

abbrev pub invariant-loop-term : goal.invariant-loop-term
invariant-loop-term g l = SaidSoFar g.row.N l.s l.content l.initial.text l.text (length l.yielded)
