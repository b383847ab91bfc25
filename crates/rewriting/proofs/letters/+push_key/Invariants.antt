use Rattle.rewriting.proofs.letters.+push_key.Given as goal

-- the measure: how many may be written
abbrev pub decreases-push_key : goal.decreases-push_key
decreases-push_key g l = l.most
