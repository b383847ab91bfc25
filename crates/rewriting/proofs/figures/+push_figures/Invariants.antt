use Rattle.rewriting.proofs.figures.+push_figures.Given as goal

-- the measure: how many may be written
abbrev pub decreases-push_figures : goal.decreases-push_figures
decreases-push_figures g l = l.most
