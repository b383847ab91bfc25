-- `scan::run::spaces` meets its contract: its closure tests for the one byte.
use Rattle.std.proofs.Common.{rules, tests}
use Rattle.scan.proofs.run.spaces.Goals as goal

pub returns : goal.returns
returns c = c.run.ensures _ (λ x b e. search (rules, tests))
