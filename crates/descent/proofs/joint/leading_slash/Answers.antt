use Rattle.std.proofs.Common.{arith}
use Rattle.std.proofs.lemmas.Bool.Decides.{nat_tests}
use Rattle.descent.proofs.JointSteps.{slash_leads, no_slash_leads}
use Rattle.descent.proofs.joint.leading_slash.Goals as goal

pub returns-then-r : goal.returns-then-r
returns-then-r c = slash_leads c.padded-p.ensures c.byte_at.ensures (grind (arith, nat_tests)) c.padded.ensures

pub returns : goal.returns
returns c = no_slash_leads c.padded-p.ensures c.byte_at.ensures (grind (arith, nat_tests))
