-- `conversion::two_labels::read_sums` meets its contract.
use Rattle.conversion.proofs.Summing.{accepted_summed}
use Rattle.conversion.proofs.two_labels.read_sums.Goals as goal

pub returns : goal.returns
returns c = accepted_summed c.in_ok-a.ensures
