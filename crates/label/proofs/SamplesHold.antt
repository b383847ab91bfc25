-- P1 to P12, by computation.
use mathlib.Core.Path.{refl}
use Rattle.label.specs.Samples.{samples, SamplesHold}
use Rattle.label.proofs.Computing.{answers_compute}

pub samples_hold : SamplesHold
unfolding samples answers_compute
samples_hold = refl
