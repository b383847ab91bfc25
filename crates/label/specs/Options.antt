-- What the code answers as an option, as an option of the definitions.
use Rattle.std.specs.Prelude.{Option, Some, None}
use Rattle.std.proofs.Math.Option.{Option as Maybe, none, some}

abbrev pub told : {A : Type 0} → Option A → Maybe A
told (Some a) = some a
told None = none
