-- How many units are counted where all powers keep their bounds.
use mathlib.Core.Path.{◌≡◌}
use mathlib.Core.List.{List}
use mathlib.Core.Option.{some}
use lib.ListN.{length}
use Rattle.label.specs.Lexical.{Part}
use Rattle.label.specs.Split.{Placed, valued_units}
use Rattle.label.proofs.Refusals.{units_values, values_length}

pub as_many : (ps : List Part) (us : List Placed) → valued_units ps ≡ some us → length us ≡ length ps
as_many ps us e = values_length (units_values ps us e)
