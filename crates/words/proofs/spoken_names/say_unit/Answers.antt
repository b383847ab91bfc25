-- `words::spoken_names::say_unit` meets its contract: the row of the unit.
use mathlib.Core.Path.{ap}
use mathlib.Core.List.{[], ◌∷◌}
use Rattle.label.specs.Words.{Word}
use Rattle.words.proofs.SpeechLaws.{words_as}
use Rattle.words.proofs.NameRows.{unit_row}
use Rattle.words.proofs.spoken_names.say_unit.Goals as goal

pub returns : goal.returns
returns g c = words_as (ap (λ (x : Word). x ∷ []) (unit_row _)) c.say_name.ensures
