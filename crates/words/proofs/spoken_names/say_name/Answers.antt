-- `words::spoken_names::say_name` meets its contract: the names that the code has are those of the definitions.
use mathlib.Core.Path.{sym, ap}
use mathlib.Core.List.{[], ◌∷◌}
use Rattle.label.specs.Words.{Word}
use Rattle.words.proofs.SpeechLaws.{words_as}
use Rattle.words.proofs.NameRows.{names_compute}
use Rattle.words.proofs.spoken_names.say_name.Goals as goal

pub returns : goal.returns
unfolding names_compute
returns g c = words_as (ap (λ (x : Word). x ∷ []) (sym c.name_of.ensures)) c.say.ensures
