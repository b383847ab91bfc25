-- The table of spoken names.
use Rattle.std.specs.Prelude.{ℕ, List, ◌++◌, map}
use Rattle.std.specs.Borrow.{Bor}
use Rattle.label.specs.Words.{Word, spoken_prefixes, spoken_units}

-- the names of the prefixes, then those of the units
abbrev pub spoken_names : List Word
spoken_names = spoken_prefixes ++ spoken_units

-- the words that are lent
abbrev pub words_of : List (Bor (List ℕ)) → List Word
words_of xs = map (λ (x : Bor (List ℕ)). x.now) xs
