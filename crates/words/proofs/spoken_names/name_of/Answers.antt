-- `words::spoken_names::name_of` meets its contract: past the end, and before it.
use Rattle.words.proofs.NameRows.{word_there, no_word_there}
use Rattle.words.proofs.spoken_names.name_of.Goals as goal

pub returns-then-names-row : goal.returns-then-names-row
returns-then-names-row c = no_word_there _ _ c.if-names-row.true

pub returns : goal.returns
returns c = word_there _ _ _ c.if-names-row.false
