-- `words::spoken_names::say_prefix` meets its contract: no prefix, one past the last, or its row.
use Rattle.words.proofs.SpeechLaws.{no_words, words_as}
use Rattle.words.proofs.NameRows.{prefix_unsaid, prefix_outside, prefix_row}
use Rattle.words.proofs.spoken_names.say_prefix.Goals as goal

pub returns-in_default : goal.returns-in_default
returns-in_default g c = words_as (prefix_unsaid c.in_default.is) no_words

pub returns-then-place-ge-PREFIXES : goal.returns-then-place-ge-PREFIXES
returns-then-place-ge-PREFIXES g c = words_as (prefix_outside _ c.in-Some.is c.if-place-ge-PREFIXES.true) c.say.ensures

pub returns : goal.returns
returns g c = words_as (prefix_row _ c.in-Some.is c.if-place-ge-PREFIXES.false) c.say_name.ensures
