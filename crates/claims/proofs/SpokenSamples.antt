-- The names pass their test, and two labels are spoken.
use mathlib.Core.Path.{refl}
use Rattle.label.specs.Writing.{figures_before, figures}
use Rattle.label.specs.Words.{spoken_prefixes, spoken_units, reserved_words, every_word, is_among, all_differ, is_name, names_fit, number_words, factor_words, prefix_words, letter_words, symbol_words, fraction_words, exponent_words, term_words, terms_words, words, spaced_words, joined_words, spoken}
use Rattle.label.proofs.Computing.{answers_compute}
use Rattle.claims.specs.Claims.{NamesFit, WordSamples}

-- to unfold this is to unfold every definition of the words
unfoldable pub words_compute : Unit {0}
unfolding answers_compute figures_before figures spoken_prefixes spoken_units reserved_words every_word is_among all_differ is_name names_fit number_words factor_words prefix_words letter_words symbol_words fraction_words exponent_words term_words terms_words words spaced_words joined_words spoken
words_compute = tt

pub spoken_names_pass : NamesFit
unfolding words_compute
spoken_names_pass = tt

pub word_samples : WordSamples
unfolding words_compute
word_samples = (refl, refl)
