-- Words that are written into a text, and what is answered for them.
use Rattle.std.specs.Prelude.{ℕ, suc, ◌≤◌, Bool, List, [], ◌∷◌, ◌++◌, length, Result}
use Rattle.label.specs.Bytes.{bytes}
use Rattle.label.specs.Choice.{pick}
use Rattle.label.specs.Words.{Word, spaced_words, joined_words, most_spoken}
use Rattle.label.specs.Writing.{figures, Rewriting}
use Rattle.rewriting.specs.declared.text.Unkept.{Unkept}
use Rattle.rewriting.specs.Texts.{Writes}

-- from the value v to w of an array of n bytes, words are written after what was there, each after a space
pub record SaysWords (n : ℕ) (v : Result (List ℕ) Unkept) (ws : List Word) (w : Result (List ℕ) Unkept) : Type 0 where
  pub says : Writes n v (spaced_words ws) w

-- there is room for words in an array of one byte more than the most
pub record ShortWords (ws : List Word) : Type 0 where
  pub short : length (spaced_words ws) ≤ suc most_spoken

-- a whole number by its sign and its size
abbrev pub integer_words : Bool → ℕ → List Word
integer_words minused n = pick minused (bytes "minus" ∷ []) [] ++ figures n ∷ []

-- what is answered for words
abbrev pub words_answer : List Word → Rewriting
words_answer ws = record { number = 0; text = joined_words ws }
