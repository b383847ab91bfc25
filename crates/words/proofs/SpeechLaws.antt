-- Words that are written one after the other.
use Prim.Native.Nat.{ℕ, ◌+◌, ◌<◌}
use mathlib.Core.Path.{◌≡◌, refl, sym, ap, ◌∙◌}
use mathlib.Core.List.{List, [], ◌∷◌, ◌++◌, map-append, append_assoc, append-nil}
use lib.ListN.{length, get_or, take}
use Rattle.std.specs.Prelude.{Result}
use Rattle.std.proofs.lemmas.List.{take_more}
use Rattle.label.specs.Bytes.{space}
use Rattle.label.specs.Words.{Word, spaced_words, letter_words}
use Rattle.rewriting.specs.declared.text.Unkept.{Unkept}
use Rattle.rewriting.specs.Texts.{Writes}
use Rattle.rewriting.proofs.TextLaws.{writes_nothing, writes_both, writes_as}
use Rattle.words.specs.Speech.{SaysWords}

-- WORDS

pub spaces_append : (ws vs : List Word) → spaced_words (ws ++ vs) ≡ spaced_words ws ++ spaced_words vs
unfolding spaced_words
spaces_append [] vs = refl
spaces_append (w ∷ ws) vs = ap (λ (l : List ℕ). space ∷ l) (ap (λ (l : List ℕ). w ++ l) (spaces_append ws vs) ∙ sym (append_assoc w (spaced_words ws) (spaced_words vs)))

-- nothing is said
pub no_words : {n : ℕ} {v : Result (List ℕ) Unkept} → SaysWords n v [] v
unfolding spaced_words
no_words = record { says = writes_nothing }

-- some words and others
pub more_words : {n : ℕ} {u v w : Result (List ℕ) Unkept} {ws vs : List Word} → SaysWords n u ws v → SaysWords n v vs w → SaysWords n u (ws ++ vs) w
more_words {ws = ws} {vs = vs} a b = record { says = writes_as (spaces_append ws vs) (writes_both a.says b.says) }

-- the same words under another name
pub words_as : {n : ℕ} {v w : Result (List ℕ) Unkept} {ws vs : List Word} → ws ≡ vs → SaysWords n v vs w → SaysWords n v ws w
words_as e a = rw e a

-- the bytes of a word, after a space
pub one_word : {n : ℕ} {u v w : Result (List ℕ) Unkept} {s : Word} → Writes n u (space ∷ []) v → Writes n v s w → SaysWords n u (s ∷ []) w
unfolding spaced_words
one_word {s = s} a b = record { says = writes_as (ap (λ (l : List ℕ). space ∷ l) (append-nil s)) (writes_both a b) }

-- LETTERS, ONE BY ONE

letters_append : (l m : List ℕ) → letter_words (l ++ m) ≡ letter_words l ++ letter_words m
unfolding letter_words
letters_append l m = map-append (λ (c : ℕ). c ∷ []) l m

pub no_letters : {n : ℕ} {v : Result (List ℕ) Unkept} → SaysWords n v (letter_words []) v
unfolding letter_words
no_letters = no_words

-- one letter more of s
pub letter_more : {n : ℕ} {u v p w : Result (List ℕ) Unkept} (s : List ℕ) (i : ℕ) → SaysWords n u (letter_words (take i s)) v → i < length s
    → Writes n v (space ∷ []) p → Writes n p (get_or s i 0 ∷ []) w → SaysWords n u (letter_words (take (i + 1) s)) w
unfolding letter_words
letter_more s i a h b c =
    words_as (ap letter_words (take_more s i 0 h) ∙ letters_append (take i s) (get_or s i 0 ∷ [])) (more_words a (one_word b c))
