-- What is answered for words that were written, and for a label that is read.
use Prim.Native.Nat.{ℕ, suc, ◌-◌, ◌≤◌}
use native.Mathlib.Omega.{arith}
use mathlib.Core.Path.{◌≡◌, refl, sym, ap, ◌∙◌}
use mathlib.Core.List.{List, [], ◌∷◌, ◌++◌}
use lib.Dec.{eqb}
use lib.ListN.{length, take, drop, length-drop}
use lib.Seq.{take_all}
use borrow.Author.Tests.{eq-eqb}
use Rattle.label.specs.declared.Refusal.{Refusal}
use Rattle.label.specs.Refusals.{number_of}
use Rattle.label.specs.Reading.{reading}
use Rattle.label.specs.Words.{Word, spaced_words, joined_words, factor_words, terms_words, words, spoken, most_spoken, speaking}
use Rattle.label.specs.Writing.{Rewriting, refuse_rewriting, unless}
use Rattle.claims.proofs.Longest.{spoken_short}
use Rattle.reading.specs.declared.read.Answer.{Answer}
use Rattle.reading.specs.declared.read.Content.{Content}
use Rattle.reading.specs.Views.{reading_in}
use Rattle.reading.specs.Answers.{AcceptedReading}
use Rattle.reading.proofs.Answering.{accepted_number}
use Rattle.rewriting.specs.Sources.{source_terms}
use Rattle.rewriting.specs.declared.text.Unkept.{Unkept}
use Rattle.rewriting.proofs.TextLaws.{same_Ok, held_whole, from_start}
use Rattle.rewriting.proofs.Delivering.{refused_first}
use Rattle.words.specs.Speech.{SaysWords, ShortWords, words_answer}
use Rattle.std.specs.Prelude.{Result, Ok, min}

-- WORDS WITHOUT THE FIRST SPACE

joined_after : (ws : List Word) → joined_words ws ≡ drop 1 (spaced_words ws)
unfolding joined_words spaced_words
joined_after [] = refl
joined_after (w ∷ ws) = refl

spaces_size : (ws : List Word) → length (spaced_words ws) ≤ suc (length (joined_words ws))
unfolding joined_words spaced_words
spaces_size [] = omega arith
spaces_size (w ∷ ws) = omega arith

-- WORDS THAT WERE WRITTEN

-- what was written is all of them
pub written_words : {u v : Result (List ℕ) Unkept} {ws : List Word} → ShortWords ws → u ≡ Ok [] → SaysWords (suc most_spoken) u ws v → v ≡ Ok (spaced_words ws)
written_words {ws = ws} h e a = from_start e a.says ∙ held_whole (suc most_spoken) (spaced_words ws) h.short

-- without the first space, if there is one
pub without_space : (ws : List Word) (n : ℕ) → n ≡ min (length (spaced_words ws)) 1 → drop n (spaced_words ws) ≡ joined_words ws
without_space ws n e = rw e (go (spaced_words ws)) ∙ sym (joined_after ws)
  where
    go : (x : List ℕ) → drop (min (length x) 1) x ≡ drop 1 x
    go [] = refl
    go (c ∷ x) = let q : min (suc (length x)) 1 ≡ 1 = omega arith in rw q

-- the rest of a list
rest_is : (x : List ℕ) (n : ℕ) → take (length x - n) (drop n x) ≡ drop n x
rest_is x n = take_all (length x - n) (drop n x) (simp length-drop (omega arith))

-- what is delivered of the words that were written
pub words_given : (x : List ℕ) {v : Result (List ℕ) Unkept} (ws : List Word) (n : ℕ) → v ≡ Ok (spaced_words ws) → v ≡ Ok x → n ≡ min (length x) 1
    → take (length x - n) (drop n x) ≡ joined_words ws
words_given x ws n k m f =
    let q : x ≡ spaced_words ws = same_Ok (sym m ∙ k) in
    rest_is x n ∙ ap (λ (y : List ℕ). drop n y) q ∙ without_space ws n (f ∙ ap (λ (y : List ℕ). min (length y) 1) q)

joined_short : (ws : List Word) → length (joined_words ws) ≤ length (spaced_words ws)
unfolding joined_words spaced_words
joined_short [] = omega arith
joined_short (w ∷ ws) = omega arith

pub words_fit : {x : List ℕ} {ws : List Word} → x ≡ joined_words ws → ShortWords ws → length x ≤ suc most_spoken
words_fit {ws = ws} e h = omega (arith, ap length e, joined_short ws, h.short)

-- A LABEL THAT IS READ

unrefused : (i : ℕ) (x : Rewriting) → i ≡ 0 → unless (eqb i 0) i x ≡ x
unfolding unless
unrefused i x e = rw (eq-eqb i 0 e)

module _ (n : ℕ) (s : List ℕ) where
  pub label_refused : (e : Refusal) → number_of e ≡ (reading n s).number → speaking n s ≡ refuse_rewriting (number_of e)
  unfolding speaking
  label_refused e h = refused_first _ e h

module _ {n : ℕ} {s : List ℕ} {c : Content} {a : Answer} (w : AcceptedReading n s c a) where
  abbrev label_words : List Word
  label_words = factor_words a.k ++ terms_words (source_terms s c)

  words_are : words (reading n s) ≡ label_words
  unfolding words reading_in
  words_are = rw (← w.is) refl

  pub label_spoken : speaking n s ≡ words_answer label_words
  unfolding speaking spoken
  label_spoken = unrefused (reading n s).number _ (accepted_number w) ∙ ap (λ (l : List Word). words_answer l) words_are

  -- there is room for the words in an array of one byte more than the most
  pub label_short : ShortWords label_words
  unfolding spoken
  label_short = let short = rw words_are at (spoken_short n s (accepted_number w)) in record { short = omega (arith, short, spaces_size label_words) }
