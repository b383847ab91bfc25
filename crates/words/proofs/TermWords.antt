-- Units and terms in words.
use Prim.Native.Nat.{ℕ, ◌+◌}
use native.Mathlib.Numerals.{add-one}
use mathlib.Core.Path.{◌≡◌, sym, ap, ◌∙◌}
use mathlib.Core.List.{List, [], ◌∷◌, ◌++◌, append_assoc, append-nil}
use lib.ListN.{get_or}
use Rattle.std.specs.Prelude.{Result}
use Rattle.label.specs.declared.Tens.{Tens}
use Rattle.label.specs.Bytes.{bytes}
use Rattle.label.specs.Options.{told}
use Rattle.label.specs.Reading.{Term}
use Rattle.label.specs.Words.{Word, spoken_units, factor_words, prefix_words, letter_words, symbol_words, exponent_words, term_words, terms_words}
use Rattle.symbols.specs.declared.SymbolAt.{SymbolAt}
use Rattle.symbols.specs.declared.Span.{Span}
use Rattle.symbols.specs.declared.UnitAt.TheVariants as unit
use Rattle.symbols.specs.Views.{span_letters, symbol_in}
use Rattle.descent.specs.Terms.{count, term_at}
use Rattle.content.specs.Views.{noted_symbol, terms_in}
use Rattle.reading.specs.declared.read.Content.{Content}
use Rattle.rewriting.specs.declared.text.Unkept.{Unkept}
use Rattle.rewriting.specs.Sources.{first_terms, read_term, source_terms}
use Rattle.words.specs.Speech.{SaysWords}
use Rattle.words.proofs.SpeechLaws.{no_words, more_words, words_as}

-- UNITS

module _ (s : List ℕ) (x : SymbolAt) where
  pub known_words : {u : ℕ} → x.unit ≡ unit.Known u → symbol_words (symbol_in s x) ≡ prefix_words (told x.prefix) ++ get_or spoken_units u [] ∷ []
  unfolding symbol_words symbol_in
  known_words e = rw e

  pub unknown_words : {l : Span} → x.unit ≡ unit.Unknown l
      → symbol_words (symbol_in s x) ≡ prefix_words (told x.prefix) ++ (bytes "unit" ∷ letter_words (span_letters s l) ++ bytes "end" ∷ [])
  unfolding symbol_words symbol_in
  unknown_words e = rw e

-- ONE TERM MORE

terms_words_snoc : (ts : List Term) (t : Term) → terms_words (ts ++ t ∷ []) ≡ terms_words ts ++ term_words t
unfolding terms_words
terms_words_snoc [] t = append-nil (term_words t)
terms_words_snoc (x ∷ ts) t = ap (λ (l : List Word). term_words x ++ l) (terms_words_snoc ts t) ∙ sym (append_assoc (term_words x) (terms_words ts) (term_words t))

-- from the value v of the array, the first i terms are said
pub record SaidSoFar (n : ℕ) (s : List ℕ) (c : Content) (v w : Result (List ℕ) Unkept) (i : ℕ) : Type 0 where
  pub said : SaysWords n v (terms_words (first_terms s c i)) w

pub no_term_said : {n : ℕ} {s : List ℕ} {c : Content} {v : Result (List ℕ) Unkept} → SaidSoFar n s c v v 0
unfolding terms_in terms_words
no_term_said = record { said = no_words }

module _ {n : ℕ} {s : List ℕ} {c : Content} {v w : Result (List ℕ) Unkept} {i : ℕ} (a : SaidSoFar n s c v w i) where
  pub term_next : {p q : Result (List ℕ) Unkept} {x : SymbolAt} → x ≡ noted_symbol c.symbols i
      → SaysWords n w (symbol_words (symbol_in s x)) p → SaysWords n p (exponent_words (term_at c.terms i).exponent) q → SaidSoFar n s c v q (i + 1)
  unfolding terms_in term_words
  term_next e b d = record {
    said = words_as (ap (λ (n : ℕ). terms_words (first_terms s c n)) (add-one i) ∙ terms_words_snoc (first_terms s c i) (read_term s c i))
        (more_words a.said (rw (← e) (more_words b d)));
  }

  said_upto : (j : ℕ) → j ≡ i → SaysWords n v (terms_words (first_terms s c j)) w
  said_upto j e = rw e a.said

  -- the factor and all terms
  pub all_said : (k : Tens) {u : Result (List ℕ) Unkept} → SaysWords n u (factor_words k) v → count c.terms ≡ i
      → SaysWords n u (factor_words k ++ terms_words (source_terms s c)) w
  all_said k b e = more_words b (said_upto (count c.terms) e)
