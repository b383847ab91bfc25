-- The terms of a label that is read.
use Rattle.std.specs.Prelude.{ℕ, ◌≤◌, ◌<◌, ◌≡◌, List, length}
use Rattle.label.specs.Ranges.{between}
use Rattle.label.specs.Limits.{most_bytes, most_terms}
use Rattle.label.specs.Reading as spec
use Rattle.label.specs.Writing.{own_letters}
use Rattle.symbols.specs.declared.SymbolAt.{SymbolAt}
use Rattle.symbols.specs.Views.{symbol_in}
use Rattle.descent.specs.declared.terms.Term.{Term}
use Rattle.descent.specs.Terms.{count, term_at, InLabel}
use Rattle.content.specs.Views.{noted_symbol, term_in, terms_in}
use Rattle.reading.specs.declared.read.Content.{Content}
use Rattle.rewriting.specs.declared.unit.SourceTerm.{SourceTerm}
use Rattle.rewriting.specs.Units.{LettersInside, Owns}

-- the first i terms of the label s, term i, and all of them
abbrev pub first_terms : List ℕ → Content → ℕ → List spec.Term
first_terms s c i = terms_in s c.terms c.symbols i

abbrev pub read_term : List ℕ → Content → ℕ → spec.Term
read_term s c i = term_in s c.terms c.symbols i

abbrev pub source_terms : List ℕ → Content → List spec.Term
source_terms s c = first_terms s c (count c.terms)

-- term i of a label of at most 255 bytes: its spelling lies in the label, and so do the letters of an unknown unit
pub record TermOf (s : List ℕ) (c : Content) (i : ℕ) : Type 0 where
  pub short : length s ≤ most_bytes
  pub few : i < most_terms
  pub inside : InLabel s (term_at c.terms i)
  pub letters : LettersInside s (noted_symbol c.symbols i)

-- every term of a label
pub record AllTerms (s : List ℕ) (c : Content) : Type 0 where
  pub few : count c.terms ≤ most_terms
  pub terms : (i : ℕ) → i < count c.terms → TermOf s c i

-- the letters of the name of a term with that symbol
abbrev pub own_of : List ℕ → Term → SymbolAt → List ℕ
own_of s t x = own_letters (symbol_in s x) (between s t.start t.end)

-- r is that term of the label s
pub record TermIs (s : List ℕ) (t : Term) (x : SymbolAt) (r : SourceTerm) : Type 0 where
  pub unit : r.unit ≡ x
  pub own : Owns (own_of s t x) r
