-- What the spellings of a label's terms stand for.
use Rattle.std.specs.Prelude.{ℕ, ◌≤◌, ◌<◌, ◌≡◌, List, map, length}
use Rattle.label.specs.Reading.{term}
use Rattle.label.specs.Limits.{most_terms, most_bytes}
use Rattle.symbols.specs.declared.SymbolAt.{SymbolAt}
use Rattle.symbols.specs.declared.Span.{Span}
use Rattle.symbols.specs.declared.UnitAt.TheVariants.{Unknown}
use Rattle.symbols.specs.Views.{LettersAt, BoundedSymbol}
use Rattle.descent.specs.declared.terms.Terms.{Terms}
use Rattle.descent.specs.Terms.{count, terms, term_at, placed_in, AllIn}
use Rattle.content.specs.Views.{noted_symbol, unit_in, terms_in}

-- at most 32 terms of a label that is not too long
pub record Nameable (s : List ℕ) (t : Terms) : Type 0 where
  pub short : length s ≤ most_bytes
  pub few : count t ≤ most_terms
  pub inside : AllIn s (terms t (count t))

-- the letters l of the unknown unit of term i are in the term's spelling, at their place there
pub record LettersIn (s : List ℕ) (t : Terms) (i : ℕ) (l : Span) : Type 0 where
  pub from : (term_at t i).start ≤ l.start
  pub forward : l.start ≤ l.end
  pub upto : l.end ≤ (term_at t i).end
  pub there : LettersAt s (term_at t i).start (term_at t i).end l.start l.end

-- the terms with what their spellings stand for
pub record AllNamed (n : ℕ) (s : List ℕ) (t : Terms) (x : List SymbolAt) : Type 0 where
  pub is : terms_in s t x (count t) ≡ map (term n (length s)) (map (placed_in s) (terms t (count t)))
  pub letters : (i : ℕ) (l : Span) → i < count t → unit_in x i ≡ Unknown l → LettersIn s t i l
  pub bounded : (i : ℕ) → i < count t → BoundedSymbol (term_at t i).start (term_at t i).end (noted_symbol x i)
