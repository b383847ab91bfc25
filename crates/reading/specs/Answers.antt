-- What the functions that read a label answer.
use Rattle.std.specs.Prelude.{ℕ, ◌+◌, ◌≤◌, ◌<◌, ◌≡◌, List, length, Result, Ok, Err}
use Rattle.label.specs.declared.Refusal.{Refusal}
use Rattle.label.specs.Refusals.{number_of}
use Rattle.label.specs.Reading.{reading}
use Rattle.label.specs.Letters.{letters_start, letters_size}
use Rattle.symbols.specs.declared.SymbolAt.{SymbolAt}
use Rattle.symbols.specs.declared.Span.{Span}
use Rattle.symbols.specs.declared.UnitAt.TheVariants.{Unknown}
use Rattle.symbols.specs.Views.{BoundedSymbol}
use Rattle.descent.specs.declared.terms.Terms.{Terms}
use Rattle.descent.specs.Terms.{count, term_at, NoTerms}
use Rattle.content.specs.Views.{noted_symbol, term_in, unit_in, letters_at, letters_end}
use Rattle.content.specs.Named.{Nameable}
use Rattle.content.specs.Sums.{NoSums, prime_count}
use Rattle.reading.specs.declared.read.Answer.{Answer}
use Rattle.reading.specs.declared.read.Content.{Content}
use Rattle.reading.specs.Views.{reading_in}

-- content to read into: no term yet, and sums of nothing
pub record Fresh (c : Content) : Type 0 where
  pub terms : NoTerms c.terms
  pub sums : NoSums c.sums

-- the letters l of the unknown unit of term i, one or more, are in the term's spelling
pub record LettersInTerm (t : Terms) (i : ℕ) (l : Span) : Type 0 where
  pub from : (term_at t i).start ≤ l.start
  pub some : l.start < l.end
  pub upto : l.end ≤ (term_at t i).end

-- the letters of term i are noted where the label has them, none for a known unit
pub record LettersNoted (s : List ℕ) (t : Terms) (x : List SymbolAt) (i : ℕ) : Type 0 where
  pub start : letters_at x i ≡ letters_start (term_in s t x i)
  pub end : letters_end x i ≡ letters_start (term_in s t x i) + letters_size (term_in s t x i)

-- an accepted label: all of its reading is here. There are four exponents of primes, and at most 32 terms, whose spellings are in the label,
-- the letters of an unknown unit are in its term's spelling, and prefixes and known units are in the tables.
pub record AcceptedReading (n : ℕ) (s : List ℕ) (c : Content) (a : Answer) : Type 0 where
  pub is : reading_in s c a ≡ reading n s
  pub primes : length c.sums.primes ≡ prime_count
  pub counted : count c.terms ≡ length (reading n s).terms
  pub within : Nameable s c.terms
  pub letters : (i : ℕ) (l : Span) → i < count c.terms → unit_in c.symbols i ≡ Unknown l → LettersInTerm c.terms i l
  pub noted : (i : ℕ) → i < count c.terms → LettersNoted s c.terms c.symbols i
  pub bounded : (i : ℕ) → i < count c.terms → BoundedSymbol (term_at c.terms i).start (term_at c.terms i).end (noted_symbol c.symbols i)

-- "what reading the text s in notation n answers": the number of the refusal, or the whole reading
abbrev pub ReadingAnswer : ℕ → List ℕ → Content → Result Answer Refusal → Type 0
ReadingAnswer n s c (Ok a) = AcceptedReading n s c a
ReadingAnswer n s c (Err e) = number_of e ≡ (reading n s).number
