-- What an accepted label's reading has of its split.
use Rattle.std.specs.Prelude.{ℕ, ◌≡◌, List, map, take, drop}
use Rattle.label.specs.declared.Exponent.{Exponent}
use Rattle.label.specs.Symbols.{Symbol, symbol}
use Rattle.label.specs.Split.{Spelled, Split}
use Rattle.label.specs.Reading.{Term, Reading}

-- a prefix and unit with an exponent
pub record Raised : Type 0 where
  pub symbol : Symbol
  pub exponent : Exponent

-- a spelling as notation n reads it
abbrev pub raised_in : ℕ → Spelled → Raised
raised_in n x = record { symbol = symbol n x.spelling; exponent = x.exponent }

abbrev pub raised_term : Term → Raised
raised_term t = record { symbol = t.symbol; exponent = t.exponent }

-- the label's bytes at a term's place
abbrev pub bytes_at : List ℕ → Term → List ℕ
bytes_at s t = take t.size (drop t.start s)

-- "reading it .. answers 0, with the split's k and one term for each of its spellings, in that order, with that exponent and with the
-- prefix and unit that the symbol rules of that notation give the spelling"; and each term's place in the label is its spelling's
pub record Gives (n : ℕ) (s : List ℕ) (x : Split) (a : Reading) : Type 0 where
  pub answers : a.number ≡ 0
  pub k : a.k ≡ x.k
  pub terms : map raised_term a.terms ≡ map (raised_in n) x.spellings
  pub places : map (bytes_at s) a.terms ≡ map (λ (y : Spelled). y.spelling) x.spellings
