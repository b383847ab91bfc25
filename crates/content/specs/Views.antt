-- What the terms and symbols that are lent stand for.
use Rattle.std.specs.Prelude.{ℕ, zero, suc, ◌-◌, List, [], ◌∷◌, ◌++◌, ℤ, pos, get_or, None}
use Rattle.label.specs.Symbols.{Symbol}
use Rattle.label.specs.Reading.{exponent, Scale}
use Rattle.label.specs.Reading as spec
use Rattle.symbols.specs.declared.SymbolAt.{SymbolAt}
use Rattle.symbols.specs.declared.UnitAt.{UnitAt}
use Rattle.symbols.specs.declared.UnitAt.TheVariants.{Known, Unknown}
use Rattle.symbols.specs.Views.{symbol_in}
use Rattle.descent.specs.declared.terms.Terms.{Terms}
use Rattle.descent.specs.Terms.{term_at}

-- a symbol before it is noted, and what is read past the last term
abbrev pub no_symbol : SymbolAt
no_symbol = record { prefix = None; unit = Unknown (record { start = 0; end = 0 }) }

-- the symbol that is noted for a term
abbrev pub noted_symbol : List SymbolAt → ℕ → SymbolAt
noted_symbol x i = get_or x i no_symbol

-- what is noted of a term, by its number: its unit, and where the letters of an unknown one start and end, 0 for a known one
abbrev pub unit_in : List SymbolAt → ℕ → UnitAt
unit_in x i = (noted_symbol x i).unit

abbrev pub first_letter : UnitAt → ℕ
first_letter (Known u) = 0
first_letter (Unknown l) = l.start

abbrev pub last_letter : UnitAt → ℕ
last_letter (Known u) = 0
last_letter (Unknown l) = l.end

abbrev pub letters_at : List SymbolAt → ℕ → ℕ
letters_at x i = first_letter (unit_in x i)

abbrev pub letters_end : List SymbolAt → ℕ → ℕ
letters_end x i = last_letter (unit_in x i)

-- what the spelling of term i of the label s stands for, by the symbols
abbrev pub symbol_at : List ℕ → List SymbolAt → ℕ → Symbol
symbol_at s x i = symbol_in s (noted_symbol x i)

-- term i of the label s
abbrev pub term_in : List ℕ → Terms → List SymbolAt → ℕ → spec.Term
term_in s t x i = record {
  symbol = symbol_at s x i;
  exponent = (term_at t i).exponent;
  start = (term_at t i).start;
  size = (term_at t i).end - (term_at t i).start;
}

-- the first so many terms
unfoldable pub terms_in : List ℕ → Terms → List SymbolAt → ℕ → List spec.Term
terms_in s t x zero = []
terms_in s t x (suc i) = terms_in s t x i ++ (term_in s t x i ∷ [])

-- the scale by the array of primes: its places 0 to 3 have the exponents of 2, 3, 5 and 487
abbrev pub scale_in : List ℤ → Scale
scale_in cs = record {
  of_2 = exponent (get_or cs 0 (pos 0));
  of_3 = exponent (get_or cs 1 (pos 0));
  of_5 = exponent (get_or cs 2 (pos 0));
  of_487 = exponent (get_or cs 3 (pos 0));
}
