-- The sums of a reading: the exponent of each base, by its number, and those of 2, 3, 5 and 487.
use Rattle.std.specs.Prelude.{ℕ, ◌≡◌, ◌<◌, List, map, length}
use Rattle.label.specs.declared.Tens.{Tens}
use Rattle.label.specs.Reading.{exponent, dimensions_of, scale_of}
use Rattle.symbols.specs.declared.SymbolAt.{SymbolAt}
use Rattle.descent.specs.declared.terms.Terms.{Terms}
use Rattle.descent.specs.Terms.{term_at}
use Rattle.content.specs.declared.sums.Sums.{Sums}
use Rattle.content.specs.Views.{terms_in, scale_in}
use Rattle.content.specs.Sums.{prime_count}

-- the first n exponents of u are those of t, wherever the spellings are
pub record SameExponents (t u : Terms) (n : ℕ) : Type 0 where
  pub same : (i : ℕ) → i < n → (term_at u i).exponent ≡ (term_at t i).exponent

-- the factor, ten to the power k, and the first n terms are added up in zs, which no place of a spelling changes
pub record AddedUp (k : Tens) (t : Terms) (x : List SymbolAt) (n : ℕ) (zs : Sums) : Type 0 where
  pub dimensions : (s : List ℕ) (u : Terms) → SameExponents t u n → map exponent zs.bases ≡ dimensions_of (terms_in s u x n)
  pub primes : length zs.primes ≡ prime_count
  pub scale : (s : List ℕ) (u : Terms) → SameExponents t u n → scale_in zs.primes ≡ scale_of k (terms_in s u x n)
