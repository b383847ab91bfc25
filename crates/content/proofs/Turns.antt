-- A loop over the first n terms and their symbols, as `zip` yields them: where a turn's pair is, and how many turns there are.
use Prim.Native.Nat.{ℕ, ◌≤◌, ◌<◌, min}
use native.Mathlib.Omega.{arith}
use mathlib.Core.Path.{◌≡◌, ◌∙◌}
use mathlib.Core.List.{List}
use lib.ListN.{length, get_or}
use Rattle.std.proofs.lemmas.List.{get_or-take, length-take}
use Rattle.symbols.specs.declared.SymbolAt.{SymbolAt}
use Rattle.descent.specs.declared.terms.Term.{Term}
use Rattle.descent.specs.declared.terms.Terms.{Terms}
use Rattle.descent.specs.Terms.{terms, term_at}
use Rattle.content.specs.Views.{no_symbol, noted_symbol}

-- turn i has term i and its symbol
pub record Turn (t : Terms) (x : List SymbolAt) (n i : ℕ) (a : Term) (y : SymbolAt) : Type 0 where
  pub below : i < length (terms t n)
  pub term : a ≡ term_at t i
  pub symbol : y ≡ noted_symbol x i

module _ (t : Terms) (x : List SymbolAt) (n i : ℕ) where
  pub turn : {a : Term} {y : SymbolAt}
      → (i < length (terms t n)) × (i < length x) × ((d : Term) → a ≡ get_or (terms t n) i d) × ((d : SymbolAt) → y ≡ get_or x i d)
      → Turn t x n i a y
  turn w =
      let h : i < n = omega (arith, w.0, length-take n t.items) in
      record { below = w.0; term = w.2 _ ∙ get_or-take n t.items i _ h; symbol = w.3 no_symbol }

  -- the loop ends after all of them
  pub turns : i ≡ min (length (terms t n)) (length x) → length (terms t n) ≡ n → n ≤ length x → i ≡ n
  turns e h g = omega arith
