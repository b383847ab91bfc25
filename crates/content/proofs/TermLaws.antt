-- One term more: verdicts and totals over terms with one more at the end.
use Prim.Native.Nat.{ℕ, zero, suc, ◌≤◌}
use native.Mathlib.Omega.{arith}
use mathlib.Core.Path.{◌≡◌, refl, sym, ap, ◌∙◌}
use mathlib.Core.Bool.{Bool, true, false, ◌&&◌}
use mathlib.Core.List.{List, [], ◌∷◌, ◌++◌}
use lib.IntN.{ℤ, ◌+ℤ◌, ◌*ℤ◌, +ℤ_idl, +ℤ_idr, +ℤ_assoc}
use lib.ListN.{length, take}
use lib.Seq.{take-suc}
use Rattle.std.specs.List.{list_all}
use Rattle.label.specs.Reading as spec
use Rattle.label.specs.Reading.{every, is_known, total}
use Rattle.label.specs.Symbols.{Symbol}
use Rattle.symbols.specs.declared.SymbolAt.{SymbolAt}
use Rattle.symbols.specs.Views.{symbol_in}
use Rattle.descent.specs.declared.terms.Terms.{Terms}
use Rattle.content.specs.Views.{no_symbol, noted_symbol, term_in, terms_in}

-- VERDICTS

and_assoc : (a b c : Bool) → ((a && b) && c) ≡ (a && (b && c))
and_assoc true b c = refl
and_assoc false b c = refl

and_true : (a : Bool) → (a && true) ≡ a
and_true true = refl
and_true false = refl

every_more : (p : Symbol → Bool) (ts : List spec.Term) (t : spec.Term) → every p (ts ++ (t ∷ [])) ≡ (every p ts && p t.symbol)
unfolding every
every_more p [] t = and_true (p t.symbol)
every_more p (x ∷ ts) t =
    ap (λ (b : Bool). p x.symbol && b) (every_more p ts t) ∙ sym (and_assoc (p x.symbol) (every p ts) (p t.symbol))

all_more : (p : SymbolAt → Bool) (xs : List SymbolAt) (y : SymbolAt) → list_all p (xs ++ (y ∷ [])) ≡ (list_all p xs && p y)
all_more p [] y = and_true (p y)
all_more p (x ∷ xs) y = ap (λ (b : Bool). p x && b) (all_more p xs y) ∙ sym (and_assoc (p x) (list_all p xs) (p y))

-- a test of every term is one of the symbols noted for them
pub every_noted : (p : Symbol → Bool) (s : List ℕ) (t : Terms) (x : List SymbolAt) (i : ℕ) → i ≤ length x
    → list_all (λ y. p (symbol_in s y)) (take i x) ≡ every p (terms_in s t x i)
unfolding every terms_in
every_noted p s t x zero h = refl
every_noted p s t x (suc i) h =
    ap (list_all (λ y. p (symbol_in s y))) (take-suc x i no_symbol (omega arith))
    ∙ all_more (λ y. p (symbol_in s y)) (take i x) (noted_symbol x i)
    ∙ ap (λ (b : Bool). b && p (symbol_in s (noted_symbol x i))) (every_noted p s t x i (omega arith))
    ∙ sym (every_more p (terms_in s t x i) (term_in s t x i))

-- TOTALS

pub total_more : (f : Symbol → ℤ) (ts : List spec.Term) (t : spec.Term)
    → (total f (ts ++ (t ∷ []))).0 ≡ (total f ts).0 +ℤ f t.symbol *ℤ t.exponent.0
unfolding total
total_more f [] t = +ℤ_idr (f t.symbol *ℤ t.exponent.0) ∙ sym (+ℤ_idl (f t.symbol *ℤ t.exponent.0))
total_more f (x ∷ ts) t =
    ap (λ (z : ℤ). f x.symbol *ℤ x.exponent.0 +ℤ z) (total_more f ts t)
    ∙ sym (+ℤ_assoc (f x.symbol *ℤ x.exponent.0) (total f ts).0 (f t.symbol *ℤ t.exponent.0))
