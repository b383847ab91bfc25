-- What the spellings of a label's terms stand for: one law for each way through the code.
use Prim.Native.Nat.{ℕ, zero, suc, ◌≤◌, ◌<◌, ◌-◌, ◌+◌}
use native.Mathlib.Omega.{arith}
use native.Mathlib.Numerals.{add-one}
use native.Mathlib.Decide.{dec_lt}
use mathlib.Core.Path.{◌≡◌, refl, sym, ap, ◌∙◌}
use mathlib.Core.List.{List, [], ◌∷◌, ◌++◌, map, map-append}
use lib.ListN.{length, get_or, set, take, length-set, length-append, get_or-append}
use lib.Seq.{get_or-set_same, get_or-set_other, get_or_at, take-suc}
use Rattle.std.proofs.Common.{below_more}
use Rattle.label.specs.Reading.{term, nothing}
use Rattle.label.specs.Reading as spec
use Rattle.label.specs.Symbols.{symbol}
use Rattle.label.specs.Ranges.{between}
use Rattle.label.proofs.Between.{length_between}
use Rattle.label.specs.Limits.{most_terms}
use Rattle.symbols.specs.declared.SymbolAt.{SymbolAt}
use Rattle.symbols.specs.declared.Span.{Span}
use Rattle.symbols.specs.declared.UnitAt.{UnitAt}
use Rattle.symbols.specs.declared.UnitAt.TheVariants.{Known, Unknown}
use Rattle.symbols.specs.Views.{symbol_in, BoundedUnit, BoundedSymbol, LettersOf}
use Rattle.descent.specs.declared.terms.Term.{Term}
use Rattle.descent.specs.declared.terms.Terms.{Terms}
use Rattle.descent.specs.Terms.{count, terms, term_at, placed_in, InLabel, AllIn}
use Rattle.descent.specs.Terms.{term as lent}
use Rattle.content.specs.Views.{no_symbol, noted_symbol, unit_in, term_in, terms_in}
use Rattle.content.specs.Named.{Nameable, LettersIn, AllNamed}

-- THE TERMS

in_at : {s : List ℕ} (xs : List Term) (n i : ℕ) → AllIn s (take n xs) → i < n → InLabel s (get_or xs i (lent 0 0 nothing))
in_at [] n i w h = record { forward = omega arith; within = omega arith }
in_at (x ∷ xs) zero i w h = absurd (omega arith)
in_at (x ∷ xs) (suc n) zero (AllIn.more j js) h = j
in_at (x ∷ xs) (suc n) (suc i) (AllIn.more j js) h = in_at xs n i js (omega arith)

pub all_in_at : {s : List ℕ} (t : Terms) (n i : ℕ) → AllIn s (terms t n) → i < n → InLabel s (term_at t i)
all_in_at t n i w h = in_at t.items n i w h

pub terms_more : (s : List ℕ) (t : Terms) (x : List SymbolAt) (i : ℕ) → terms_in s t x (i + 1) ≡ terms_in s t x i ++ (term_in s t x i ∷ [])
unfolding terms_in
terms_more s t x i = rw (add-one i)

pub terms_length : (s : List ℕ) (t : Terms) (x : List SymbolAt) (i : ℕ) → length (terms_in s t x i) ≡ i
unfolding terms_in
terms_length s t x zero = refl
terms_length s t x (suc i) = length-append (terms_in s t x i) (term_in s t x i ∷ []) ∙ omega (arith, terms_length s t x i)

-- term i of them
pub nth_term : (s : List ℕ) (t : Terms) (x : List SymbolAt) (n i : ℕ) (d : spec.Term) → i < n → get_or (terms_in s t x n) i d ≡ term_in s t x i
unfolding terms_in
nth_term s t x zero i d h = absurd (omega arith)
nth_term s t x (suc n) i d h = go (nth_term s t x n i d) (dec_lt i n)
  where
    go : (i < n → get_or (terms_in s t x n) i d ≡ term_in s t x i) → Dec (i < n) → get_or (terms_in s t x n ++ (term_in s t x n ∷ [])) i d ≡ term_in s t x i
    go f (yes l) = get_or-append (terms_in s t x n) (term_in s t x n ∷ []) d i (omega (arith, terms_length s t x n)) ∙ f l
    go f (no l) = let z : i ≡ n = omega arith in rw z (get_or_at (terms_in s t x n) (term_in s t x n) [] d n (terms_length s t x n))

-- a symbol noted at i: the terms before it are the same
kept_terms : (s : List ℕ) (t : Terms) (x : List SymbolAt) (i : ℕ) (y : SymbolAt) (j : ℕ) → j ≤ i → terms_in s t (set x i y) j ≡ terms_in s t x j
unfolding terms_in
kept_terms s t x i y zero h = refl
kept_terms s t x i y (suc j) h = rw (kept_terms s t x i y j (omega arith), get_or-set_other x i j y no_symbol (λ e. omega arith))

named_term : (n : ℕ) {s : List ℕ} (x : Term) (y : SymbolAt) → InLabel s x → symbol_in s y ≡ symbol n (between s x.start x.end)
    → record { symbol = symbol_in s y; exponent = x.exponent; start = x.start; size = x.end - x.start } ≡ term n (length s) (placed_in s x)
unfolding term
named_term n {s} x y v q = rw (q, length_between s x.start x.end v.within, back)
  where
    back : length s - (length s - x.start) ≡ x.start
    back = omega (arith, v.forward, v.within)

-- the letters of a unit of term i
letters_here : {s : List ℕ} {t : Terms} {i : ℕ} (u : UnitAt) → BoundedUnit (term_at t i).start (term_at t i).end u
    → LettersOf s (term_at t i).start (term_at t i).end u → (l : Span) → u ≡ Unknown l → LettersIn s t i l
letters_here (Known r) b f l e = cc
letters_here {s} {t} {i} (Unknown m) b f l e =
    let q : m ≡ l = cc in
    let held : LettersIn s t i m = record { from = b.from; forward = b.forward; upto = b.upto; there = f } in
    rw q at held

-- the first i terms are named
pub record NamedTo (n : ℕ) (s : List ℕ) (t : Terms) (i : ℕ) (x : List SymbolAt) : Type 0 where
  pub room : length x ≡ most_terms
  pub is : terms_in s t x i ≡ map (term n (length s)) (map (placed_in s) (terms t i))
  pub letters : (j : ℕ) → j < i → (l : Span) → unit_in x j ≡ Unknown l → LettersIn s t j l
  pub bounded : (j : ℕ) → j < i → BoundedSymbol (term_at t j).start (term_at t j).end (noted_symbol x j)

pub naming₀ : {n : ℕ} {s : List ℕ} {t : Terms} {x : List SymbolAt} → length x ≡ most_terms → NamedTo n s t 0 x
unfolding terms_in
naming₀ e = record { room = e; is = refl; letters = λ j h. absurd (omega arith); bounded = λ j h. absurd (omega arith) }

pub naming_in : {s : List ℕ} {t : Terms} {i : ℕ} → Nameable s t → i < count t → InLabel s (term_at t i)
naming_in {s} {t} {i} w h = all_in_at t (count t) i w.inside h

pub naming_more : {n : ℕ} {s : List ℕ} {t : Terms} {i : ℕ} {x : List SymbolAt} {y : SymbolAt} → NamedTo n s t i x → i < length t.items → i < most_terms
    → InLabel s (term_at t i) → BoundedSymbol (term_at t i).start (term_at t i).end y
    → symbol_in s y ≡ symbol n (between s (term_at t i).start (term_at t i).end) → LettersOf s (term_at t i).start (term_at t i).end y.unit
    → NamedTo n s t (i + 1) (set x i y)
naming_more {n} {s} {t} {i} {x} {y} w a h v b e f = record {
  room = length-set x i y ∙ w.room;
  is =
      terms_more s t (set x i y) i
      ∙ rw (kept_terms s t x i y i (omega arith), here, w.is, add-one i, take-suc t.items i (lent 0 0 nothing) a, named_term n (term_at t i) y v e) (sym (
      ap (map (term n (length s))) (map-append (placed_in s) (terms t i) (term_at t i ∷ []))
      ∙ map-append (term n (length s)) (map (placed_in s) (terms t i)) (placed_in s (term_at t i) ∷ [])));
  letters = below_more _ _ (λ j k l u. w.letters j k l (rw (before j k, unit_in) at u)) (λ l u. letters_here y.unit b.unit f l (rw (here, unit_in) at u));
  bounded = below_more _ _ (λ j k. rw (before j k) (w.bounded j k)) (rw here b);
}
  where
    here : noted_symbol (set x i y) i ≡ y
    here = get_or-set_same x i y no_symbol (omega (arith, w.room))

    before : (j : ℕ) → j < i → noted_symbol (set x i y) j ≡ noted_symbol x j
    before j k = get_or-set_other x i j y no_symbol (λ e. omega arith)

pub named_all : {n : ℕ} {s : List ℕ} {t : Terms} {i : ℕ} {x : List SymbolAt} → NamedTo n s t i x → i ≡ count t → AllNamed n s t x
named_all {n} {s} {t} {i} {x} w e = record {
  is = rw e at w.is;
  letters = λ j l h. w.letters j (omega arith) l;
  bounded = λ j h. w.bounded j (omega arith);
}
