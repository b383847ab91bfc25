-- The codes of prefixes and units fit a byte, and a spelling with the same codes in two notations has the same symbol there.
use Prim.Native.Nat.{ℕ, suc, ◌+◌, ◌≤◌, ◌<◌, ◌^◌}
use native.Mathlib.Omega.{arith}
use mathlib.Core.Path.{◌≡◌, refl, sym, ◌∙◌}
use mathlib.Core.Bool.{Bool, true, false}
use mathlib.Core.List.{List, [], ◌∷◌}
use mathlib.Core.Option.{Option, none, some}
use lib.ListN.{length, take, drop}
use Rattle.label.specs.Bytes.{run, past, same}
use Rattle.label.specs.Choice.{pick}
use Rattle.label.specs.Prefixes.{Prefix, prefixes, placed, prefix_named}
use Rattle.label.specs.Units.{KnownUnit, units}
use Rattle.label.specs.Symbols.{Symbol, known, unknown, has_name, row_named, unit_named, KnownCut, cuts, known_cuts, longest, by_longest, by_cut, by_whole, by_quote, unquoted, symbol}
use Rattle.symbols.specs.Views.{with_rest, prefix_cut, after_prefix, unit_cut}
use Rattle.symbols.proofs.SymbolLaws.{chosen, by_cut_is}
use Rattle.record.specs.Record.{code, prefix_code, unit_code}

-- CODES FIT A BYTE

pub record SmallCodes (x : Symbol) : Type 0 where
  pub prefix : prefix_code x < 2 ^ 8
  pub unit : unit_code x < 2 ^ 8

placed_small : (i : ℕ) (l : List ℕ) (ps : List Prefix) → code (placed i l ps) ≤ i + length ps
unfolding placed
placed_small i l [] = omega arith
placed_small i l (p ∷ ps) = go (same l p.name) (placed_small (suc i) l ps)
  where
    go : (b : Bool) → code (placed (suc i) l ps) ≤ suc i + length ps → code (pick b (some i) (placed (suc i) l ps)) ≤ i + suc (length ps)
    go true h = omega arith
    go false h = omega arith

row_small : (n : ℕ) (l : List ℕ) (i : ℕ) (us : List KnownUnit) → code (row_named n l i us) ≤ i + length us
unfolding row_named
row_small n l i [] = omega arith
row_small n l i (u ∷ us) = go (has_name n l u.names) (row_small n l (suc i) us)
  where
    go : (b : Bool) → code (row_named n l (suc i) us) ≤ suc i + length us
        → code (elim b as (λ (z : Bool). Option ℕ) [ true ↦ some i | false ↦ row_named n l (suc i) us ]) ≤ i + suc (length us)
    go true h = omega arith
    go false h = omega arith

prefix_small : (l : List ℕ) → code (prefix_named l) < 2 ^ 8
unfolding prefix_named prefixes
prefix_small l = omega (arith, placed_small 0 l prefixes)

unit_small : (n : ℕ) (l : List ℕ) → code (unit_named n l) < 2 ^ 8
unfolding unit_named units
unit_small n l = omega (arith, row_small n l 0 units)

prefix_cut_small : (k : ℕ) (l : List ℕ) → code (prefix_cut k l) < 2 ^ 8
unfolding prefix_cut
prefix_cut_small k l = go (prefix_named (take k l)) (prefix_small (take k l)) (drop k l)
  where
    go : (p : Option ℕ) → code p < 2 ^ 8 → (r : List ℕ) → code (with_rest p r) < 2 ^ 8
    go p h [] = omega arith
    go p h (c ∷ r) = h

unit_cut_small : (n k : ℕ) (l : List ℕ) → code (unit_cut n k l) < 2 ^ 8
unfolding unit_cut
unit_cut_small n k l = go (prefix_cut k l) (unit_named n (drop k l)) (unit_small n (drop k l))
  where
    go : (p u : Option ℕ) → code u < 2 ^ 8 → code (after_prefix p u) < 2 ^ 8
    go none u h = omega arith
    go (some i) u h = h

chosen_small : (l : List ℕ) (p u q v : Option ℕ) → code p < 2 ^ 8 → code u < 2 ^ 8 → code q < 2 ^ 8 → code v < 2 ^ 8 → SmallCodes (chosen l p u q v)
unfolding chosen prefix_code unit_code
chosen_small l p (some u) q v a b c d = record { prefix = a; unit = b }
chosen_small l p none q (some v) a b c d = record { prefix = c; unit = d }
chosen_small l (some i) none q none a b c d = record { prefix = a; unit = omega arith }
chosen_small l none none (some j) none a b c d = record { prefix = c; unit = omega arith }
chosen_small l none none none none a b c d = record { prefix = omega arith; unit = omega arith }

whole_small : (n : ℕ) (l : List ℕ) (o : Option ℕ) → code o < 2 ^ 8 → SmallCodes (by_whole n l o)
unfolding by_whole prefix_code unit_code
whole_small n l none h = rw (by_cut_is n l)
    (chosen_small l (prefix_cut 2 l) (unit_cut n 2 l) (prefix_cut 1 l) (unit_cut n 1 l) (prefix_cut_small 2 l) (unit_cut_small n 2 l) (prefix_cut_small 1 l) (unit_cut_small n 1 l))
whole_small n l (some u) h = record { prefix = omega arith; unit = h }

pub symbol_small : (n : ℕ) (l : List ℕ) → SmallCodes (symbol n l)
unfolding symbol by_quote prefix_code unit_code
symbol_small n l = go (past unquoted l)
  where
    go : (q : List ℕ) → SmallCodes (by_quote n l (run unquoted l) q)
    go [] = whole_small n l (unit_named n l) (unit_small n l)
    go (c ∷ q) = record { prefix = prefix_small (run unquoted l); unit = omega arith }

-- SYMBOLS BY THEIR CODES

-- what a spelling stands for whose unit is unknown, in any notation
unknown_by : List ℕ → List ℕ → List ℕ → Symbol
unknown_by l p [] = by_longest l (longest (cuts l))
unknown_by l p (c ∷ q) = unknown (prefix_named p) (run unquoted q)

cut_unknown : (l : List ℕ) (ks : List KnownCut) → unit_code (by_cut l ks) ≡ 0 → by_cut l ks ≡ by_longest l (longest (cuts l))
unfolding by_cut unit_code
cut_unknown l [] e = refl
cut_unknown l (k ∷ ks) e = absurd (omega arith)

whole_unknown : (n : ℕ) (l : List ℕ) (o : Option ℕ) → unit_code (by_whole n l o) ≡ 0 → by_whole n l o ≡ by_longest l (longest (cuts l))
unfolding by_whole unit_code
whole_unknown n l none e = cut_unknown l (known_cuts n l) e
whole_unknown n l (some u) e = absurd (omega arith)

symbol_unknown : (n : ℕ) (l : List ℕ) → unit_code (symbol n l) ≡ 0 → symbol n l ≡ unknown_by l (run unquoted l) (past unquoted l)
unfolding symbol by_quote unknown_by
symbol_unknown n l e = go (past unquoted l) e
  where
    go : (q : List ℕ) → unit_code (by_quote n l (run unquoted l) q) ≡ 0 → by_quote n l (run unquoted l) q ≡ unknown_by l (run unquoted l) q
    go [] e = whole_unknown n l (unit_named n l) e
    go (c ∷ q) e = refl

same_code : (p q : Option ℕ) → code p ≡ code q → p ≡ q
same_code none none e = refl
same_code none (some j) e = absurd (omega arith)
same_code (some i) none e = absurd (omega arith)
same_code (some i) (some j) e = let z : i ≡ j = omega arith in rw z

same_symbol : (x y : Symbol) → (unit_code x ≡ 0 → unit_code y ≡ 0 → x ≡ y) → prefix_code x ≡ prefix_code y → unit_code x ≡ unit_code y → x ≡ y
unfolding prefix_code unit_code
same_symbol (known p u) (known q v) f a b = let z : u ≡ v = omega arith in rw (same_code p q a, z)
same_symbol (known p u) (unknown q m) f a b = absurd (omega arith)
same_symbol (unknown p l) (known q v) f a b = absurd (omega arith)
same_symbol (unknown p l) (unknown q m) f a b = f refl refl

-- a spelling with the same codes in two notations stands for the same there
pub symbols_same : (n m : ℕ) (l : List ℕ) → prefix_code (symbol n l) ≡ prefix_code (symbol m l) → unit_code (symbol n l) ≡ unit_code (symbol m l)
    → symbol n l ≡ symbol m l
symbols_same n m l = same_symbol (symbol n l) (symbol m l) (λ a b. symbol_unknown n l a ∙ sym (symbol_unknown m l b))
