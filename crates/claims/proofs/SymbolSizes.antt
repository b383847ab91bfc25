-- How many bytes the words of a unit have, beside those of its spelling.
use Prim.Native.Nat.{ℕ, zero, suc, ◌+◌, ◌*◌, ◌≤◌}
use native.Mathlib.Omega.{arith}
use mathlib.Core.Path.{◌≡◌, refl, sym, ◌∙◌}
use mathlib.Core.Bool.{Bool, true, false, ◌&&◌, ◌||◌}
use mathlib.Core.List.{List, [], ◌∷◌, ◌++◌}
use mathlib.Core.Option.{Option, none, some}
use lib.Dec.{leb}
use lib.ListN.{length, get_or}
use borrow.Author.Tests.{leb-true}
use Rattle.label.specs.Bytes.{bytes, same}
use Rattle.label.specs.Notations.{member}
use Rattle.label.specs.Letters.{prefix_letters}
use Rattle.label.specs.Prefixes.{prefix_named}
use Rattle.label.specs.Units.{Name, KnownUnit, units, unit_at}
use Rattle.label.specs.Symbols.{Symbol, has_name, unit_named}
use Rattle.label.specs.Words.{Word, spoken_prefixes, spoken_units, prefix_words, letter_words, symbol_words}
use Rattle.label.proofs.Basics.{false_true, none_some, and_left, and_right, same_is}
use Rattle.label.proofs.Computing.{symbols_compute}
use Rattle.label.proofs.Owned.{no_name, unit_owned}
use Rattle.claims.proofs.Bounds.{every_row, at_row}
use Rattle.claims.proofs.SpokenSymbols.{Speakable}
use Rattle.claims.proofs.WordSizes.{cost, cost_nil, cost_cons, cost_append}

-- PREFIXES

short_prefix : Word → Bool
short_prefix w = leb (length w) 5

prefixes_short : every_row short_prefix spoken_prefixes ≡ true
unfolding every_row short_prefix spoken_prefixes bytes
prefixes_short = refl

prefix_short : (i : ℕ) → length (get_or spoken_prefixes i []) ≤ 5
unfolding short_prefix
prefix_short i = leb-true (length (get_or spoken_prefixes i [])) 5 (at_row short_prefix spoken_prefixes [] prefixes_short refl i)

-- 1 for a prefix
abbrev one_if_prefixed : Option ℕ → ℕ
one_if_prefixed none = 0
one_if_prefixed (some i) = 1

-- a prefix has a letter, and its word at most five
record PrefixCost (p : Option ℕ) : Type 0 where
  few : one_if_prefixed p ≤ 1
  has_letter : one_if_prefixed p ≤ length (prefix_letters p)
  short : cost (prefix_words p) ≤ 6 * one_if_prefixed p

named_letters : (l : List ℕ) (i : ℕ) → prefix_named l ≡ some i → 1 ≤ length l
named_letters [] i h = absurd (none_some (sym no_name ∙ h))
named_letters (c ∷ l) i h = omega arith

prefix_cost : (p : Option ℕ) → prefix_named (prefix_letters p) ≡ p → PrefixCost p
unfolding prefix_words
prefix_cost none h = record { few = omega arith; has_letter = omega arith; short = omega (arith, cost_nil) }
prefix_cost (some i) h = record {
  few = omega arith;
  has_letter = named_letters (prefix_letters (some i)) i h;
  short = omega (arith, cost_cons (get_or spoken_prefixes i []) [], cost_nil, prefix_short i);
}

-- NAMES

-- a spoken name beside the unit's names: at most 62 fifths of a byte, and 9 for each letter
short_name : Word → List Name → Bool
short_name w [] = true
short_name w (x ∷ xs) = leb (5 * length w) (62 + 9 * length x.letters) && short_name w xs

short_names : List Word → List KnownUnit → Bool
short_names ws [] = true
short_names [] (u ∷ us) = false
short_names (w ∷ ws) (u ∷ us) = short_name w u.names && short_names ws us

units_short : short_names spoken_units units ≡ true
unfolding short_names short_name spoken_units symbols_compute
units_short = refl

unit_short : (ws : List Word) (us : List KnownUnit) (d : KnownUnit) → d.names ≡ [] → short_names ws us ≡ true → (i : ℕ) → short_name (get_or ws i []) (get_or us i d).names ≡ true
unfolding short_names short_name
unit_short ws [] d e t i = rw e refl
unit_short [] (u ∷ us) d e t i = absurd (false_true t)
unit_short (w ∷ ws) (u ∷ us) d e t zero = and_left (short_name w u.names) (short_names ws us) t
unit_short (w ∷ ws) (u ∷ us) d e t (suc i) = unit_short ws us d e (and_right (short_name w u.names) (short_names ws us) t) i

spoken_name_short : (n : ℕ) (l : List ℕ) (w : Word) (xs : List Name) → short_name w xs ≡ true → has_name n l xs ≡ true → 5 * length w ≤ 62 + 9 * length l
unfolding short_name has_name
spoken_name_short n l w [] t h = absurd (false_true h)
spoken_name_short n l w (x ∷ xs) t h = go (same l x.letters) (member n x.known_in) refl (λ g. spoken_name_short n l w xs (and_right (leb (5 * length w) (62 + 9 * length x.letters)) (short_name w xs) t) g) h
  where
    go : (a b : Bool) → same l x.letters ≡ a → (has_name n l xs ≡ true → 5 * length w ≤ 62 + 9 * length l) → ((a && b) || has_name n l xs) ≡ true → 5 * length w ≤ 62 + 9 * length l
    go true true e ih h = rw (same_is l x.letters e) (leb-true (5 * length w) (62 + 9 * length x.letters) (and_left (leb (5 * length w) (62 + 9 * length x.letters)) (short_name w xs) t))
    go true false e ih h = ih h
    go false b e ih h = ih h

unit_cost : (n : ℕ) (l : List ℕ) (u : ℕ) → unit_named n l ≡ some u → 5 * length (get_or spoken_units u []) ≤ 62 + 9 * length l
unit_cost n l u h = spoken_name_short n l (get_or spoken_units u []) (unit_at u).names (unit_short spoken_units units _ refl units_short u) (unit_owned n l u h)

-- SYMBOLS

letters_cost : (l : List ℕ) → cost (letter_words l ++ bytes "end" ∷ []) ≡ 2 * length l + 4
unfolding letter_words bytes
letters_cost [] = omega (arith, cost_cons (bytes "end") [], cost_nil)
letters_cost (c ∷ l) = omega (arith, cost_cons (c ∷ []) (letter_words l ++ bytes "end" ∷ []), letters_cost l)

-- how many bytes c the words of a unit have, whose spelling has so many: of a known one 88 fifths and 9 for each byte, of an unknown one 13 and 2
-- for each
pub data SymbolCost (size c : ℕ) : Type 0 where
  of_known : 5 * c ≤ 88 + 9 * size → SymbolCost size c
  of_unknown : c ≤ 13 + 2 * size → SymbolCost size c

pub symbol_cost : {n size : ℕ} {x : Symbol} → Speakable n size x → SymbolCost size (cost (symbol_words x))
unfolding symbol_words bytes
symbol_cost {n} (Speakable.a_unit {p = p} {u = u} l g h k) =
    let w = prefix_cost p g in
    SymbolCost.of_known (omega (arith, cost_append (prefix_words p) (get_or spoken_units u [] ∷ []), cost_cons (get_or spoken_units u []) [], cost_nil, w.few, w.has_letter, w.short, unit_cost n l u h))
symbol_cost (Speakable.letters {p = p} {l = l} g d k) =
    let w = prefix_cost p g in
    SymbolCost.of_unknown (
    omega (arith, cost_append (prefix_words p) (bytes "unit" ∷ letter_words l ++ bytes "end" ∷ []), cost_cons (bytes "unit") (letter_words l ++ bytes "end" ∷ []), letters_cost l, w.few, w.has_letter, w.short))
