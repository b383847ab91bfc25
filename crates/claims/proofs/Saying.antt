-- What a reading says, in order: its words are the spelling of that.
use Prim.Native.Nat.{ℕ, suc}
use mathlib.Core.Path.{◌≡◌, refl, ap, ◌∙◌}
use mathlib.Core.Bool.{Bool, true, false}
use mathlib.Core.List.{List, [], ◌∷◌, ◌++◌, map, append_assoc}
use mathlib.Core.Option.{Option, none, some}
use lib.Dec.{eqb}
use lib.IntN.{ℤ, pos, negsuc, nat_abs}
use Rattle.label.specs.declared.Exponent.{Exponent}
use Rattle.label.specs.declared.Tens.{Tens}
use Rattle.label.specs.Bytes.{bytes}
use Rattle.label.specs.Choice.{pick}
use Rattle.label.specs.Symbols.{Symbol, known, unknown}
use Rattle.label.specs.Limits.{parts_of_one, Fraction, lowest_terms}
use Rattle.label.specs.Reading.{Term, Reading}
use Rattle.label.specs.Agreement.{Raised, raised_term}
use Rattle.label.specs.Conversion.{same_whole}
use Rattle.label.specs.Words.{Word, reserved_words, number_words, factor_words, prefix_words, letter_words, symbol_words, fraction_words, exponent_words, term_words, terms_words, words}
use Rattle.claims.proofs.Heard.{Said, reserved, prefix_said, unit_said, letter_said, number_said, spell}

-- WHAT IS SAID, before w

abbrev pub says_unit : Said
says_unit = reserved 0

abbrev pub says_end : Said
says_end = reserved 1

abbrev pub says_ten : Said
says_ten = reserved 2

abbrev pub says_to : Said
says_to = reserved 3

abbrev pub says_the : Said
says_the = reserved 4

abbrev pub says_over : Said
says_over = reserved 5

abbrev pub says_minus : Said
says_minus = reserved 6

unfoldable pub say_prefix : Option ℕ → List Said → List Said
say_prefix none w = w
say_prefix (some i) w = prefix_said i ∷ w

unfoldable pub say_letters : List ℕ → List Said → List Said
say_letters [] w = says_end ∷ w
say_letters (c ∷ l) w = letter_said c ∷ say_letters l w

unfoldable pub say_symbol : Symbol → List Said → List Said
say_symbol (known p u) w = say_prefix p (unit_said u ∷ w)
say_symbol (unknown p l) w = say_prefix p (says_unit ∷ say_letters l w)

unfoldable pub say_whole : ℤ → List Said → List Said
say_whole (pos n) w = number_said n ∷ w
say_whole (negsuc n) w = says_minus ∷ number_said (suc n) ∷ w

-- behind a numerator, whether or not the denominator is 1
unfoldable pub say_over : Bool → ℕ → List Said → List Said
say_over true d w = w
say_over false d w = says_over ∷ number_said d ∷ w

unfoldable pub say_fraction : Fraction → List Said → List Said
say_fraction f w = say_whole f.numerator (say_over (eqb f.denominator 1) f.denominator w)

-- behind a unit, whether or not the exponent is 1
unfoldable pub say_power : Bool → Fraction → List Said → List Said
say_power true f w = w
say_power false f w = says_to ∷ says_the ∷ say_fraction f w

unfoldable pub say_exponent : Exponent → List Said → List Said
say_exponent e w = say_power (same_whole e.0 (pos parts_of_one)) (lowest_terms e) w

unfoldable pub say_terms : List Raised → List Said
say_terms [] = []
say_terms (x ∷ xs) = say_symbol x.symbol (say_exponent x.exponent (say_terms xs))

-- before the terms, whether or not k is 0
unfoldable pub say_ten : Bool → ℤ → List Said → List Said
say_ten true k w = w
say_ten false k w = says_ten ∷ says_to ∷ says_the ∷ say_whole k w

unfoldable pub say_label : Tens → List Raised → List Said
say_label k xs = say_ten (eqb (nat_abs k.0) 0) k.0 (say_terms xs)

-- THE WORDS ARE ITS SPELLING

prefix_spelled : (p : Option ℕ) (ws : List Word) (w : List Said) → ws ≡ map spell w → prefix_words p ++ ws ≡ map spell (say_prefix p w)
unfolding prefix_words say_prefix spell
prefix_spelled none ws w e = e
prefix_spelled (some i) ws w e = ap (λ (l : List Word). spell (prefix_said i) ∷ l) e

letters_spelled : (l : List ℕ) (w : List Said) → (letter_words l ++ bytes "end" ∷ []) ++ map spell w ≡ map spell (say_letters l w)
unfolding letter_words say_letters spell reserved_words
letters_spelled [] w = refl
letters_spelled (c ∷ l) w = ap (λ (x : List Word). (c ∷ []) ∷ x) (letters_spelled l w)

symbol_spelled : (x : Symbol) (w : List Said) → symbol_words x ++ map spell w ≡ map spell (say_symbol x w)
unfolding symbol_words say_symbol spell reserved_words
symbol_spelled (known p u) w = append_assoc (prefix_words p) _ _ ∙ prefix_spelled p _ (unit_said u ∷ w) refl
symbol_spelled (unknown p l) w =
    append_assoc (prefix_words p) _ _ ∙ prefix_spelled p _ (says_unit ∷ say_letters l w) (ap (λ (x : List Word). bytes "unit" ∷ x) (letters_spelled l w))

whole_spelled : (z : ℤ) (ws : List Word) (w : List Said) → ws ≡ map spell w → number_words z ++ ws ≡ map spell (say_whole z w)
unfolding number_words say_whole spell reserved_words
whole_spelled (pos n) ws w e = ap (λ (l : List Word). spell (number_said n) ∷ l) e
whole_spelled (negsuc n) ws w e = ap (λ (l : List Word). bytes "minus" ∷ spell (number_said (suc n)) ∷ l) e

over_spelled : (b : Bool) (d : ℕ) (w : List Said) → pick b [] (bytes "over" ∷ spell (number_said d) ∷ []) ++ map spell w ≡ map spell (say_over b d w)
unfolding say_over spell reserved_words
over_spelled true d w = refl
over_spelled false d w = refl

fraction_spelled : (f : Fraction) (w : List Said) → fraction_words f ++ map spell w ≡ map spell (say_fraction f w)
unfolding fraction_words say_fraction spell
fraction_spelled f w =
    append_assoc (number_words f.numerator) _ _ ∙ whole_spelled f.numerator _ _ (over_spelled (eqb f.denominator 1) f.denominator w)

exponent_spelled : (e : Exponent) (w : List Said) → exponent_words e ++ map spell w ≡ map spell (say_exponent e w)
unfolding exponent_words say_exponent say_power spell reserved_words
exponent_spelled e w = go (same_whole e.0 (pos parts_of_one))
  where
    go : (b : Bool) → pick b [] (bytes "to" ∷ bytes "the" ∷ fraction_words (lowest_terms e)) ++ map spell w ≡ map spell (say_power b (lowest_terms e) w)
    go true = refl
    go false = ap (λ (l : List Word). bytes "to" ∷ bytes "the" ∷ l) (fraction_spelled (lowest_terms e) w)

terms_spelled : (ts : List Term) → terms_words ts ≡ map spell (say_terms (map raised_term ts))
unfolding terms_words term_words say_terms
terms_spelled [] = refl
terms_spelled (t ∷ ts) =
    append_assoc (symbol_words t.symbol) (exponent_words t.exponent) (terms_words ts)
    ∙ ap (λ (l : List Word). symbol_words t.symbol ++ (exponent_words t.exponent ++ l)) (terms_spelled ts)
    ∙ ap (λ (l : List Word). symbol_words t.symbol ++ l) (exponent_spelled t.exponent _)
    ∙ symbol_spelled t.symbol _

factor_spelled : (b : Bool) (k : ℤ) (ws : List Word) (w : List Said) → ws ≡ map spell w
    → pick b [] (bytes "ten" ∷ bytes "to" ∷ bytes "the" ∷ number_words k) ++ ws ≡ map spell (say_ten b k w)
unfolding say_ten spell reserved_words
factor_spelled true k ws w e = e
factor_spelled false k ws w e = ap (λ (l : List Word). bytes "ten" ∷ bytes "to" ∷ bytes "the" ∷ l) (whole_spelled k ws w e)

pub words_spelled : (r : Reading) → words r ≡ map spell (say_label r.k (map raised_term r.terms))
unfolding words factor_words say_label
words_spelled r = factor_spelled (eqb (nat_abs r.k.0) 0) r.k.0 (terms_words r.terms) _ (terms_spelled r.terms)
