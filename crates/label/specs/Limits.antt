-- The numbers that bound a label, and the values of powers and factors within them.
use Rattle.std.specs.Prelude.{ℕ, suc, ◌+◌, ◌*◌, ◌-◌, ◌/◌, ◌%◌, ◌^◌, max, pred, Bool, true, false, ◌&&◌, not, List, [], ◌∷◌, ◌++◌, leb, eqb, ℤ, pos, neg_ℤ, nat_abs, length}
use Rattle.std.proofs.Math.Option.{Option, none, some}
use Rattle.label.specs.declared.Exponent.{Exponent}
use Rattle.label.specs.declared.Tens.{Tens}
use Rattle.label.specs.Bytes.{open_bracket, close_bracket, digit_zero}
use Rattle.label.specs.Choice.{pick}
use Rattle.label.specs.Lexical.{Written, unwritten, whole, decimal, fraction, Factor, no_factor, ten_to, zeros}

-- "Text: at most 255 bytes. Terms: at most 32. Open brackets at once: at most 8, those of groups and of powers alike."
abbrev pub most_bytes : ℕ
most_bytes = 255

abbrev pub most_terms : ℕ
most_terms = 32

abbrev pub most_brackets : ℕ
most_brackets = 8

-- "Each digit run: at most 4 digits (not for a plain factor)."
abbrev pub most_digits : ℕ
most_digits = 4

-- "An exponent in lowest terms has a denominator that divides 60, and a size of at most 99."
abbrev pub parts_of_one : ℕ
parts_of_one = 60

abbrev pub largest_exponent : ℕ
largest_exponent = 99

abbrev pub most_sixtieths : ℕ
most_sixtieths = parts_of_one * largest_exponent

-- "A leading factor is ten to the k, k from -99 to 99."
abbrev pub largest_k : ℕ
largest_k = 99

-- NUMBERS

-- the number that digits write, after the number n
unfoldable pub number_from : ℕ → List ℕ → ℕ
number_from n [] = n
number_from n (c ∷ s) = number_from (n * 10 + (c - digit_zero)) s

unfoldable pub number : List ℕ → ℕ
number s = number_from 0 s

-- n under a sign
abbrev pub signed : Bool → ℕ → ℤ
signed true n = neg_ℤ (pos n)
signed false n = pos n

abbrev pub exclusive_or : Bool → Bool → Bool
exclusive_or true b = not b
exclusive_or false b = b

-- EXPONENTS

-- a power's sign, its size as a fraction, and whether its digit runs are short
pub record Ratio : Type 0 where
  pub negative : Bool
  pub numerator : ℕ
  pub denominator : ℕ
  pub short : Bool

abbrev pub short : List ℕ → Bool
short ds = leb (length ds) most_digits

unfoldable pub ratio : Written → Ratio
ratio unwritten = record { negative = false; numerator = 1; denominator = 1; short = true }
ratio (whole n) = record { negative = n.negative; numerator = number n.digits; denominator = 1; short = short n.digits }
ratio (decimal n ds) = record {
  negative = n.negative;
  numerator = number (n.digits ++ ds);
  denominator = 10 ^ length ds;
  short = short n.digits && short ds;
}
ratio (fraction n ds) = record {
  negative = n.negative;
  numerator = number n.digits;
  denominator = number ds;
  short = short n.digits && short ds;
}

-- A fraction is a whole number of sixtieths exactly if its denominator in lowest terms divides 60.
abbrev pub in_sixtieths : Ratio → Bool
in_sixtieths q = eqb (parts_of_one * q.numerator % q.denominator) 0

abbrev pub sixtieths : Ratio → ℕ
sixtieths q = parts_of_one * q.numerator / q.denominator

-- None of the bounds on an exponent is broken. Document 02: "A decimal whose digits are all 0 is grammatical and gets refusal 5."
abbrev pub bounded : Ratio → Bool
bounded q = q.short && (leb 1 q.numerator && (in_sixtieths q && leb (sixtieths q) most_sixtieths))

-- the exponent that a power stands for, turned over by slashes or not, if it keeps its bounds
unfoldable pub exponent_in : Bool → Ratio → Option Exponent
exponent_in turned q = pick (bounded q) (some (record { 0 = signed (exclusive_or turned q.negative) (sixtieths q) })) none

unfoldable pub exponent_of : Bool → Written → Option Exponent
exponent_of turned w = exponent_in turned (ratio w)

-- FACTORS

-- ten to a number that keeps the bound on k
abbrev pub tens : Bool → Bool → ℕ → Option Tens
tens short negative k = pick (short && leb k largest_k) (some (record { 0 = signed negative k })) none

-- k, 0 without a factor, if the factor keeps its bounds
unfoldable pub k_of : Factor → Option Tens
k_of no_factor = some (record { 0 = pos 0 })
k_of (ten_to n) = tens (short n.digits) n.negative (number n.digits)
k_of (zeros k) = tens true false k

-- BRACKETS

-- how many brackets are open after a byte
abbrev pub opened : ℕ → ℕ → ℕ
opened d c = pick (eqb c open_bracket) (suc d) (pick (eqb c close_bracket) (pred d) d)

-- the most brackets that are open at once in a text, d being open before it
unfoldable pub deepest_from : ℕ → List ℕ → ℕ
deepest_from d [] = d
deepest_from d (c ∷ s) = max d (deepest_from (opened d c) s)

unfoldable pub deepest : List ℕ → ℕ
deepest s = deepest_from 0 s

-- LOWEST TERMS

-- an exponent as a fraction
pub record Fraction : Type 0 where
  pub numerator : ℤ
  pub denominator : ℕ

-- the divisors of 60
abbrev pub divisors : List ℕ
divisors = 1 ∷ 2 ∷ 3 ∷ 4 ∷ 5 ∷ 6 ∷ 10 ∷ 12 ∷ 15 ∷ 20 ∷ 30 ∷ 60 ∷ []

-- the first of some divisors of 60 that makes a whole number of e sixtieths
unfoldable pub denominator_among : ℕ → List ℕ → ℕ
denominator_among e [] = parts_of_one
denominator_among e (q ∷ qs) = elim (eqb (e * q % parts_of_one) 0) [ true ↦ q | false ↦ denominator_among e qs ]

unfoldable pub denominator_of : ℤ → ℕ
denominator_of e = denominator_among (nat_abs e) divisors

abbrev pub negative : ℤ → Bool
negative (ℤ.pos n) = false
negative (ℤ.negsuc n) = true

unfoldable pub lowest_terms : Exponent → Fraction
lowest_terms e = record {
  numerator = signed (negative e.0) (nat_abs e.0 * denominator_of e.0 / parts_of_one);
  denominator = denominator_of e.0;
}
