-- How many bytes the words of an exponent have, beside those of the power that is written.
use Prim.Native.Nat.{ℕ, ◌+◌, ◌*◌, ◌/◌, ◌≤◌}
use native.Mathlib.Omega.{arith}
use native.Mathlib.Nat.{mul-le-mul_left, one-le-pow}
use mathlib.Core.Path.{◌≡◌, refl, sym, ap, ◌∙◌}
use mathlib.Core.Bool.{Bool, true, false}
use mathlib.Core.List.{List, [], ◌∷◌, ◌++◌}
use mathlib.Core.Option.{some}
use lib.Dec.{T}
use lib.IntN.{nat_abs}
use lib.ListN.{length, length-append}
use Rattle.label.specs.declared.Exponent.{Exponent}
use Rattle.label.specs.declared.Rules.{Rules}
use Rattle.label.specs.Bytes.{digit, digit_zero, digit_one, all, close_bracket, point, slash}
use Rattle.label.specs.Lexical.{Numeral, Written, unwritten, whole, decimal, fraction, Unsigned, Signed, Integer, Digits, Sign, Decimal, Bracketed, Power}
use Rattle.label.specs.Limits.{number_from, number, signed, exclusive_or, negative, Ratio, ratio, in_sixtieths, sixtieths, exponent_in, exponent_of, denominator_of, lowest_terms, parts_of_one}
use Rattle.label.specs.Words.{exponent_words}
use Rattle.label.proofs.Basics.{T_and, true→T, nonzero_digit}
use Rattle.label.proofs.Exponents.{whole_sixtieths, exponent_kept}
use Rattle.label.proofs.Figures.{size_signed, lowered}
use Rattle.label.proofs.General.{ExponentBy}
use Rattle.label.proofs.Texts.{all_append}
use Rattle.claims.proofs.Lowest.{lowest}
use Rattle.claims.proofs.ZeroNumbers.{unsigned_positive}
use Rattle.claims.proofs.WordSizes.{cost, figures_within, minus_cost, minus_signed, over_cost, no_over_cost, exponent_cost}

-- LOWEST TERMS

-- an exponent in lowest terms has no more than the ratio that is written
record NoMore (turned : Bool) (q : Ratio) (e : Exponent) : Type 0 where
  minus_kept : minus_cost (negative (lowest_terms e).numerator) ≤ minus_cost (exclusive_or turned q.negative)
  numerator : nat_abs (lowest_terms e).numerator ≤ q.numerator
  denominator : (lowest_terms e).denominator ≤ q.denominator

lowest_minus : (b : Bool) (n : ℕ) (e : Exponent) → signed b n ≡ e.0 → minus_cost (negative (lowest_terms e).numerator) ≤ minus_cost b
unfolding lowest_terms
lowest_minus b n e z = omega (arith, minus_signed (negative e.0) (nat_abs e.0 * denominator_of e.0 / parts_of_one), rw z at (minus_signed b n))

sixtieths_lowest : (turned : Bool) (q : Ratio) (e : Exponent) → 1 ≤ q.denominator → in_sixtieths q ≡ true → signed (exclusive_or turned q.negative) (sixtieths q) ≡ e.0 → NoMore turned q e
sixtieths_lowest turned q e h i z =
    let a : nat_abs e.0 ≡ sixtieths q = ap nat_abs (sym z) ∙ size_signed (exclusive_or turned q.negative) (sixtieths q) in
    let w = lowest e in
    let s : nat_abs e.0 * q.denominator ≡ parts_of_one * q.numerator = rw a (whole_sixtieths q i) in
    let d = w.least q.numerator q.denominator h (omega arith) in
    record {
      minus_kept = lowest_minus (exclusive_or turned q.negative) (sixtieths q) e z;
      numerator = omega (arith, w.equal, mul-le-mul_left (nat_abs e.0) d);
      denominator = d;
    }

ratio_lowest : (turned : Bool) (q : Ratio) (e : Exponent) → 1 ≤ q.denominator → exponent_in turned q ≡ some e → NoMore turned q e
ratio_lowest turned q e h g = let k = exponent_kept turned q e g in sixtieths_lowest turned q e h k.whole k.is

-- POWERS

abbrev sign_size : Bool → ℕ
sign_size true = 1
sign_size false = 0

-- how many bytes a numeral has at least
abbrev pub numeral_size : Numeral → ℕ
numeral_size n = sign_size n.negative + length n.digits

-- how many bytes a power has at least
pub power_size : Written → ℕ
power_size unwritten = 0
power_size (whole n) = numeral_size n
power_size (decimal n ds) = numeral_size n + length ds + 3
power_size (fraction n ds) = numeral_size n + length ds + 3

-- one digit or more
pub record DigitRun (l : List ℕ) : Type 0 where
  pub some_digits : 1 ≤ length l
  pub all_digits : T (all digit l)

pub unsigned_run : {l : List ℕ} → Unsigned l → DigitRun l
unfolding all
unsigned_run (Unsigned.unsigned {c = c} {s = s} t a) = record { some_digits = omega arith; all_digits = T_and (digit c) (all digit s) (true→T (nonzero_digit c t)) a }

-- one digit or more, not all of them 0
pub record PositiveRun (l : List ℕ) : Type 0 where
  pub run : DigitRun l
  pub positive : 1 ≤ number l

positive_run : {l : List ℕ} → Unsigned l → PositiveRun l
positive_run u = record { run = unsigned_run u; positive = unsigned_positive u }

digits_run : {l : List ℕ} → Digits l → DigitRun l
unfolding all
digits_run (Digits.digits {c = c} {s = s} t a) = record { some_digits = omega arith; all_digits = T_and (digit c) (all digit s) t a }

-- the digits of a power
pub data PowerRuns : Written → Type 0 where
  no_run : PowerRuns unwritten
  whole_run : {n : Numeral} → PositiveRun n.digits → PowerRuns (whole n)
  decimal_runs : {n : Numeral} {ds : List ℕ} → DigitRun n.digits → DigitRun ds → PowerRuns (decimal n ds)
  fraction_runs : {n : Numeral} {ds : List ℕ} → PositiveRun n.digits → PositiveRun ds → PowerRuns (fraction n ds)

-- a power by its digits, in the bytes s
pub record WrittenIn (s : List ℕ) (w : Written) : Type 0 where
  pub by_runs : PowerRuns w
  pub enough : power_size w ≤ length s

pub integer_size : {s : List ℕ} {n : Numeral} → Integer s n → numeral_size n ≤ length s
integer_size (Integer.signed (Signed.positive u)) = omega arith
integer_size (Integer.signed (Signed.negative u)) = omega arith
integer_size (Integer.plain u) = omega arith

pub integer_digits : {s : List ℕ} {n : Numeral} → Integer s n → Unsigned n.digits
integer_digits (Integer.signed (Signed.positive u)) = u
integer_digits (Integer.signed (Signed.negative u)) = u
integer_digits (Integer.plain u) = u

integer_run : {s : List ℕ} {n : Numeral} → Integer s n → PositiveRun n.digits
integer_run i = positive_run (integer_digits i)

-- a sign and a single 0
sign_size_in : {s : List ℕ} {b : Bool} → Sign s b → sign_size b ≤ length s
sign_size_in Sign.positive = omega arith
sign_size_in Sign.negative = omega arith
sign_size_in Sign.none = omega arith

zero_run : DigitRun (digit_zero ∷ [])
unfolding all digit
zero_run = record { some_digits = omega arith; all_digits = tt }

bracketed_in : {s : List ℕ} {w : Written} → Bracketed s w → WrittenIn s w
unfolding power_size
bracketed_in (Bracketed.an_integer {s = s} i) = record { by_runs = PowerRuns.whole_run (integer_run i); enough = omega (arith, length-append s (close_bracket ∷ []), integer_size i) }
bracketed_in (Bracketed.a_decimal (Decimal.pointed {s = s} {d = ds} i g)) = record {
  by_runs = PowerRuns.decimal_runs (integer_run i).run (digits_run g);
  enough = omega (arith, length-append (s ++ point ∷ ds) (close_bracket ∷ []), length-append s (point ∷ ds), integer_size i);
}
bracketed_in (Bracketed.a_decimal (Decimal.below_one {s = s} {d = ds} i g)) = record {
  by_runs = PowerRuns.decimal_runs zero_run (digits_run g);
  enough = omega (arith, length-append (s ++ digit_zero ∷ point ∷ ds) (close_bracket ∷ []), length-append s (digit_zero ∷ point ∷ ds), sign_size_in i);
}
bracketed_in (Bracketed.a_fraction {s = s} {d = ds} i g) = record {
  by_runs = PowerRuns.fraction_runs (integer_run i) (positive_run g);
  enough = omega (arith, length-append (s ++ slash ∷ ds) (close_bracket ∷ []), length-append s (slash ∷ ds), integer_size i);
}

integer_in : {s : List ℕ} {n : Numeral} → Integer s n → WrittenIn s (whole n)
unfolding power_size
integer_in i = record { by_runs = PowerRuns.whole_run (integer_run i); enough = integer_size i }

power_written_in : {s : List ℕ} {w : Written} → Power s w → WrittenIn s w
power_written_in (Power.integer i) = integer_in i
power_written_in (Power.bracketed b) = bracketed_in b

pub exponent_in_text : {r : Rules} {e : List ℕ} {w : Written} → ExponentBy r e w → WrittenIn e w
unfolding power_size
exponent_in_text ExponentBy.none = record { by_runs = PowerRuns.no_run; enough = omega arith }
exponent_in_text (ExponentBy.integer f i) = integer_in i
exponent_in_text (ExponentBy.bracketed f b) = bracketed_in b
exponent_in_text (ExponentBy.stars f p) = let d = power_written_in p in record { by_runs = d.by_runs; enough = omega (arith, d.enough) }
exponent_in_text (ExponentBy.caret f p) = let d = power_written_in p in record { by_runs = d.by_runs; enough = omega (arith, d.enough) }

-- THE WORDS OF A POWER

-- by the digits of its numerator, with a denominator and without
module _ {turned : Bool} {q : Ratio} {e : Exponent} (w : NoMore turned q e) where
  over_written : (l : List ℕ) → DigitRun l → q.numerator ≤ number l → cost (exponent_words e) ≤ 16 + minus_cost (exclusive_or turned q.negative) + length l
  over_written l d h =
      omega (arith, exponent_cost e, w.minus_kept, over_cost (lowest_terms e).denominator (lowered e).within, figures_within (nat_abs (lowest_terms e).numerator) l d.some_digits d.all_digits (omega (arith, w.numerator)))

  whole_written : (l : List ℕ) → DigitRun l → q.numerator ≤ number l → q.denominator ≡ 1 → cost (exponent_words e) ≤ 8 + minus_cost (exclusive_or turned q.negative) + length l
  whole_written l d h i =
      omega (arith, exponent_cost e, w.minus_kept, no_over_cost (lowest_terms e).denominator (lowered e).positive (omega (arith, w.denominator)), figures_within (nat_abs (lowest_terms e).numerator) l d.some_digits d.all_digits (omega (arith, w.numerator)))

-- 1 if slashes do not turn the power, and 0 if they do
abbrev pub upright : Bool → ℕ
upright true = 0
upright false = 1

-- how many bytes c the words of a power of so many bytes have: at most 15 and 9 fifths for each of its own; and at most 15 and 2 for each, less 2 if
-- no slash turns it
pub record PowerCost (turned : Bool) (size c : ℕ) : Type 0 where
  pub in_fifths : 5 * c ≤ 75 + 9 * size
  pub by_twos : c + 2 * upright turned ≤ 15 + 2 * size

unwritten_cost : (turned : Bool) (c : ℕ) → c ≤ 8 + minus_cost (exclusive_or turned false) + 1 → PowerCost turned 0 c
unwritten_cost true c h = record { in_fifths = omega arith; by_twos = omega arith }
unwritten_cost false c h = record { in_fifths = omega arith; by_twos = omega arith }

whole_cost : (turned minused : Bool) (c m : ℕ) → c ≤ 8 + minus_cost (exclusive_or turned minused) + m → PowerCost turned (sign_size minused + m) c
whole_cost true true c m h = record { in_fifths = omega arith; by_twos = omega arith }
whole_cost true false c m h = record { in_fifths = omega arith; by_twos = omega arith }
whole_cost false true c m h = record { in_fifths = omega arith; by_twos = omega arith }
whole_cost false false c m h = record { in_fifths = omega arith; by_twos = omega arith }

over_whole_cost : (turned minused : Bool) (c m d : ℕ) → 1 ≤ m → 1 ≤ d → c ≤ 16 + minus_cost (exclusive_or turned minused) + (m + d) → PowerCost turned (sign_size minused + m + d + 3) c
over_whole_cost true true c m d i j h = record { in_fifths = omega arith; by_twos = omega arith }
over_whole_cost true false c m d i j h = record { in_fifths = omega arith; by_twos = omega arith }
over_whole_cost false true c m d i j h = record { in_fifths = omega arith; by_twos = omega arith }
over_whole_cost false false c m d i j h = record { in_fifths = omega arith; by_twos = omega arith }

one_run : DigitRun (digit_one ∷ [])
unfolding all digit
one_run = record { some_digits = omega arith; all_digits = tt }

pub power_cost : (turned : Bool) {w : Written} (e : Exponent) → PowerRuns w → exponent_of turned w ≡ some e → PowerCost turned (power_size w) (cost (exponent_words e))
unfolding power_size ratio exponent_of number number_from
power_cost turned e PowerRuns.no_run h =
    unwritten_cost turned (cost (exponent_words e)) (whole_written (ratio_lowest turned (ratio unwritten) e (omega arith) h) (digit_one ∷ []) one_run (omega arith) refl)
power_cost turned e (PowerRuns.whole_run {n = n} d) h =
    whole_cost turned n.negative (cost (exponent_words e)) (length n.digits)
    (whole_written (ratio_lowest turned (ratio (whole n)) e (omega arith) h) n.digits d.run (omega arith) refl)
power_cost turned e (PowerRuns.decimal_runs {n = n} {ds = ds} d f) h =
    let l = length-append n.digits ds in
    let r : DigitRun (n.digits ++ ds) = record { some_digits = omega (arith, d.some_digits); all_digits = all_append digit n.digits ds d.all_digits f.all_digits } in
    over_whole_cost turned n.negative (cost (exponent_words e)) (length n.digits) (length ds) d.some_digits f.some_digits
    (rw l at (over_written (ratio_lowest turned (ratio (decimal n ds)) e (one-le-pow (length ds) 10 (omega arith)) h) (n.digits ++ ds) r (omega arith)))
power_cost turned e (PowerRuns.fraction_runs {n = n} {ds = ds} d f) h =
    over_whole_cost turned n.negative (cost (exponent_words e)) (length n.digits) (length ds) d.run.some_digits f.run.some_digits
    (omega (arith, over_written (ratio_lowest turned (ratio (fraction n ds)) e f.positive h) n.digits d.run (omega arith)))
