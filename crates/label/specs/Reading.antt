-- What reading a label answers: a number, k, the terms, three verdicts, the dimensions and the scale.
use Rattle.std.specs.Prelude.{ℕ, zero, suc, ◌-◌, Bool, true, false, ◌&&◌, List, [], ◌∷◌, map, leb, ℤ, pos, ◌+ℤ◌, ◌*ℤ◌, length}
use Rattle.std.proofs.Math.Option.{Option, none, some}
use Rattle.label.specs.declared.Exponent.{Exponent}
use Rattle.label.specs.declared.Tens.{Tens}
use Rattle.label.specs.Bytes.{admitted, all}
use Rattle.label.specs.Notations.{notation, member}
use Rattle.label.specs.Prefixes.{power_of}
use Rattle.label.specs.Units.{unit_at, base_count, base_power, in_tens, prime_power}
use Rattle.label.specs.Symbols.{Symbol, known, unknown, symbol}
use Rattle.label.specs.Parse.{Parsed, refused, parsed, parse}
use Rattle.label.specs.Limits.{most_bytes, most_terms, most_brackets, parts_of_one, deepest}
use Rattle.label.specs.Split.{Placed, Valued, valued}

-- ADDING EXPONENTS

abbrev pub exponent : ℤ → Exponent
exponent z = record { 0 = z }

abbrev pub sum : Exponent → Exponent → Exponent
sum a b = exponent (a.0 +ℤ b.0)

-- an exponent of a power: a whole number of times the exponent
abbrev pub times : ℤ → Exponent → Exponent
times z e = exponent (z *ℤ e.0)

abbrev pub one : Exponent
one = exponent (pos parts_of_one)

abbrev pub nothing : Exponent
nothing = exponent (pos 0)

-- TERMS

pub record Term : Type 0 where
  pub symbol : Symbol
  pub exponent : Exponent
  -- how many of the label's bytes come before the spelling, and how many it has
  pub start : ℕ
  pub size : ℕ

-- a unit of a label of so many bytes, as notation n reads its spelling
unfoldable pub term : ℕ → ℕ → Placed → Term
term n bytes u = record { symbol = symbol n u.spelling; exponent = u.exponent; start = bytes - u.left; size = length u.spelling }

-- VERDICTS

unfoldable pub every : (Symbol → Bool) → List Term → Bool
every p [] = true
every p (t ∷ ts) = p t.symbol && every p ts

-- "Known: every unit is."
unfoldable pub is_known : Symbol → Bool
is_known (known p u) = true
is_known (unknown p l) = false

-- "Lawful: every prefixed known unit is among ..; unknown units are lawful."
unfoldable pub is_lawful : ℕ → Symbol → Bool
is_lawful n (known none u) = true
is_lawful n (known (some p) u) = member n (unit_at u).prefixed_in
is_lawful n (unknown p l) = true

-- "Recommended: known, and no term's unit is angstrom (by any of its names), erg, G or barn."
unfoldable pub is_recommended : Symbol → Bool
is_recommended (known p u) = (unit_at u).recommended
is_recommended (unknown p l) = false

-- DIMENSIONS AND SCALE

-- the exponent of base b in a unit
unfoldable pub base_in : ℕ → Symbol → ℤ
base_in b (known p u) = base_power b (unit_at u).size.bases
base_in b (unknown p l) = pos 0

-- the exponent of the prime p in a unit with its prefix. "An unknown unit adds its prefix only."
unfoldable pub prime_in : ℕ → Symbol → ℤ
prime_in p (known x u) = in_tens p (power_of x) +ℤ prime_power p (unit_at u).size
prime_in p (unknown x l) = in_tens p (power_of x)

-- a whole number for each symbol, times the term's exponent, summed over the terms
unfoldable pub total : (Symbol → ℤ) → List Term → Exponent
total f [] = nothing
total f (t ∷ ts) = sum (times (f t.symbol) t.exponent) (total f ts)

unfoldable pub up_to : ℕ → List ℕ → List ℕ
up_to zero bs = bs
up_to (suc b) bs = up_to b (b ∷ bs)

-- the bases, by their numbers
abbrev pub all_bases : List ℕ
all_bases = up_to base_count []

-- "A label's dimensions are its bases' exponents summed over the terms"
unfoldable pub dimensions_of : List Term → List Exponent
dimensions_of ts = map (λ (b : ℕ). total (base_in b) ts) all_bases

-- "its scale, from k, prefixes and sizes, is a product of powers of 2, 3, 5 and 487"
abbrev pub primes : List ℕ
primes = 2 ∷ 3 ∷ 5 ∷ 487 ∷ []

-- the exponent of each of these four
pub record Scale : Type 0 where
  pub of_2 : Exponent
  pub of_3 : Exponent
  pub of_5 : Exponent
  pub of_487 : Exponent

abbrev pub by_prime : (ℕ → Exponent) → Scale
by_prime e = record { of_2 = e 2; of_3 = e 3; of_5 = e 5; of_487 = e 487 }

unfoldable pub scale_of : Tens → List Term → Scale
scale_of k ts = by_prime (λ p. sum (times (in_tens p k) one) (total (prime_in p) ts))

-- THE ANSWER

pub record Reading : Type 0 where
  pub number : ℕ
  pub k : Tens
  pub terms : List Term
  pub known : Bool
  pub lawful : Bool
  pub recommended : Bool
  -- the exponent of each base, by its number
  pub dimensions : List Exponent
  pub scale : Scale

-- "A refused reading has no terms, k = 0, no dimensions, scale 1 and all verdicts no."
unfoldable pub refusal : ℕ → Reading
refusal i = record {
  number = i;
  k = record { 0 = pos 0 };
  terms = [];
  known = false;
  lawful = false;
  recommended = false;
  dimensions = map (λ (b : ℕ). nothing) all_bases;
  scale = by_prime (λ p. nothing);
}

unfoldable pub reading_of : ℕ → Tens → List Term → Reading
reading_of n k ts = record {
  number = 0;
  k = k;
  terms = ts;
  known = every is_known ts;
  lawful = every (is_lawful n) ts;
  recommended = every is_recommended ts;
  dimensions = dimensions_of ts;
  scale = scale_of k ts;
}

-- the number of the first refusal that is due, or the label's values
pub data Checked : Type 0 where
  refuse : ℕ → Checked
  accept : Valued → Checked

-- refusal i unless the test is passed
unfoldable pub unless : Bool → ℕ → Checked → Checked
unless true i x = x
unless false i x = refuse i

-- refusals 6 and 7
unfoldable pub check_counts : List ℕ → Valued → Checked
check_counts s v = unless (leb (deepest s) most_brackets) 6 (unless (leb (length v.units) most_terms) 7 (accept v))

-- refusal 5
unfoldable pub check_values : List ℕ → Option Valued → Checked
check_values s none = refuse 5
check_values s (some v) = check_counts s v

-- refusal 4
unfoldable pub check_grammar : List ℕ → Parsed → Checked
check_grammar s refused = refuse 4
check_grammar s (parsed f ps) = check_values s (valued f ps)

-- refusals 1 to 3, and those after them
unfoldable pub checked : ℕ → List ℕ → Checked
checked n s = unless (notation n) 1 (unless (leb (length s) most_bytes) 2 (unless (all admitted s) 3 (check_grammar s (parse n s))))

unfoldable pub answered : ℕ → List ℕ → Checked → Reading
answered n s (refuse i) = refusal i
answered n s (accept v) = reading_of n v.k (map (term n (length s)) v.units)

-- what reading the text s in notation n answers
unfoldable pub reading : ℕ → List ℕ → Reading
reading n s = answered n s (checked n s)
