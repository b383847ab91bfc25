-- The record of a reading: the bytes that a C program gets into the buffer it lends.
use Rattle.std.specs.Prelude.{ℕ, zero, suc, ◌+◌, ◌*◌, ◌-◌, ◌<◌, ◌^◌, ◌/◌, ◌%◌, ◌≡◌, Bool, true, false, List, [], ◌∷◌, ◌++◌, map, eqb, ltb, ℤ, pos, negsuc, length, take, drop, replicate}
use Rattle.std.proofs.Math.Option.{Option, none, some}
use Rattle.std.specs.Int.Signed.{mag}
use Rattle.label.specs.declared.Exponent.{Exponent}
use Rattle.label.specs.declared.Tens.{Tens}
use Rattle.label.specs.Choice.{pick}
use Rattle.label.specs.Limits.{most_terms}
use Rattle.label.specs.Symbols.{Symbol, known, unknown}
use Rattle.label.specs.Units.{base_count}
use Rattle.label.specs.Reading.{Term, Scale, Reading, reading}
use Rattle.label.specs.Letters.{letters_start, letters_of, letters_size}
use Rattle.content.specs.Sums.{prime_count}

-- A NUMBER IN EIGHT BYTES

-- the number that 64 bits hold for z in two's complement
unfoldable pub complement : ℤ → ℕ
complement (pos n) = n
complement (negsuc n) = 2 ^ 64 - suc n

-- the last so many digits of n in base 256, the lowest first
unfoldable pub digits : ℕ → ℕ → List ℕ
digits zero n = []
digits (suc w) n = n % 256 ∷ digits w (n / 256)

unfoldable pub eight : ℤ → List ℕ
eight z = digits 8 (complement z)

-- the number that digits in base 256 stand for, the lowest first
unfoldable pub value : List ℕ → ℕ
value [] = 0
value (d ∷ ds) = d + 256 * value ds

-- the number that 64 bits stand for in two's complement
unfoldable pub signed : ℕ → ℤ
signed n = pick (ltb n (2 ^ 63)) (pos n) (negsuc (2 ^ 64 - suc n))

-- what is claimed of eight bytes: a number of 64 bits is read back from them
abbrev pub ReadBack : Type 0
ReadBack = (z : ℤ) → mag z < 2 ^ 63 → signed (value (eight z)) ≡ z

unfoldable pub encoded : List ℤ → List ℕ
encoded [] = []
encoded (z ∷ zs) = eight z ++ encoded zs

-- THE NUMBERS OF A READING

-- how many bytes a number has, and how many numbers there are before the terms, in a term and in the scale
abbrev pub field_size : ℕ
field_size = 8

abbrev pub fields_in_head : ℕ
fields_in_head = 6

abbrev pub fields_in_term : ℕ
fields_in_term = 7

abbrev pub flag : Bool → ℤ
flag true = pos 1
flag false = pos 0

-- one more than a place in a table; 0 is none
abbrev pub code : Option ℕ → ℕ
code none = 0
code (some i) = suc i

unfoldable pub prefix_code : Symbol → ℕ
prefix_code (known p u) = code p
prefix_code (unknown p l) = code p

unfoldable pub unit_code : Symbol → ℕ
unit_code (known p u) = code (some u)
unit_code (unknown p l) = code none

-- a term: prefix, unit, exponent in sixtieths, where the spelling is, and where the letters of an unknown unit are
unfoldable pub term_fields : Term → List ℤ
term_fields t =
    pos (prefix_code t.symbol)
    ∷ pos (unit_code t.symbol)
    ∷ t.exponent.0
    ∷ pos t.start
    ∷ pos t.size
    ∷ pos (letters_start t)
    ∷ pos (letters_size t)
    ∷ []

unfoldable pub terms_fields : List Term → List ℤ
terms_fields [] = []
terms_fields (t ∷ ts) = term_fields t ++ terms_fields ts

abbrev pub sixtieths_of : Exponent → ℤ
sixtieths_of e = e.0

-- number, k, verdicts, and how many terms
abbrev pub head_of : ℕ → Tens → Bool → Bool → Bool → ℕ → List ℤ
head_of n k a b c count = pos n ∷ k.0 ∷ flag a ∷ flag b ∷ flag c ∷ pos count ∷ []

unfoldable pub head_fields : Reading → List ℤ
head_fields r = head_of r.number r.k r.known r.lawful r.recommended (length r.terms)

abbrev pub scale_fields : Scale → List ℤ
scale_fields c = c.of_2.0 ∷ c.of_3.0 ∷ c.of_5.0 ∷ c.of_487.0 ∷ []

-- so many places without a term: zeros
abbrev pub empty_fields : ℕ → List ℤ
empty_fields n = replicate (fields_in_term * n) (pos 0)

-- then 32 places for terms, the exponent of each base, and the exponents of 2, 3, 5 and 487
unfoldable pub fields : Reading → List ℤ
fields r =
    head_fields r
    ++ (terms_fields r.terms
    ++ (empty_fields (most_terms - length r.terms) ++ (map sixtieths_of r.dimensions ++ scale_fields r.scale)))

unfoldable pub record_of : Reading → List ℕ
record_of r = encoded (fields r)

-- the same with another number
abbrev pub numbered : ℕ → Reading → Reading
numbered n r = record {
  number = n;
  k = r.k;
  terms = r.terms;
  known = r.known;
  lawful = r.lawful;
  recommended = r.recommended;
  dimensions = r.dimensions;
  scale = r.scale;
}

-- what is claimed of a record: two accepted readings of one label that have the same record are the same
abbrev pub SameRecordSameReading : Type 0
SameRecordSameReading =
    (n m : ℕ) (s : List ℕ) → (reading n s).number ≡ 0 → (reading m s).number ≡ 0 → record_of (reading n s) ≡ record_of (reading m s)
    → reading n s ≡ reading m s

-- and of the letters of unknown units: the label has them where the record says
abbrev pub LettersInLabel : Type 0
LettersInLabel =
    (n : ℕ) (s : List ℕ)
    → map (λ (t : Term). take (letters_size t) (drop (letters_start t) s)) (reading n s).terms ≡ map (λ (t : Term). letters_of t.symbol) (reading n s).terms

-- PLACES IN THE RECORD, in bytes

abbrev pub head_size : ℕ
head_size = field_size * fields_in_head

abbrev pub term_size : ℕ
term_size = field_size * fields_in_term

-- where term i is
abbrev pub term_place : ℕ → ℕ
term_place i = head_size + term_size * i

abbrev pub dimensions_place : ℕ
dimensions_place = term_place most_terms

abbrev pub scale_place : ℕ
scale_place = dimensions_place + field_size * base_count

abbrev pub record_size : ℕ
record_size = scale_place + field_size * prime_count

-- THE LENT BUFFER

-- the buffer b with xs written over it from its start, as far as they fit
unfoldable pub written_over : List ℕ → List ℕ → List ℕ
written_over xs b = take (length b) xs ++ drop (length xs) b

-- an accepted reading writes its record; a refusal changes no byte
unfoldable pub buffer_after : Reading → List ℕ → List ℕ
buffer_after r b = pick (eqb r.number 0) (written_over (record_of r) b) b
