-- Writing: the text that a notation writes for what was read, when a unit and its exponent have a form there, and what rewriting answers.
use Rattle.std.specs.Prelude.{ℕ, zero, suc, ◌+◌, ◌/◌, ◌%◌, ◌<◌, ◌≡◌, Bool, true, false, ◌&&◌, List, [], ◌∷◌, ◌++◌, map, leb, eqb, pos, nat_abs, length, drop}
use Rattle.std.proofs.Math.Option.{Option, none, some}
use Rattle.label.specs.declared.Exponent.{Exponent}
use Rattle.label.specs.declared.Tens.{Tens}
use Rattle.label.specs.Bytes.{quote, open_bracket, close_bracket, plus, minus, slash, digit_zero, same}
use Rattle.label.specs.Choice.{pick}
use Rattle.label.specs.Notations.{member, fractionless, factorless, notation}
use Rattle.label.specs.Rows.{Style, style_of}
use Rattle.label.specs.Letters.{prefix_letters}
use Rattle.label.specs.Units.{Name, unit_at}
use Rattle.label.specs.Symbols.{Symbol, known, unknown, has_name, symbol}
use Rattle.label.specs.Grammar.{Spelling}
use Rattle.label.specs.Limits.{most_bytes, most_digits, negative, lowest_terms}
use Rattle.label.specs.Split.{Condition1, Refused}
use Rattle.label.specs.Reading.{Term, Reading, reading}
use Rattle.label.specs.Agreement.{raised_term, bytes_at}

-- NUMBERS

-- the digits of n, f at most, before other digits
unfoldable pub figures_before : ℕ → ℕ → List ℕ → List ℕ
figures_before zero n ds = ds
figures_before (suc f) n ds = elim (leb 10 n) [ true ↦ figures_before f (n / 10) ((digit_zero + n % 10) ∷ ds) | false ↦ (digit_zero + n) ∷ ds ]

-- the digits of a number below ten to the 4
unfoldable pub figures : ℕ → List ℕ
figures n = figures_before most_digits n []

-- "No plus but in the CDS factor."
abbrev pub sign_text : Bool → Bool → List ℕ
sign_text plussed true = minus ∷ []
sign_text true false = plus ∷ []
sign_text false false = []

abbrev pub in_brackets : List ℕ → List ℕ
in_brackets s = open_bracket ∷ s ++ close_bracket ∷ []

-- THE FACTOR

-- "k not 0: `10**k` and a space (FITS, OGIP), `10**k` (VOUnits), `10+3` or `10-3` style (CDS)."
abbrev pub tens_text : Style → Tens → List ℕ
tens_text y k = (y.ten ++ (sign_text y.signed (negative k.0) ++ figures (nat_abs k.0))) ++ y.gap

-- document 02, W3: "a label with k not 0 can't be written in notation 5"
unfoldable pub factor_text : Style → Tens → Option (List ℕ)
factor_text y k = pick (eqb (nat_abs k.0) 0) (some []) (pick y.factors (some (tens_text y k)) none)

-- EXPONENTS

-- "Whole: m-2 (FITS, CDS), `m**-2` (VOUnits), `m**2` and `m**(-2)` (OGIP)."
abbrev pub whole_text : Style → Bool → ℕ → List ℕ
whole_text y minused p = y.raise ++ pick (y.wrapped && minused) (in_brackets (sign_text false minused ++ figures p)) (sign_text false minused ++ figures p)

-- "Fraction p/q: m(p/q) (FITS), `m**(p/q)` (OGIP, VOUnits)"
abbrev pub fraction_text : Style → Bool → ℕ → ℕ → List ℕ
fraction_text y minused p q = y.raise ++ (open_bracket ∷ (sign_text false minused ++ figures p) ++ slash ∷ figures q ++ close_bracket ∷ [])

-- "Exponent 1 is omitted."; "none in CDS"
unfoldable pub power_text : Style → Bool → ℕ → ℕ → Option (List ℕ)
power_text y minused p q =
    pick (eqb q 1)
    (some (pick (pick minused false (eqb p 1)) [] (whole_text y minused p)))
    (pick y.fractions (some (fraction_text y minused p q)) none)

unfoldable pub exponent_text : Style → Exponent → Option (List ℕ)
exponent_text y e = power_text y (negative e.0) (nat_abs (lowest_terms e).numerator) (lowest_terms e).denominator

-- UNITS

abbrev pub same_prefix : Option ℕ → Option ℕ → Bool
same_prefix none none = true
same_prefix none (some j) = false
same_prefix (some i) none = false
same_prefix (some i) (some j) = eqb i j

unfoldable pub same_symbol : Symbol → Symbol → Bool
same_symbol (known p u) (known q v) = same_prefix p q && eqb u v
same_symbol (known p u) (unknown q l) = false
same_symbol (unknown p l) (known q v) = false
same_symbol (unknown p l) (unknown q k) = same_prefix p q && same l k

-- notation m reads the spelling l as x
unfoldable pub reads_as : ℕ → List ℕ → Symbol → Bool
reads_as m l x = same_symbol (symbol m l) x

-- the first of these names that notation m knows
unfoldable pub name_among : ℕ → List Name → Option (List ℕ)
name_among m [] = none
name_among m (x ∷ xs) = elim (member m x.known_in) [ true ↦ some x.letters | false ↦ name_among m xs ]

-- "A known unit keeps its spelling if the target knows it, else takes its other name there."
unfoldable pub name_in : ℕ → List ℕ → List Name → Option (List ℕ)
name_in m own xs = pick (has_name m own xs) (some own) (name_among m xs)

-- "Prefix and name must read in the target as the same prefix and unit."
unfoldable pub named_text : ℕ → Option ℕ → ℕ → Option (List ℕ) → Option (List ℕ)
named_text m p u none = none
named_text m p u (some l) = pick (reads_as m (prefix_letters p ++ l) (known p u)) (some (prefix_letters p ++ l)) none

abbrev pub in_quotes : List ℕ → List ℕ
in_quotes l = quote ∷ l ++ quote ∷ []

-- "An unknown unit is written plainly if the target reads that as an unknown unit with the same prefix and letters, else quoted in VOUnits."
unfoldable pub unknown_text : Style → ℕ → Option ℕ → List ℕ → Option (List ℕ)
unknown_text y m p l =
    pick (reads_as m (prefix_letters p ++ l) (unknown p l)) (some (prefix_letters p ++ l))
    (pick y.quotes (some (prefix_letters p ++ in_quotes l)) none)

-- the spelling of a unit whose name in the source has the letters own
unfoldable pub symbol_text : Style → ℕ → List ℕ → Symbol → Option (List ℕ)
symbol_text y m own (known p u) = named_text m p u (name_in m own (unit_at u).names)
symbol_text y m own (unknown p l) = unknown_text y m p l

-- THE WHOLE

-- a unit to be written: the letters of its name in the source, what it is, and its exponent
pub record Writable : Type 0 where
  pub own : List ℕ
  pub symbol : Symbol
  pub exponent : Exponent

unfoldable pub both_texts : Option (List ℕ) → Option (List ℕ) → Option (List ℕ)
both_texts none o = none
both_texts (some s) none = none
both_texts (some s) (some t) = some (s ++ t)

unfoldable pub unit_text : Style → ℕ → Writable → Option (List ℕ)
unit_text y m w = both_texts (symbol_text y m w.own w.symbol) (exponent_text y w.exponent)

-- what follows the first unit. "No slash or group."; "Joined by a space (FITS, OGIP) or a point."; W3: "Writing joins by a star"
unfoldable pub more_text : Style → ℕ → List Writable → Option (List ℕ)
more_text y m [] = some []
more_text y m (w ∷ ws) = both_texts (some y.joint) (both_texts (unit_text y m w) (more_text y m ws))

-- a label without terms has no factor
unfoldable pub label_text : Style → ℕ → Tens → List Writable → Option (List ℕ)
label_text y m k [] = some []
label_text y m k (w ∷ ws) = both_texts (factor_text y k) (both_texts (unit_text y m w) (more_text y m ws))

unfoldable pub written_by : Option Style → ℕ → Tens → List Writable → Option (List ℕ)
written_by none m k ws = none
written_by (some y) m k ws = label_text y m k ws

-- the text that notation m writes
unfoldable pub written : ℕ → Tens → List Writable → Option (List ℕ)
written m k ws = written_by (style_of m) m k ws

-- a term of the label s: its own letters are its spelling's without the prefix
unfoldable pub own_letters : Symbol → List ℕ → List ℕ
own_letters (known p u) l = drop (length (prefix_letters p)) l
own_letters (unknown p l) s = l

unfoldable pub writable : List ℕ → Term → Writable
writable s t = record { own = own_letters t.symbol (bytes_at s t); symbol = t.symbol; exponent = t.exponent }

-- WHAT HAS A FORM

-- notation m reads the spelling l as x
pub record ReadsAs (m : ℕ) (l : List ℕ) (x : Symbol) : Type 0 where
  pub spelling : Spelling m l
  pub is : symbol m l ≡ x

-- notation m knows the unit of row u by the name l
pub data NameIn (m u : ℕ) : List ℕ → Type 0 where
  named : {l : List ℕ} → has_name m l (unit_at u).names ≡ true → NameIn m u l

-- l is the first of these names that notation m knows
pub data FirstName (m : ℕ) : List Name → List ℕ → Type 0 where
  this : {x : Name} {xs : List Name} → member m x.known_in ≡ true → FirstName m (x ∷ xs) x.letters
  later : {x : Name} {xs : List Name} {l : List ℕ} → member m x.known_in ≡ false → FirstName m xs l → FirstName m (x ∷ xs) l

-- "A known unit keeps its spelling if the target knows it, else takes its other name there." Only Ang has two others in a notation, and W3
-- says which: "becomes Angstrom in FITS and angstrom in OGIP and VOUnits".
pub data TakesName (m u : ℕ) (own : List ℕ) : List ℕ → Type 0 where
  keeps : NameIn m u own → TakesName m u own own
  takes : {l : List ℕ} → (NameIn m u own → ⊥) → FirstName m (unit_at u).names l → TakesName m u own l

-- Form m own x l: in notation m the unit x, whose name in the source has the letters own, has the spelling l.
pub data Form (m : ℕ) (own : List ℕ) : Symbol → List ℕ → Type 0 where
  -- "Prefix and name must read in the target as the same prefix and unit."
  by_name : {p : Option ℕ} {u : ℕ} {l : List ℕ} → TakesName m u own l → ReadsAs m (prefix_letters p ++ l) (known p u) → Form m own (known p u) (prefix_letters p ++ l)
  -- "An unknown unit is written plainly if the target reads that as an unknown unit with the same prefix and letters, else quoted"
  plainly : {p : Option ℕ} {l : List ℕ} → ReadsAs m (prefix_letters p ++ l) (unknown p l) → Form m own (unknown p l) (prefix_letters p ++ l)
  quoted : {p : Option ℕ} {l : List ℕ} → (ReadsAs m (prefix_letters p ++ l) (unknown p l) → ⊥) → ReadsAs m (prefix_letters p ++ in_quotes l) (unknown p l)
      → Form m own (unknown p l) (prefix_letters p ++ in_quotes l)

-- "Fraction p/q: .. none in CDS."
pub data ExponentForm (m : ℕ) (e : Exponent) : Type 0 where
  whole : (lowest_terms e).denominator ≡ 1 → ExponentForm m e
  fraction : member m fractionless ≡ false → ExponentForm m e

-- W3: "a label with k not 0 can't be written in notation 5"
pub data FactorForm (m : ℕ) (k : Tens) : Type 0 where
  omitted : k.0 ≡ pos 0 → FactorForm m k
  factored : member m factorless ≡ false → FactorForm m k

-- a unit with its exponent has a form in notation m
pub record HasForm (m : ℕ) (w : Writable) : Type 0 where
  pub spelling : List ℕ
  pub unit : Form m w.own w.symbol spelling
  pub exponent : ExponentForm m w.exponent

-- 12: "a term or exponent has no form in the target"
pub data Formless (m : ℕ) : List Writable → Type 0 where
  here : {w : Writable} {ws : List Writable} → (HasForm m w → ⊥) → Formless m (w ∷ ws)
  later : {w : Writable} {ws : List Writable} → Formless m ws → Formless m (w ∷ ws)

-- REWRITING

pub record Rewriting : Type 0 where
  pub number : ℕ
  pub text : List ℕ

-- "A refused rewrite has length 0"
abbrev pub refuse_rewriting : ℕ → Rewriting
refuse_rewriting i = record { number = i; text = [] }

-- refusal i unless the test is passed
unfoldable pub unless : Bool → ℕ → Rewriting → Rewriting
unless true i x = x
unless false i x = refuse_rewriting i

-- 12 and 13
unfoldable pub sized : Option (List ℕ) → Rewriting
sized none = refuse_rewriting 12
sized (some t) = unless (leb (length t) most_bytes) 13 (record { number = 0; text = t })

-- the text that notation m writes for the reading a of the label s
abbrev pub written_reading : ℕ → List ℕ → Reading → Option (List ℕ)
written_reading m s a = written m a.k (map (writable s) a.terms)

-- "Rewriting checks 1 to 7 on the source, then 1 for the target, then 12 to 14." (14 is the buffer's.)
unfoldable pub rewriting : ℕ → List ℕ → ℕ → Rewriting
rewriting n s m =
    unless (eqb (reading n s).number 0) (reading n s).number
    (unless (notation m) 1
    (sized (written_reading m s (reading n s))))

-- THE LENT BUFFER

-- 14: "the lent buffer is shorter than the result"
unfoldable pub fitted : ℕ → Rewriting → Rewriting
fitted size x = unless (leb (length x.text) size) 14 x

-- what rewriting the label s of notation n in notation m answers, with a lent buffer of so many bytes
unfoldable pub rewriting_into : ℕ → ℕ → List ℕ → ℕ → Rewriting
rewriting_into size n s m = fitted size (rewriting n s m)

-- "A refused rewrite has length 0 and the buffer keeps all its bytes; an accepted one changes only the bytes of its result."
unfoldable pub buffer_with : Rewriting → List ℕ → List ℕ
buffer_with x b = x.text ++ drop (length x.text) b

-- REFUSALS AND CONTENT

-- refusal i of rewriting is due: "Given exactly when no earlier one applies and" its condition holds
pub data Refuses (n : ℕ) (s : List ℕ) (m : ℕ) : ℕ → Type 0 where
  source : {i : ℕ} → Refused i n s → Refuses n s m i
  target : (reading n s).number ≡ 0 → Condition1 m [] → Refuses n s m 1
  -- "a term or exponent has no form in the target"
  formless : (reading n s).number ≡ 0 → notation m ≡ true → Formless m (map (writable s) (reading n s).terms) → Refuses n s m 12
  -- W3: "12 also where the target is 5 and k isn't 0"
  factor_formless : (reading n s).number ≡ 0 → notation m ≡ true → (FactorForm m (reading n s).k → ⊥) → Refuses n s m 12
  -- "the result is over 255 bytes"
  long : {t : List ℕ} → (reading n s).number ≡ 0 → notation m ≡ true → written_reading m s (reading n s) ≡ some t → most_bytes < length t → Refuses n s m 13

-- "A rewritten label, read in its new notation, gives the same units, prefixes, exponents and power of ten": b has the content of a
pub record SameContent (a b : Reading) : Type 0 where
  pub answers : b.number ≡ 0
  pub k : b.k ≡ a.k
  pub terms : map raised_term b.terms ≡ map raised_term a.terms
