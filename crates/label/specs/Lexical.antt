-- The words that the grammars share: spellings, integers, decimals, powers, plain factors; and what a label is read into.
use Rattle.std.specs.Prelude.{ℕ, suc, Bool, true, false, not, List, [], ◌∷◌, ◌++◌, map, T, length}
use Rattle.label.specs.Bytes.{space as space_byte, quote, open_bracket, close_bracket, plus, minus, star, point, slash, digit_zero, digit_one, letter, digit, nonzero, all}
use Rattle.label.specs.Prefixes.{prefix_name}

-- WHAT A LABEL IS READ INTO

-- an integer as written, or what is before a decimal's point
pub record Numeral : Type 0 where
  pub negative : Bool
  pub digits : List ℕ

-- a power as written: none at all, an integer, a decimal with the digits after its point, a fraction with its denominator's digits
pub data Written : Type 0 where
  unwritten : Written
  whole : Numeral → Written
  decimal : Numeral → List ℕ → Written
  fraction : Numeral → List ℕ → Written

-- a factor as written: none at all, ten to an integer, or 1 with a number of zeros
pub data Factor : Type 0 where
  no_factor : Factor
  ten_to : Numeral → Factor
  zeros : ℕ → Factor

-- one unit of a label: its spelling as its bytes, its power, whether slashes turn its sign, and the number of the label's bytes
-- from the spelling's first on
pub record Part : Type 0 where
  pub spelling : List ℕ
  pub power : Written
  pub turned : Bool
  pub left : ℕ

-- a unit above the line: its spelling l, its power w, and what follows the spelling
abbrev pub part : List ℕ → Written → List ℕ → Part
part l w after = record { spelling = l; power = w; turned = false; left = length (l ++ after) }

abbrev pub turn : Part → Part
turn p = record { spelling = p.spelling; power = p.power; turned = not p.turned; left = p.left }

-- "A group below a slash has all its signs turned, through every depth."
abbrev pub turned_all : List Part → List Part
turned_all = map turn

-- what a rule of a grammar derives: a unit or a group; what follows it in a product; a product; a product, perhaps over one unit or group
pub data Kind : Type 0 where
  item more product quotient : Kind

-- SPELLINGS

-- "A spelling is one or more ASCII letters."
pub data Letters : List ℕ → Type 0 where
  letters : {c : ℕ} {s : List ℕ} → T (letter c) → T (all letter s) → Letters (c ∷ s)

-- one of the twenty prefixes' names
pub data PrefixName : List ℕ → Type 0 where
  named : {p : List ℕ} → T (prefix_name p) → PrefixName p

-- "letters in single quotes, one or more, optionally with a prefix name directly before the first quote"
pub data Quoted : List ℕ → Type 0 where
  quoted : {l : List ℕ} → Letters l → Quoted (quote ∷ l ++ quote ∷ [])
  prefixed : {p l : List ℕ} → PrefixName p → Letters l → Quoted (p ++ quote ∷ l ++ quote ∷ [])

-- INTEGERS, DECIMALS AND POWERS

-- a digit 1 to 9, further digits
pub data Unsigned : List ℕ → Type 0 where
  unsigned : {c : ℕ} {s : List ℕ} → T (nonzero c) → T (all digit s) → Unsigned (c ∷ s)

-- an integer with a sign
pub data Signed : List ℕ → Numeral → Type 0 where
  positive : {s : List ℕ} → Unsigned s → Signed (plus ∷ s) (record { negative = false; digits = s })
  negative : {s : List ℕ} → Unsigned s → Signed (minus ∷ s) (record { negative = true; digits = s })

-- "An integer is an optional sign, a digit 1 to 9, further digits."
pub data Integer : List ℕ → Numeral → Type 0 where
  signed : {s : List ℕ} {n : Numeral} → Signed s n → Integer s n
  plain : {s : List ℕ} → Unsigned s → Integer s (record { negative = false; digits = s })

-- one or more digits
pub data Digits : List ℕ → Type 0 where
  digits : {c : ℕ} {s : List ℕ} → T (digit c) → T (all digit s) → Digits (c ∷ s)

-- a plus, a minus or neither, and whether it is a minus
pub data Sign : List ℕ → Bool → Type 0 where
  positive : Sign (plus ∷ []) false
  negative : Sign (minus ∷ []) true
  none : Sign [] false

-- "A decimal is an integer, a point, one or more digits." Document 02: "A decimal may now also start, after its sign, with a single 0 before the point."
pub data Decimal : List ℕ → Numeral → List ℕ → Type 0 where
  pointed : {s d : List ℕ} {n : Numeral} → Integer s n → Digits d → Decimal (s ++ point ∷ d) n d
  below_one : {s d : List ℕ} {b : Bool} → Sign s b → Digits d → Decimal (s ++ digit_zero ∷ point ∷ d) (record { negative = b; digits = digit_zero ∷ [] }) d

-- "in brackets an integer, a decimal, or an integer, a slash and an unsigned integer"
pub data Bracketed : List ℕ → Written → Type 0 where
  an_integer : {s : List ℕ} {n : Numeral} → Integer s n → Bracketed (open_bracket ∷ s ++ close_bracket ∷ []) (whole n)
  a_decimal : {s d : List ℕ} {n : Numeral} → Decimal s n d → Bracketed (open_bracket ∷ s ++ close_bracket ∷ []) (decimal n d)
  a_fraction : {s d : List ℕ} {n : Numeral} → Integer s n → Unsigned d → Bracketed (open_bracket ∷ s ++ slash ∷ d ++ close_bracket ∷ []) (fraction n d)

-- "A power is an integer, or in brackets .."
pub data Power : List ℕ → Written → Type 0 where
  integer : {s : List ℕ} {n : Numeral} → Integer s n → Power s (whole n)
  bracketed : {s : List ℕ} {w : Written} → Bracketed s w → Power s w

-- "** and a power", or nothing
pub data TwoStars : List ℕ → Written → Type 0 where
  none : TwoStars [] unwritten
  raised : {s : List ℕ} {w : Written} → Power s w → TwoStars (star ∷ star ∷ s) w

-- FACTORS

-- "an integer (bare or bracketed)"
pub data Wrapped : List ℕ → Numeral → Type 0 where
  bare : {s : List ℕ} {n : Numeral} → Integer s n → Wrapped s n
  bracketed : {s : List ℕ} {n : Numeral} → Integer s n → Wrapped (open_bracket ∷ s ++ close_bracket ∷ []) n

-- "plain 1, 10, 100 and so on"
pub data Plain : List ℕ → ℕ → Type 0 where
  one : Plain (digit_one ∷ []) 0
  ten_times : {s : List ℕ} {k : ℕ} → Plain s k → Plain (s ++ digit_zero ∷ []) (suc k)

-- SPACES

-- any number of spaces
pub data Spaces : List ℕ → Type 0 where
  none : Spaces []
  space : {s : List ℕ} → Spaces s → Spaces (space_byte ∷ s)
