-- FITS: its grammar, by the paragraph of document 01 on how FITS joins units.
use Rattle.std.specs.Prelude.{ℕ, List, [], ◌∷◌, ◌++◌}
use Rattle.label.specs.Bytes.{space as space_byte, open_bracket, close_bracket, star as star_byte, point as point_byte, slash, caret as caret_byte, digit_zero, digit_one}
use Rattle.label.specs.Lexical.{Numeral, Written, unwritten, whole, Factor, no_factor, ten_to, Part, part, turned_all, Kind, item, more, product, quotient, Letters, Integer, Signed, Bracketed, Power, Wrapped}

-- "joined by one space, a star or a point"
pub data Joiner : ℕ → Type 0 where
  space : Joiner space_byte
  star : Joiner star_byte
  point : Joiner point_byte

-- "Exponent: an integer directly after the spelling, or a bracketed power directly, or ** or ^ and a power."
pub data Exponent : List ℕ → Written → Type 0 where
  none : Exponent [] unwritten
  integer : {e : List ℕ} {n : Numeral} → Integer e n → Exponent e (whole n)
  bracketed : {e : List ℕ} {w : Written} → Bracketed e w → Exponent e w
  stars : {e : List ℕ} {w : Written} → Power e w → Exponent (star_byte ∷ star_byte ∷ e) w
  caret : {e : List ℕ} {w : Written} → Power e w → Exponent (caret_byte ∷ e) w

-- Fits x s t ps: the text s begins with an x, which ends where t begins, and ps are its units.
pub data Fits : Kind → List ℕ → List ℕ → List Part → Type 0 where
  -- "Product: units or groups joined by one space, a star or a point."
  unit : {l e t : List ℕ} {w : Written} → Letters l → Exponent e w → Fits item (l ++ (e ++ t)) t (part l w (e ++ t) ∷ [])
  first : {s t u : List ℕ} {ps qs : List Part} → Fits item s t ps → Fits more t u qs → Fits product s u (ps ++ qs)
  done : {s : List ℕ} → Fits more s s []
  times : {c : ℕ} {s t u : List ℕ} {ps qs : List Part} → Joiner c → Fits item s t ps → Fits more t u qs → Fits more (c ∷ s) u (ps ++ qs)
  -- "The whole: a product; or a product, a slash and one unit or group"
  plain : {s t : List ℕ} {ps : List Part} → Fits product s t ps → Fits quotient s t ps
  over : {s t u : List ℕ} {ps qs : List Part} → Fits product s (slash ∷ t) ps → Fits item t u qs → Fits quotient s u (ps ++ turned_all qs)
  -- "Groups hold a product without a slash."
  group : {s t : List ℕ} {ps : List Part} → Fits product s (close_bracket ∷ t) ps → Fits item (open_bracket ∷ s) t ps

-- "Factor: 10, then either ** or ^, then an integer, bare or in brackets; or 10 and a signed integer"
pub data Tens : List ℕ → Factor → Type 0 where
  stars : {e : List ℕ} {n : Numeral} → Wrapped e n → Tens (digit_one ∷ digit_zero ∷ star_byte ∷ star_byte ∷ e) (ten_to n)
  caret : {e : List ℕ} {n : Numeral} → Wrapped e n → Tens (digit_one ∷ digit_zero ∷ caret_byte ∷ e) (ten_to n)
  signed : {e : List ℕ} {n : Numeral} → Signed e n → Tens (digit_one ∷ digit_zero ∷ e) (ten_to n)

-- "then nothing or one space"
pub data Gap : List ℕ → Type 0 where
  nothing : Gap []
  space : Gap (space_byte ∷ [])

-- Label s f ps: the text s is a FITS label with the factor f and the units ps.
pub data Label : List ℕ → Factor → List Part → Type 0 where
  -- "The empty text is accepted in all four and has no terms."
  empty : Label [] no_factor []
  -- "The whole: a product; or a product, a slash and one unit or group; or a slash and one unit or group."
  plain : {s : List ℕ} {ps : List Part} → Fits quotient s [] ps → Label s no_factor ps
  under : {s : List ℕ} {ps : List Part} → Fits item s [] ps → Label (slash ∷ s) no_factor (turned_all ps)
  -- "No slash may come straight after the factor or its space." A product starts with a unit or a group.
  factored : {x g s : List ℕ} {f : Factor} {ps : List Part} → Tens x f → Gap g → Fits quotient s [] ps → Label (x ++ (g ++ s)) f ps
