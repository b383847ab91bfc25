-- CDS: its grammar, by the paragraph of document 01 on how CDS joins units.
use Rattle.std.specs.Prelude.{ℕ, List, [], ◌∷◌, ◌++◌}
use Rattle.label.specs.Bytes.{open_bracket, close_bracket, percent as percent_byte, point, star as star_byte, slash, digit_zero, digit_one}
use Rattle.label.specs.Lexical.{Numeral, Written, unwritten, whole, Factor, no_factor, ten_to, zeros, Part, part, turned_all, Kind, item, more, product, Letters, Integer, Signed, Plain}

-- "CDS also has % as a spelling alone."
pub data Spelling : List ℕ → Type 0 where
  letters : {l : List ℕ} → Letters l → Spelling l
  percent : Spelling (percent_byte ∷ [])

-- "the exponent is an integer directly after the spelling"
pub data Exponent : List ℕ → Written → Type 0 where
  none : Exponent [] unwritten
  integer : {e : List ℕ} {n : Numeral} → Integer e n → Exponent e (whole n)

-- Cds x s t ps: the text s begins with an x, which ends where t begins, and ps are its units.
pub data Cds : Kind → List ℕ → List ℕ → List Part → Type 0 where
  -- "As OGIP, but a point for the product, no spaces": units or groups joined by a point or a slash, and each slash turns over only
  -- the next unit or group.
  unit : {l e t : List ℕ} {w : Written} → Spelling l → Exponent e w → Cds item (l ++ (e ++ t)) t (part l w (e ++ t) ∷ [])
  first : {s t u : List ℕ} {ps qs : List Part} → Cds item s t ps → Cds more t u qs → Cds product s u (ps ++ qs)
  done : {s : List ℕ} → Cds more s s []
  times : {s t u : List ℕ} {ps qs : List Part} → Cds item s t ps → Cds more t u qs → Cds more (point ∷ s) u (ps ++ qs)
  over : {s t u : List ℕ} {ps qs : List Part} → Cds item s t ps → Cds more t u qs → Cds more (slash ∷ s) u (turned_all ps ++ qs)
  -- a leading slash, also inside a group and after a factor
  under : {s t u : List ℕ} {ps qs : List Part} → Cds item s t ps → Cds more t u qs → Cds product (slash ∷ s) u (turned_all ps ++ qs)
  group : {s t : List ℕ} {ps : List Part} → Cds product s (close_bracket ∷ t) ps → Cds item (open_bracket ∷ s) t ps

-- "Factor: as OGIP without brackets, or 10 and a signed integer."
pub data Tens : List ℕ → Factor → Type 0 where
  stars : {e : List ℕ} {n : Numeral} → Integer e n → Tens (digit_one ∷ digit_zero ∷ star_byte ∷ star_byte ∷ e) (ten_to n)
  plain : {x : List ℕ} {k : ℕ} → Plain x k → Tens x (zeros k)
  signed : {e : List ℕ} {n : Numeral} → Signed e n → Tens (digit_one ∷ digit_zero ∷ e) (ten_to n)

-- Label s f ps: the text s is a CDS label with the factor f and the units ps.
pub data Label : List ℕ → Factor → List Part → Type 0 where
  -- "The empty text is accepted in all four and has no terms."
  empty : Label [] no_factor []
  plain : {s : List ℕ} {ps : List Part} → Cds product s [] ps → Label s no_factor ps
  factored : {x s : List ℕ} {f : Factor} {ps : List Part} → Tens x f → Cds product s [] ps → Label (x ++ s) f ps
