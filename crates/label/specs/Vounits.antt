-- VOUnits: its grammar, by the paragraph of document 01 on how VOUnits joins units.
use Rattle.std.specs.Prelude.{ℕ, List, [], ◌∷◌, ◌++◌}
use Rattle.label.specs.Bytes.{open_bracket, close_bracket, point, star as star_byte, slash, digit_zero, digit_one}
use Rattle.label.specs.Lexical.{Numeral, Written, Factor, no_factor, ten_to, zeros, Part, part, turned_all, Kind, item, more, product, quotient, Letters, Quoted, TwoStars, Wrapped, Plain}

-- "VOUnits also has letters in single quotes"
pub data Spelling : List ℕ → Type 0 where
  letters : {l : List ℕ} → Letters l → Spelling l
  quoted : {l : List ℕ} → Quoted l → Spelling l

-- Vounits x s t ps: the text s begins with an x, which ends where t begins, and ps are its units.
pub data Vounits : Kind → List ℕ → List ℕ → List Part → Type 0 where
  -- "Exponent: ** and a power."
  unit : {l e t : List ℕ} {w : Written} → Spelling l → TwoStars e w → Vounits item (l ++ (e ++ t)) t (part l w (e ++ t) ∷ [])
  -- "Product by points."
  first : {s t u : List ℕ} {ps qs : List Part} → Vounits item s t ps → Vounits more t u qs → Vounits product s u (ps ++ qs)
  done : {s : List ℕ} → Vounits more s s []
  times : {s t u : List ℕ} {ps qs : List Part} → Vounits item s t ps → Vounits more t u qs → Vounits more (point ∷ s) u (ps ++ qs)
  -- "The whole, and each group: a product, or a product, a slash and one unit or group."
  plain : {s t : List ℕ} {ps : List Part} → Vounits product s t ps → Vounits quotient s t ps
  over : {s t u : List ℕ} {ps qs : List Part} → Vounits product s (slash ∷ t) ps → Vounits item t u qs → Vounits quotient s u (ps ++ turned_all qs)
  group : {s t : List ℕ} {ps : List Part} → Vounits quotient s (close_bracket ∷ t) ps → Vounits item (open_bracket ∷ s) t ps

-- "Factor: as OGIP, without spaces."
pub data Tens : List ℕ → Factor → Type 0 where
  stars : {e : List ℕ} {n : Numeral} → Wrapped e n → Tens (digit_one ∷ digit_zero ∷ star_byte ∷ star_byte ∷ e) (ten_to n)
  plain : {x : List ℕ} {k : ℕ} → Plain x k → Tens x (zeros k)

-- Label s f ps: the text s is a VOUnits label with the factor f and the units ps.
pub data Label : List ℕ → Factor → List Part → Type 0 where
  -- "The empty text is accepted in all four and has no terms."
  empty : Label [] no_factor []
  plain : {s : List ℕ} {ps : List Part} → Vounits quotient s [] ps → Label s no_factor ps
  factored : {x s : List ℕ} {f : Factor} {ps : List Part} → Tens x f → Vounits quotient s [] ps → Label (x ++ s) f ps
