-- OGIP: its grammar, by the paragraph of document 01 on how OGIP joins units.
use Rattle.std.specs.Prelude.{ℕ, ◌≡◌, false, List, [], ◌∷◌, ◌++◌, eqb}
use Rattle.label.specs.Bytes.{space as space_byte, open_bracket, close_bracket, star as star_byte, slash, digit_zero, digit_one}
use Rattle.label.specs.Lexical.{Numeral, Written, Factor, no_factor, ten_to, zeros, Part, part, turned_all, Kind, item, more, product, Letters, TwoStars, Wrapped, Plain, Spaces}

-- "joined by one or more spaces, a star, or a slash, the last two with any spaces on each side"
pub data Times : List ℕ → Type 0 where
  spaces : {a : List ℕ} → Spaces a → Times (space_byte ∷ a)
  star : {a b : List ℕ} → Spaces a → Spaces b → Times (a ++ star_byte ∷ b)

pub data Over : List ℕ → Type 0 where
  slashed : {a b : List ℕ} → Spaces a → Spaces b → Over (a ++ slash ∷ b)

-- Ogip x s t ps: the text s begins with an x, which ends where t begins, and ps are its units.
pub data Ogip : Kind → List ℕ → List ℕ → List Part → Type 0 where
  -- "Exponent: ** and a power."
  unit : {l e t : List ℕ} {w : Written} → Letters l → TwoStars e w → Ogip item (l ++ (e ++ t)) t (part l w (e ++ t) ∷ [])
  -- "Units or groups joined by one or more spaces, a star, or a slash, the last two with any spaces on each side."
  -- "Each slash turns over only the next unit or group."
  first : {s t u : List ℕ} {ps qs : List Part} → Ogip item s t ps → Ogip more t u qs → Ogip product s u (ps ++ qs)
  done : {s : List ℕ} → Ogip more s s []
  times : {j s t u : List ℕ} {ps qs : List Part} → Times j → Ogip item s t ps → Ogip more t u qs → Ogip more (j ++ s) u (ps ++ qs)
  over : {j s t u : List ℕ} {ps qs : List Part} → Over j → Ogip item s t ps → Ogip more t u qs → Ogip more (j ++ s) u (turned_all ps ++ qs)
  -- "A leading slash, with the same spaces, is allowed, also inside a group and after a factor."
  under : {j s t u : List ℕ} {ps qs : List Part} → Over j → Ogip item s t ps → Ogip more t u qs → Ogip product (j ++ s) u (turned_all ps ++ qs)
  group : {s t : List ℕ} {ps : List Part} → Ogip product s (close_bracket ∷ t) ps → Ogip item (open_bracket ∷ s) t ps

-- "Factor: 10, ** and an integer (bare or bracketed), or plain 1, 10, 100 and so on"
pub data Tens : List ℕ → Factor → Type 0 where
  stars : {e : List ℕ} {n : Numeral} → Wrapped e n → Tens (digit_one ∷ digit_zero ∷ star_byte ∷ star_byte ∷ e) (ten_to n)
  plain : {x : List ℕ} {k : ℕ} → Plain x k → Tens x (zeros k)

-- "No text starts or ends with a space." (No rule ends with one.)
pub data Unspaced : List ℕ → Type 0 where
  unspaced : {c : ℕ} {s : List ℕ} → eqb c space_byte ≡ false → Unspaced (c ∷ s)

-- Label s f ps: the text s is an OGIP label with the factor f and the units ps.
pub data Label : List ℕ → Factor → List Part → Type 0 where
  -- "The empty text is accepted in all four and has no terms."
  empty : Label [] no_factor []
  plain : {s : List ℕ} {ps : List Part} → Unspaced s → Ogip product s [] ps → Label s no_factor ps
  -- "then any number of spaces"
  factored : {x g s : List ℕ} {f : Factor} {ps : List Part} → Tens x f → Spaces g → Ogip product s [] ps → Label (x ++ (g ++ s)) f ps
