-- Starlink: its grammar, by request W3 of document 02.
use Rattle.std.specs.Prelude.{ℕ, List, [], ◌∷◌, ◌++◌}
use Rattle.label.specs.Bytes.{open_bracket, close_bracket, star, slash}
use Rattle.label.specs.Lexical.{Written, Factor, no_factor, Part, part, turned_all, Kind, item, more, product, quotient, Letters, TwoStars}

-- Starlink x s t ps: the text s begins with an x, which ends where t begins, and ps are its units.
pub data Starlink : Kind → List ℕ → List ℕ → List Part → Type 0 where
  -- "product by a star without spaces"
  first : {s t u : List ℕ} {ps qs : List Part} → Starlink item s t ps → Starlink more t u qs → Starlink product s u (ps ++ qs)
  done : {s : List ℕ} → Starlink more s s []
  times : {s t u : List ℕ} {ps qs : List Part} → Starlink item s t ps → Starlink more t u qs → Starlink more (star ∷ s) u (ps ++ qs)
  -- "exponent ** and a power"
  unit : {l e t : List ℕ} {w : Written} → Letters l → TwoStars e w → Starlink item (l ++ (e ++ t)) t (part l w (e ++ t) ∷ [])
  -- "at most one slash in the whole, those inside powers not counted, followed by one unit or group that ends the label"
  plain : {s t : List ℕ} {ps : List Part} → Starlink product s t ps → Starlink quotient s t ps
  over : {s t u : List ℕ} {ps qs : List Part} → Starlink product s (slash ∷ t) ps → Starlink item t u qs → Starlink quotient s u (ps ++ turned_all qs)
  -- "a group holding a product without a slash"
  group : {s t : List ℕ} {ps : List Part} → Starlink product s (close_bracket ∷ t) ps → Starlink item (open_bracket ∷ s) t ps

-- Label s f ps: the text s is a Starlink label with the factor f and the units ps.
pub data Label : List ℕ → Factor → List Part → Type 0 where
  -- "no factor. A slash can't lead": a product starts with a unit or a group.
  plain : {s : List ℕ} {ps : List Part} → Starlink quotient s [] ps → Label s no_factor ps
  -- "the empty text is accepted"
  empty : Label [] no_factor []
