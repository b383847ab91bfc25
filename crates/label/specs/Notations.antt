-- The notations: their numbers, and the sets of them that documents 01 and 02 name.
use Rattle.std.specs.Prelude.{ℕ, Bool, false, ◌||◌, List, [], ◌∷◌, eqb}

-- "1 FITS, 2 OGIP, 3 CDS, 4 VOUnits"
abbrev pub fits : ℕ
fits = 1

abbrev pub ogip : ℕ
ogip = 2

abbrev pub cds : ℕ
cds = 3

abbrev pub vounits : ℕ
vounits = 4

-- document 02, W3: "The Starlink notation. .. Add notation 5"
abbrev pub starlink : ℕ
starlink = 5

-- a set of notations
abbrev pub Notations : Type 0
Notations = List ℕ

unfoldable pub member : ℕ → Notations → Bool
member n [] = false
member n (m ∷ ms) = eqb n m || member n ms

-- the sets that document 01 names, in its words. Document 02, W3, of Starlink: "Known symbols are OGIP's", so it is in the sets that OGIP is in.
abbrev pub everywhere : Notations
everywhere = fits ∷ ogip ∷ cds ∷ vounits ∷ starlink ∷ []

abbrev pub not_ogip : Notations
not_ogip = fits ∷ cds ∷ vounits ∷ []

abbrev pub not_cds : Notations
not_cds = fits ∷ ogip ∷ vounits ∷ starlink ∷ []

abbrev pub fits_vounits : Notations
fits_vounits = fits ∷ vounits ∷ []

abbrev pub ogip_vounits : Notations
ogip_vounits = ogip ∷ vounits ∷ []

abbrev pub ogip_starlink : Notations
ogip_starlink = ogip ∷ starlink ∷ []

abbrev pub only_cds : Notations
only_cds = cds ∷ []

abbrev pub cds_vounits : Notations
cds_vounits = cds ∷ vounits ∷ []

-- "with Ang in place of angstrom"
abbrev pub only_starlink : Notations
only_starlink = starlink ∷ []

abbrev pub nowhere : Notations
nowhere = []

-- "Fraction p/q: .. none in CDS."
abbrev pub fractionless : Notations
fractionless = only_cds

-- W3: "a label with k not 0 can't be written in notation 5"
abbrev pub factorless : Notations
factorless = only_starlink

-- the number of a notation
unfoldable pub notation : ℕ → Bool
notation n = member n everywhere
