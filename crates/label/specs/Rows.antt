-- What the notations have, a row each: their rules as flags, for the reading as a function; how they write; and their names in lines.
use Rattle.std.specs.Prelude.{ℕ, Bool, true, false, List, [], ◌∷◌, eqb}
use Rattle.std.proofs.Math.Option.{Option, none, some}
use Rattle.label.specs.declared.Rules.{Rules}
use Rattle.label.specs.Bytes.{bytes}
use Rattle.label.specs.Notations.{fits, ogip, cds, vounits, starlink}

-- a notation's number and what a table has for it
pub record Row (A : Type 0) : Type 0 where
  pub number : ℕ
  pub value : A

unfoldable pub value_among : {A : Type 0} → ℕ → List (Row A) → Option A
value_among n [] = none
value_among n (x ∷ xs) = elim (eqb n x.number) [ true ↦ some x.value | false ↦ value_among n xs ]

-- RULES

abbrev pub fits_rules : Rules
fits_rules = record {
  percent = false;
  quotes = false;
  direct = true;
  brackets = true;
  stars = true;
  caret = true;
  space = true;
  spaces = false;
  star = true;
  point = true;
  each = false;
  within = false;
  lead = true;
  factor = true;
  wrapped = true;
  signed = true;
  plain = false;
}

abbrev pub ogip_rules : Rules
ogip_rules = record {
  percent = false;
  quotes = false;
  direct = false;
  brackets = false;
  stars = true;
  caret = false;
  space = true;
  spaces = true;
  star = true;
  point = false;
  each = true;
  within = false;
  lead = false;
  factor = true;
  wrapped = true;
  signed = false;
  plain = true;
}

abbrev pub cds_rules : Rules
cds_rules = record {
  percent = true;
  quotes = false;
  direct = true;
  brackets = false;
  stars = false;
  caret = false;
  space = false;
  spaces = false;
  star = false;
  point = true;
  each = true;
  within = false;
  lead = false;
  factor = true;
  wrapped = false;
  signed = true;
  plain = true;
}

abbrev pub vounits_rules : Rules
vounits_rules = record {
  percent = false;
  quotes = true;
  direct = false;
  brackets = false;
  stars = true;
  caret = false;
  space = false;
  spaces = false;
  star = false;
  point = true;
  each = false;
  within = true;
  lead = false;
  factor = true;
  wrapped = true;
  signed = false;
  plain = true;
}

abbrev pub starlink_rules : Rules
starlink_rules = record {
  percent = false;
  quotes = false;
  direct = false;
  brackets = false;
  stars = true;
  caret = false;
  space = false;
  spaces = false;
  star = true;
  point = false;
  each = false;
  within = false;
  lead = false;
  factor = false;
  wrapped = false;
  signed = false;
  plain = false;
}

unfoldable pub ruled : List (Row Rules)
ruled =
    record { number = fits; value = fits_rules }
    ∷ record { number = ogip; value = ogip_rules }
    ∷ record { number = cds; value = cds_rules }
    ∷ record { number = vounits; value = vounits_rules }
    ∷ record { number = starlink; value = starlink_rules }
    ∷ []

-- the rules of notation n
unfoldable pub rules_of : ℕ → Option Rules
rules_of n = value_among n ruled

-- STYLES: how a notation writes

pub record Style : Type 0 where
  -- whether an unknown unit may be quoted
  pub quotes : Bool
  -- what joins units
  pub joint : List ℕ
  -- what comes before an exponent, whether a negative whole one has brackets, and whether a fraction has a form
  pub raise : List ℕ
  pub wrapped : Bool
  pub fractions : Bool
  -- whether a factor has a form; what comes before k, whether a k above 0 has a plus, and what comes after k
  pub factors : Bool
  pub ten : List ℕ
  pub signed : Bool
  pub gap : List ℕ

-- "`10**k` and a space (FITS, OGIP), `10**k` (VOUnits), `10+3` or `10-3` style (CDS). Joined by a space (FITS, OGIP) or a point."
-- "Whole: m-2 (FITS, CDS), `m**-2` (VOUnits), `m**2` and `m**(-2)` (OGIP). Fraction p/q: m(p/q) (FITS), `m**(p/q)` (OGIP, VOUnits),
-- none in CDS. No plus but in the CDS factor."
abbrev pub fits_style : Style
fits_style = record {
  quotes = false;
  joint = bytes " ";
  raise = bytes "";
  wrapped = false;
  fractions = true;
  factors = true;
  ten = bytes "10**";
  signed = false;
  gap = bytes " ";
}

abbrev pub ogip_style : Style
ogip_style = record {
  quotes = false;
  joint = bytes " ";
  raise = bytes "**";
  wrapped = true;
  fractions = true;
  factors = true;
  ten = bytes "10**";
  signed = false;
  gap = bytes " ";
}

abbrev pub cds_style : Style
cds_style = record {
  quotes = false;
  joint = bytes ".";
  raise = bytes "";
  wrapped = false;
  fractions = false;
  factors = true;
  ten = bytes "10";
  signed = true;
  gap = bytes "";
}

abbrev pub vounits_style : Style
vounits_style = record {
  quotes = true;
  joint = bytes ".";
  raise = bytes "**";
  wrapped = false;
  fractions = true;
  factors = true;
  ten = bytes "10**";
  signed = false;
  gap = bytes "";
}

-- document 02, W3: "Writing joins by a star, with exponents as in OGIP; a label with k not 0 can't be written in notation 5."
abbrev pub starlink_style : Style
starlink_style = record {
  quotes = false;
  joint = bytes "*";
  raise = bytes "**";
  wrapped = true;
  fractions = true;
  factors = false;
  ten = bytes "";
  signed = false;
  gap = bytes "";
}

unfoldable pub styled : List (Row Style)
styled =
    record { number = fits; value = fits_style }
    ∷ record { number = ogip; value = ogip_style }
    ∷ record { number = cds; value = cds_style }
    ∷ record { number = vounits; value = vounits_style }
    ∷ record { number = starlink; value = starlink_style }
    ∷ []

-- the style of notation n
unfoldable pub style_of : ℕ → Option Style
style_of n = value_among n styled

-- NAMES

-- "notation (fits, ogip, cds, vou)"; W3: "line programs accept the name starlink"
unfoldable pub named : List (Row (List ℕ))
named =
    record { number = fits; value = bytes "fits" }
    ∷ record { number = ogip; value = bytes "ogip" }
    ∷ record { number = cds; value = bytes "cds" }
    ∷ record { number = vounits; value = bytes "vou" }
    ∷ record { number = starlink; value = bytes "starlink" }
    ∷ []
