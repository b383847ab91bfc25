-- Document 01's samples P1 to P12: one table of what the definitions answer and what is expected, under one claim.
use Rattle.std.specs.Prelude.{ℕ, ◌≡◌, Bool, true, false, List, [], ◌∷◌, map, ℤ, pos}
use Prim.Native.String.{String}
use Rattle.std.proofs.Math.Option.{Option, none, some}
use Rattle.label.specs.Bytes.{bytes}
use Rattle.label.specs.Notations.{fits, ogip, cds, vounits}
use Rattle.label.specs.Prefixes.{neg, prefix_named}
use Rattle.label.specs.Symbols.{Symbol, known, unknown, unit_named}
use Rattle.label.specs.Limits.{Fraction, lowest_terms}
use Rattle.label.specs.Reading.{Term, reading}
use Rattle.label.specs.Conversion.{conversion}

-- a term: its prefix and unit, and its exponent in lowest terms
pub record Shown : Type 0 where
  pub symbol : Symbol
  pub exponent : Fraction

-- what a sample shows of an answer: a reading's number, k, terms and whether it is lawful; or a conversion's number, n, d and k
pub data Expected : Type 0 where
  read : ℕ → ℤ → List Shown → Bool → Expected
  converted : ℕ → ℕ → ℕ → ℤ → Expected

-- a label, or two, and what is expected
pub record Sample : Type 0 where
  pub actual : Expected
  pub expected : Expected

abbrev pub shown : Term → Shown
shown t = record { symbol = t.symbol; exponent = lowest_terms t.exponent }

abbrev pub reads : ℕ → String → Expected → Sample
reads n s x = record {
  actual = read (reading n (bytes s)).number (reading n (bytes s)).k.0 (map shown (reading n (bytes s)).terms) (reading n (bytes s)).lawful;
  expected = x;
}

abbrev pub converts : ℕ → String → ℕ → String → Expected → Sample
converts n s m t x = record {
  actual = converted (conversion n (bytes s) m (bytes t)).number (conversion n (bytes s) m (bytes t)).numerator
      (conversion n (bytes s) m (bytes t)).denominator (conversion n (bytes s) m (bytes t)).k.0;
  expected = x;
}

-- a unit of VOUnits by its name there, with a prefix by its name, to a whole power
abbrev pub unit : String → String → ℤ → Shown
unit p u e = record { symbol = named (unit_named vounits (bytes u)); exponent = record { numerator = e; denominator = 1 } }
  where
    named : Option ℕ → Symbol
    named (some i) = known (prefix_named (bytes p)) i
    named none = unknown none []

-- unknown letters, with a prefix by its name
abbrev pub unknown_letters : String → String → Shown
unknown_letters p l = record { symbol = unknown (prefix_named (bytes p)) (bytes l); exponent = record { numerator = pos 1; denominator = 1 } }

abbrev pub accepted : List Shown → Expected
accepted ts = read 0 (pos 0) ts true

abbrev pub refused : ℕ → Expected
refused i = read i (pos 0) [] false

unfoldable pub samples : List Sample
samples =
    -- P1: empty, all four
    reads fits "" (accepted [])
    ∷ reads ogip "" (accepted [])
    ∷ reads cds "" (accepted [])
    ∷ reads vounits "" (accepted [])
    -- P2: CDS kg/m.s is kg, m-1, s
    ∷ reads cds "kg/m.s" (accepted (unit "k" "g" (pos 1) ∷ unit "" "m" (neg 1) ∷ unit "" "s" (pos 1) ∷ []))
    -- P3: FITS kg/m s is 4
    ∷ reads fits "kg/m s" (refused 4)
    -- P4: VOUnits kg/(m.s) is kg, m-1, s-1
    ∷ reads vounits "kg/(m.s)" (accepted (unit "k" "g" (pos 1) ∷ unit "" "m" (neg 1) ∷ unit "" "s" (neg 1) ∷ []))
    -- P5: FITS Pa is pascal
    ∷ reads fits "Pa" (accepted (unit "" "Pa" (pos 1) ∷ []))
    -- P6: VOUnits furlong is femto, urlong
    ∷ reads vounits "furlong" (accepted (unknown_letters "f" "urlong" ∷ []))
    -- P7: CDS pixel is pico, ixel
    ∷ reads cds "pixel" (accepted (unknown_letters "p" "ixel" ∷ []))
    -- P8: OGIP ph is pico, hour, unlawful
    ∷ reads ogip "ph" (read 0 (pos 0) (unit "p" "h" (pos 1) ∷ []) false)
    -- P9: CDS da is deci, year
    ∷ reads cds "da" (accepted (unit "d" "yr" (pos 1) ∷ []))
    -- P10: VOUnits 'm' is unknown m
    ∷ reads vounits "'m'" (accepted (unknown_letters "" "m" ∷ []))
    -- P11: FITS m(1/7) is 5
    ∷ reads fits "m(1/7)" (refused 5)
    -- P12: CDS km/h to CDS m/s is 1/36, k 1
    ∷ converts cds "km/h" cds "m/s" (converted 0 1 36 (pos 1))
    ∷ []

-- the one claim: each sample's answer is the expected one
abbrev pub SamplesHold : Type 0
SamplesHold = map (λ (x : Sample). x.actual) samples ≡ map (λ (x : Sample). x.expected) samples
