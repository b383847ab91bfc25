-- Labels as words (document 02, W1): what is spoken of an accepted reading.
use Rattle.std.specs.Prelude.{ℕ, Bool, true, false, ◌&&◌, ◌||◌, not, List, [], ◌∷◌, ◌++◌, map, eqb, ℤ, pos, nat_abs, length, get_or}
use Rattle.std.proofs.Math.Option.{Option, none, some}
use Rattle.label.specs.declared.Exponent.{Exponent}
use Rattle.label.specs.declared.Tens.{Tens}
use Rattle.label.specs.Bytes.{bytes, space, letter, all, same}
use Rattle.label.specs.Choice.{pick}
use Rattle.label.specs.Prefixes.{prefixes}
use Rattle.label.specs.Units.{units}
use Rattle.label.specs.Symbols.{Symbol, known, unknown}
use Rattle.label.specs.Limits.{parts_of_one, negative, Fraction, lowest_terms}
use Rattle.label.specs.Reading.{Term, Reading, reading}
use Rattle.label.specs.Conversion.{same_whole}
use Rattle.label.specs.Writing.{figures, Rewriting, unless, fitted}

-- a word, as its bytes
abbrev pub Word : Type 0
Word = List ℕ

-- NAMES

-- "Each known unit and each prefix has one spoken name, an English one of your choice, kept in a table." In the order of the prefixes.
unfoldable pub spoken_prefixes : List Word
spoken_prefixes =
    map bytes (
    -- da h k M G T P E Z Y
    "deca" ∷ "hecto" ∷ "kilo" ∷ "mega" ∷ "giga" ∷ "tera" ∷ "peta" ∷ "exa" ∷ "zetta" ∷ "yotta"
    -- d c m u n p f a z y
    ∷ "deci" ∷ "centi" ∷ "milli" ∷ "micro" ∷ "nano" ∷ "pico" ∷ "femto" ∷ "atto" ∷ "zepto" ∷ "yocto"
    ∷ [])

-- in the order of the units
unfoldable pub spoken_units : List Word
spoken_units =
    map bytes (
    -- m g s A K mol cd rad sr
    "metre" ∷ "gram" ∷ "second" ∷ "ampere" ∷ "kelvin" ∷ "mole" ∷ "candela" ∷ "radian" ∷ "steradian"
    -- Hz N Pa J W C V S F Wb T H lm lx
    ∷ "hertz" ∷ "newton" ∷ "pascal" ∷ "joule" ∷ "watt" ∷ "coulomb" ∷ "volt" ∷ "siemens" ∷ "farad" ∷ "weber" ∷ "tesla" ∷ "henry" ∷ "lumen" ∷ "lux"
    -- min h d yr deg arcmin arcsec
    ∷ "minute" ∷ "hour" ∷ "day" ∷ "year" ∷ "degree" ∷ "arcminute" ∷ "arcsecond"
    -- AU pc eV Jy barn mag byte
    ∷ "astronomicalunit" ∷ "parsec" ∷ "electronvolt" ∷ "jansky" ∷ "barn" ∷ "magnitude" ∷ "byte"
    -- mas pixel count Ry solMass solLum solRad D Sun bit ohm
    ∷ "milliarcsecond" ∷ "pixel" ∷ "count" ∷ "rydberg" ∷ "solarmass" ∷ "solarluminosity" ∷ "solarradius" ∷ "debye" ∷ "sun" ∷ "bit" ∷ "ohm"
    -- erg G lyr photon chan bin voxel
    ∷ "erg" ∷ "gauss" ∷ "lightyear" ∷ "photon" ∷ "channel" ∷ "bin" ∷ "voxel"
    -- u R adu beam angstrom %
    ∷ "dalton" ∷ "rayleigh" ∷ "datanumber" ∷ "beam" ∷ "angstrom" ∷ "percent"
    ∷ [])

-- "none is "unit", "end", "ten", "to", "the", "over" or "minus""
unfoldable pub reserved_words : List Word
reserved_words = map bytes ("unit" ∷ "end" ∷ "ten" ∷ "to" ∷ "the" ∷ "over" ∷ "minus" ∷ [])

-- every name, and the words that none may be
abbrev pub all_names : List Word
all_names = reserved_words ++ (spoken_prefixes ++ spoken_units)

unfoldable pub every_word : (Word → Bool) → List Word → Bool
every_word p [] = true
every_word p (w ∷ ws) = p w && every_word p ws

unfoldable pub is_among : Word → List Word → Bool
is_among w [] = false
is_among w (v ∷ vs) = same w v || is_among w vs

unfoldable pub all_differ : List Word → Bool
all_differ [] = true
all_differ (w ∷ ws) = not (is_among w ws) && all_differ ws

-- letters only, and two of them or more: one letter alone is that of an unknown unit
unfoldable pub is_name : Word → Bool
is_name [] = false
is_name (c ∷ []) = false
is_name (c ∷ d ∷ w) = all letter (c ∷ d ∷ w)

-- "All names differ, each is one word, of letters only, and none is "unit", "end", "ten", "to", "the", "over" or "minus"."; each prefix and each
-- known unit has one.
unfoldable pub names_fit : Bool
names_fit =
    all_differ all_names
    && (every_word is_name (spoken_prefixes ++ spoken_units)
    && (eqb (length spoken_prefixes) (length prefixes) && eqb (length spoken_units) (length units)))

-- WORDS

-- "with "minus" before a negative p or k. Numbers stay as digits."
unfoldable pub number_words : ℤ → List Word
number_words z = pick (negative z) (bytes "minus" ∷ []) [] ++ figures (nat_abs z) ∷ []

-- ""ten to the k" if k isn't 0"
unfoldable pub factor_words : Tens → List Word
factor_words k = pick (eqb (nat_abs k.0) 0) [] (bytes "ten" ∷ bytes "to" ∷ bytes "the" ∷ number_words k.0)

-- "for each term its prefix name"
unfoldable pub prefix_words : Option ℕ → List Word
prefix_words none = []
prefix_words (some i) = get_or spoken_prefixes i [] ∷ []

-- "its letters one by one"
unfoldable pub letter_words : List ℕ → List Word
letter_words l = map (λ (c : ℕ). c ∷ []) l

-- "its unit name". "An unknown unit is spoken as "unit", its letters one by one, and "end""
unfoldable pub symbol_words : Symbol → List Word
symbol_words (known p u) = prefix_words p ++ get_or spoken_units u [] ∷ []
symbol_words (unknown p l) = prefix_words p ++ (bytes "unit" ∷ letter_words l ++ bytes "end" ∷ [])

-- "over q", unless q is 1
abbrev pub over_words : ℕ → List Word
over_words q = pick (eqb q 1) [] (bytes "over" ∷ figures q ∷ [])

-- "p" or "p over q"
unfoldable pub fraction_words : Fraction → List Word
fraction_words f = number_words f.numerator ++ over_words f.denominator

-- "for an exponent other than 1 "to the p" or "to the p over q""
unfoldable pub exponent_words : Exponent → List Word
exponent_words e = pick (same_whole e.0 (pos parts_of_one)) [] (bytes "to" ∷ bytes "the" ∷ fraction_words (lowest_terms e))

unfoldable pub term_words : Term → List Word
term_words t = symbol_words t.symbol ++ exponent_words t.exponent

unfoldable pub terms_words : List Term → List Word
terms_words [] = []
terms_words (t ∷ ts) = term_words t ++ terms_words ts

unfoldable pub words : Reading → List Word
words r = factor_words r.k ++ terms_words r.terms

-- BYTES

-- each word after a space
unfoldable pub spaced_words : List Word → List ℕ
spaced_words [] = []
spaced_words (w ∷ ws) = space ∷ w ++ spaced_words ws

-- "parted by single spaces"
unfoldable pub joined_words : List Word → List ℕ
joined_words [] = []
joined_words (w ∷ ws) = w ++ spaced_words ws

unfoldable pub spoken : Reading → List ℕ
spoken r = joined_words (words r)

-- the most bytes that the words of an accepted label have: enough, and met (the claims `WordsAreShort`, `LongestWordsAreMet`)
abbrev pub most_spoken : ℕ
most_spoken = 1_476

-- THE CALL

-- "after 1 to 7". "Length returned and bytes changed are as for a rewrite, refused or accepted."
unfoldable pub speaking : ℕ → List ℕ → Rewriting
speaking n s = unless (eqb (reading n s).number 0) (reading n s).number (record { number = 0; text = spoken (reading n s) })

-- "14 if the buffer is short"
unfoldable pub speaking_into : ℕ → ℕ → List ℕ → Rewriting
speaking_into size n s = fitted size (speaking n s)
