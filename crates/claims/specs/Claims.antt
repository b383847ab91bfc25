-- The page of claims. Each is stated here, in the words of the crate label's specs/, and proved in proofs/Proved.antt.
use Rattle.std.specs.Prelude.{ℕ, suc, ◌≤◌, ◌<◌, ◌*◌, ◌≡◌, Bool, true, ◌||◌, List, [], ◌∷◌, ◌++◌, ◌↔◌, ◌⊎◌, T, eqb, ℤ, pos, ◌+ℤ◌, ◌*ℤ◌, nat_abs, length, get_or}
use Prim.Native.String.{String}
use Rattle.std.proofs.Math.Option.{Option, none, some}
use Rattle.label.specs.declared.Exponent.{Exponent}
use Rattle.label.specs.Bytes.{bytes, tab, letter, digit, all}
use Rattle.label.specs.Choice.{pick}
use Rattle.label.specs.Notations.{fits, ogip, cds, vounits, starlink, notation}
use Rattle.label.specs.Rows.{ogip_style, starlink_style}
use Rattle.label.specs.Prefixes.{prefixes}
use Rattle.label.specs.Units.{units, unit_at}
use Rattle.label.specs.Symbols.{known, unit_named, known_cuts}
use Rattle.label.specs.Lexical.{Factor, Part}
use Rattle.label.specs.Grammar.{Derives}
use Rattle.label.specs.Parse.{refused, parsed, parse}
use Rattle.label.specs.Limits.{Ratio, ratio, in_sixtieths, lowest_terms}
use Rattle.label.specs.Split.{Split, Valued, valued, Condition, Refused, Accepts}
use Rattle.label.specs.Reading.{Term, reading_of, reading}
use Rattle.label.specs.Agreement.{Gives}
use Rattle.label.specs.Meaning.{◌∈◌, Prefixable, Named, unrecommended, Sum, BaseIn, dimension, PrimeIn, prime_in_ten, scale_exponent, Empty, AsWritten, ZeroDecimal, PowerKeeps, FactorKeeps}
use Rattle.label.specs.Writing.{exponent_text, name_in, rewriting, rewriting_into, Refuses, SameContent}
use Rattle.label.specs.Lines.{fields, answer_fields, answer}
use Rattle.label.specs.Words.{Word, spoken_prefixes, spoken_units, all_names, names_fit, words, spoken, most_spoken, speaking_into}

-- DEMAND 2, READING

-- Sound and complete: `parse n s` finds the factor f and the units ps exactly where the grammar of notation n derives s with them.
abbrev pub ParseIsTheGrammar : Type 0
ParseIsTheGrammar = (n : ℕ) (s : List ℕ) (f : Factor) (ps : List Part) → (parse n s ≡ parsed f ps) ↔ Derives n s f ps

-- It finds nothing exactly where no derivation exists.
abbrev pub ParseRefusesTheRest : Type 0
ParseRefusesTheRest = (n : ℕ) (s : List ℕ) → (parse n s ≡ refused) ↔ ((f : Factor) (ps : List Part) → Derives n s f ps → ⊥)

-- Unambiguous: two derivations of one text in one notation have the same factor and the same units.
abbrev pub Unambiguous : Type 0
Unambiguous = (n : ℕ) (s : List ℕ) (f g : Factor) (ps qs : List Part) → Derives n s f ps → Derives n s g qs → (f ≡ g) × (ps ≡ qs)

-- A refusal's number is given exactly when its condition holds and no earlier one does.
abbrev pub RefusalsAreTheConditions : Type 0
RefusalsAreTheConditions = (n : ℕ) (s : List ℕ) (i : ℕ) → 1 ≤ i → ((reading n s).number ≡ i) ↔ Refused i n s

-- "a digit run, exponent or factor breaks its bound": a label has values exactly if none does.
abbrev pub BoundsAreKept : Type 0
BoundsAreKept = (f : Factor) (ps : List Part) → ((v : Valued) × (valued f ps ≡ some v)) ↔ (FactorKeeps f × ((p : Part) → p ∈ ps → PowerKeeps p.power))

-- Document 02: "A decimal whose digits are all 0 is grammatical and gets refusal 5."
abbrev pub ZeroDecimalsRefused : Type 0
ZeroDecimalsRefused = (n : ℕ) (s : List ℕ) (f : Factor) (ps : List Part) → Derives n s f ps → (p : Part) → p ∈ ps → ZeroDecimal p.power → Condition 5 n s

-- Of the powers that a grammar derives, these alone are 0: "Whole exponents and denominators stay as they were."
abbrev pub ZeroDecimalsAlone : Type 0
ZeroDecimalsAlone = (n : ℕ) (s : List ℕ) (f : Factor) (ps : List Part) → Derives n s f ps → (p : Part) → p ∈ ps → ((ratio p.power).numerator ≡ 0) ↔ ZeroDecimal p.power

-- "A refused reading has no terms, k = 0, no dimensions, scale 1 and all verdicts no."
abbrev pub RefusalsAreEmpty : Type 0
RefusalsAreEmpty = (n : ℕ) (s : List ℕ) (i : ℕ) → Refused i n s → Empty (reading n s)

-- 0 is answered exactly when the notation accepts the text.
abbrev pub ZeroIsAcceptance : Type 0
ZeroIsAcceptance = (n : ℕ) (s : List ℕ) → ((reading n s).number ≡ 0) ↔ ((x : Split) × Accepts n s x)

-- Then the reading has exactly the split's content, with the notation's own symbols, and each term is where its spelling does.
abbrev pub AcceptedContent : Type 0
AcceptedContent = (n : ℕ) (s : List ℕ) (x : Split) → Accepts n s x → Gives n s x (reading n s)

-- An accepted unit's exponent, in sixtieths, is the power that is written there, turned over by slashes or not.
abbrev pub ExponentsAsWritten : Type 0
ExponentsAsWritten = (n : ℕ) (s : List ℕ) (x : Split) (a : Accepts n s x) → AsWritten a.parts (reading n s).terms

-- Verdicts, dimensions and scale of an accepted label come from its notation, its k and its terms.
abbrev pub AnswersComeFromTheTerms : Type 0
AnswersComeFromTheTerms = (n : ℕ) (s : List ℕ) → (reading n s).number ≡ 0 → reading n s ≡ reading_of n (reading n s).k (reading n s).terms

-- "Known: every unit is."
abbrev pub KnownVerdict : Type 0
KnownVerdict =
    (n : ℕ) (s : List ℕ)
    → (reading n s).number ≡ 0
    → ((reading n s).known ≡ true) ↔ ((t : Term) → t ∈ (reading n s).terms → (p : Option ℕ) × (u : ℕ) × (t.symbol ≡ known p u))

-- "Lawful: every prefixed known unit is among .., and arcsec in CDS and VOUnits only; unknown units are lawful."
abbrev pub LawfulVerdict : Type 0
LawfulVerdict =
    (n : ℕ) (s : List ℕ)
    → (reading n s).number ≡ 0
    → ((reading n s).lawful ≡ true) ↔ ((t : Term) (p u : ℕ) → t ∈ (reading n s).terms → t.symbol ≡ known (some p) u → Prefixable n u)

-- "Recommended: known, and no term's unit is angstrom (by any of its names), erg, G or barn."
abbrev pub RecommendedVerdict : Type 0
RecommendedVerdict =
    (n : ℕ) (s : List ℕ)
    → (reading n s).number ≡ 0
    → ((reading n s).recommended ≡ true)
    ↔ (((reading n s).known ≡ true) × ((t : Term) (p : Option ℕ) (u : ℕ) → t ∈ (reading n s).terms → t.symbol ≡ known p u → Named u unrecommended → ⊥))

-- "A label's dimensions are its bases' exponents summed over the terms" There are 32 bases: 11 are named, and 21 units are bases of their own.
abbrev pub DimensionsAreSums : Type 0
DimensionsAreSums =
    (n : ℕ) (s : List ℕ)
    → (reading n s).number ≡ 0
    → (length (reading n s).dimensions ≡ 32) × ((b : ℕ) → b < 32 → Sum (BaseIn b) (reading n s).terms (dimension b (reading n s)))

-- "its scale, from k, prefixes and sizes, is a product of powers of 2, 3, 5 and 487": of each, 60 times its exponent in ten to the k, and the sum over the terms
abbrev pub ScaleIsASum : Type 0
ScaleIsASum =
    (n : ℕ) (s : List ℕ)
    → (reading n s).number ≡ 0
    → (p : ℕ)
    → p ∈ 2 ∷ 3 ∷ 5 ∷ 487 ∷ []
    → (z : ℤ) × Sum (PrimeIn p) (reading n s).terms z × (scale_exponent p (reading n s) ≡ pos 60 *ℤ prime_in_ten p (reading n s).k.0 +ℤ z)

-- "At most one split has a known rest."
abbrev pub AtMostOneKnownRest : Type 0
AtMostOneKnownRest = (n : ℕ) → notation n ≡ true → (l : List ℕ) → length (known_cuts n l) ≤ 1

-- Document 02, W3: "Known symbols are OGIP's, with Ang in place of angstrom"
pub record StarlinkSymbols : Type 0 where
  pub as_ogip : (l : List ℕ) → (l ≡ bytes "Ang" → ⊥) → (l ≡ bytes "angstrom" → ⊥) → unit_named starlink l ≡ unit_named ogip l
  pub ang : (u : ℕ) × (unit_named starlink (bytes "Ang") ≡ some u) × (unit_named ogip (bytes "angstrom") ≡ some u)
  pub not_both : (unit_named starlink (bytes "angstrom") ≡ none) × (unit_named ogip (bytes "Ang") ≡ none)

-- a/b is p/q in lowest terms: no fraction equal to a/b has a smaller denominator
pub record LowestTerms (a b p q : ℕ) : Type 0 where
  pub equal : p * b ≡ a * q
  pub positive : 1 ≤ q
  pub least : (x y : ℕ) → 1 ≤ y → x * b ≡ a * y → q ≤ y

-- "An exponent in lowest terms has a denominator that divides 60": it is a whole number of sixtieths.
abbrev pub SixtiethsAreTheBound : Type 0
SixtiethsAreTheBound =
    (r : Ratio) (p q : ℕ)
    → LowestTerms r.numerator r.denominator p q
    → (in_sixtieths r ≡ true) ↔ ((t : ℕ) × (t * q ≡ 60))

-- An exponent is shown in lowest terms.
abbrev pub ShownInLowestTerms : Type 0
ShownInLowestTerms =
    (e : Exponent)
    → LowestTerms (nat_abs e.0) 60 (nat_abs (lowest_terms e).numerator) (lowest_terms e).denominator

-- DEMAND 3

-- Whatever two notations both derive, they derive with the same factor and the same units: spellings, powers, turns and places.
abbrev pub GrammarsAgree : Type 0
GrammarsAgree = (n m : ℕ) (s : List ℕ) (f g : Factor) (ps qs : List Part) → Derives n s f ps → Derives m s g qs → (f ≡ g) × (ps ≡ qs)

-- "if both accept the text, the two splits are equal, and reading it in either answers 0, with the split's k and one term for each of its
-- spellings, in that order, with that exponent and with the prefix and unit that the symbol rules of that notation give the spelling"
abbrev pub NotationsAgree : Type 0
NotationsAgree =
    (n m : ℕ) (s : List ℕ) (x y : Split)
    → Accepts n s x
    → Accepts m s y
    → (x ≡ y) × Gives n s x (reading n s) × Gives m s x (reading m s)

-- DEMAND 2, REWRITING

-- "A rewritten label, read in its new notation, gives the same units, prefixes, exponents and power of ten."
abbrev pub RewrittenReadsAsTheSame : Type 0
RewrittenReadsAsTheSame =
    (n : ℕ) (s : List ℕ) (m : ℕ) → (rewriting n s m).number ≡ 0 → SameContent (reading n s) (reading m (rewriting n s m).text)

-- A refusal's number is given exactly when it is due, and nothing is written then.
abbrev pub RewritingRefusals : Type 0
RewritingRefusals = (n : ℕ) (s : List ℕ) (m i : ℕ) → 1 ≤ i → ((rewriting n s m).number ≡ i) ↔ Refuses n s m i

abbrev pub RefusedRewritesAreEmpty : Type 0
RefusedRewritesAreEmpty = (n : ℕ) (s : List ℕ) (m i : ℕ) → Refuses n s m i → rewriting n s m ≡ record { number = i; text = [] }

-- 14 is given exactly when "the lent buffer is shorter than the result" (a refused rewriting has no bytes), and 1 to 13 as without a buffer.
abbrev pub FourteenIsAShortBuffer : Type 0
FourteenIsAShortBuffer = (size n : ℕ) (s : List ℕ) (m : ℕ) → ((rewriting_into size n s m).number ≡ 14) ↔ (size < length (rewriting n s m).text)

abbrev pub EarlierWhateverTheBuffer : Type 0
EarlierWhateverTheBuffer = (size n : ℕ) (s : List ℕ) (m i : ℕ) → 1 ≤ i → i ≤ 13 → ((rewriting_into size n s m).number ≡ i) ↔ Refuses n s m i

-- A label has a form in its own notation.
abbrev pub OwnNotationHasForms : Type 0
OwnNotationHasForms = (n : ℕ) (s : List ℕ) → (rewriting n s n).number ≡ 12 → ⊥

-- Rewritten into the notation that it is in, a rewritten label keeps its bytes.
abbrev pub RewrittenOnceForAll : Type 0
RewrittenOnceForAll =
    (n : ℕ) (s : List ℕ) (m : ℕ)
    → (rewriting n s m).number ≡ 0
    → rewriting m (rewriting n s m).text m ≡ record { number = 0; text = (rewriting n s m).text }

-- the unit that notation n knows by the name l takes the name o in notation m. (A prefix and an exponent have no part in which name that is.)
abbrev pub Becomes : ℕ → String → ℕ → Option (List ℕ) → Type 0
Becomes n l m o = (u : ℕ) × (unit_named n (bytes l) ≡ some u) × (name_in m (bytes l) (unit_at u).names ≡ o)

-- Document 02, W3, of writing. (That its joint is a star, and which names FITS and OGIP write, follow from `RewrittenReadsAsTheSame` too.)
pub record StarlinkWriting : Type 0 where
  -- "with exponents as in OGIP"
  pub exponents : (e : Exponent) → exponent_text starlink_style e ≡ exponent_text ogip_style e
  -- "a label with k not 0 can't be written in notation 5"
  pub factors : (n : ℕ) (s : List ℕ) → (reading n s).number ≡ 0 → ((reading n s).k.0 ≡ pos 0 → ⊥) → (rewriting n s starlink).number ≡ 12
  -- "Ang .. becomes Angstrom in FITS and angstrom in OGIP and VOUnits." CDS has no name for that unit, and its other names become Ang.
  pub in_fits : Becomes starlink "Ang" fits (some (bytes "Angstrom"))
  pub in_ogip : Becomes starlink "Ang" ogip (some (bytes "angstrom"))
  pub in_cds : Becomes starlink "Ang" cds none
  pub in_vounits : Becomes starlink "Ang" vounits (some (bytes "angstrom"))
  pub from_fits : Becomes fits "Angstrom" starlink (some (bytes "Ang"))
  pub from_ogip : Becomes ogip "angstrom" starlink (some (bytes "Ang"))

-- LINES

-- how many bytes of s are b
unfoldable pub count_of : ℕ → List ℕ → ℕ
count_of b [] = 0
count_of b (c ∷ s) = pick (eqb c b) (suc (count_of b s)) (count_of b s)

-- "Not three tabs, or over 512 bytes without the newline: id empty, 15, checked before all others."
abbrev pub MalformedLines : Type 0
MalformedLines = (s : List ℕ) → (512 < length s) ⊎ (count_of tab s ≡ 3 → ⊥) → answer s ≡ bytes "\t15\t"

-- Any other line is answered by its four fields.
abbrev pub OtherLines : Type 0
OtherLines = (s : List ℕ) → length s ≤ 512 → count_of tab s ≡ 3 → (length (fields s) ≡ 4) × (answer s ≡ answer_fields (fields s))

-- WORDS (document 02, W1)

-- The names of prefixes and units pass the test of them, so: "All names differ, .. and none is .." a reserved word.
abbrev pub NamesFit : Type 0
NamesFit = T names_fit

abbrev pub NamesDiffer : Type 0
NamesDiffer = (i j : ℕ) → i < length all_names → j < length all_names → get_or all_names i [] ≡ get_or all_names j [] → i ≡ j

-- "each is one word, of letters only"
abbrev pub NamesAreLetters : Type 0
NamesAreLetters = (w : Word) → w ∈ (spoken_prefixes ++ spoken_units) → (1 ≤ length w) × T (all letter w)

-- "Each known unit and each prefix has one spoken name"
abbrev pub NamesForAll : Type 0
NamesForAll = (length spoken_prefixes ≡ length prefixes) × (length spoken_units ≡ length units)

-- "Two accepted readings that differ in k, or in a term's prefix, unit or exponent, or in the terms' number or order, never give the same words;
-- verdicts and the choice between two names of one unit aren't spoken."
abbrev pub WordsTellApart : Type 0
WordsTellApart =
    (n m : ℕ) (s t : List ℕ)
    → (reading n s).number ≡ 0
    → (reading m t).number ≡ 0
    → (spoken (reading n s) ≡ spoken (reading m t)) ↔ SameContent (reading n s) (reading m t)

-- a letter or a digit
unfoldable pub word_byte : ℕ → Bool
word_byte c = letter c || digit c

-- one or more letters and digits
pub record PlainWord (w : Word) : Type 0 where
  pub some : 1 ≤ length w
  pub plain : T (all word_byte w)

-- "ASCII words .. parted by single spaces": no word is empty or has a space.
abbrev pub PlainWords : Type 0
PlainWords = (n : ℕ) (s : List ℕ) → (reading n s).number ≡ 0 → (w : Word) → w ∈ words (reading n s) → PlainWord w

-- 1 to 7 are those of reading, whatever the buffer.
abbrev pub WordsRefusals : Type 0
WordsRefusals = (size n : ℕ) (s : List ℕ) (i : ℕ) → 1 ≤ i → i ≤ 7 → ((speaking_into size n s).number ≡ i) ↔ Refused i n s

-- "14 if the buffer is short"
abbrev pub FourteenIfTheWordsAreLonger : Type 0
FourteenIfTheWordsAreLonger =
    (size n : ℕ) (s : List ℕ) → ((speaking_into size n s).number ≡ 14) ↔ (((reading n s).number ≡ 0) × (size < length (spoken (reading n s))))

-- No other number is given.
abbrev pub SevenOrFourteen : Type 0
SevenOrFourteen = (size n : ℕ) (s : List ℕ) → ((speaking_into size n s).number ≤ 7) ⊎ ((speaking_into size n s).number ≡ 14)

-- With 0 go the words of an accepted reading, with any other number no bytes.
abbrev pub WordsWithZero : Type 0
WordsWithZero =
    (size n : ℕ) (s : List ℕ)
    → (speaking_into size n s).number ≡ 0
    → ((reading n s).number ≡ 0) × ((speaking_into size n s).text ≡ spoken (reading n s))

abbrev pub NoWordsWithOthers : Type 0
NoWordsWithOthers = (size n : ℕ) (s : List ℕ) → 1 ≤ (speaking_into size n s).number → (speaking_into size n s).text ≡ []

-- No label has words of more than 1,476 bytes, and one has as many. A buffer of that size is never refused.
abbrev pub WordsAreShort : Type 0
WordsAreShort = (n : ℕ) (s : List ℕ) → (reading n s).number ≡ 0 → length (spoken (reading n s)) ≤ most_spoken

abbrev pub LongestWordsAreMet : Type 0
LongestWordsAreMet = (n : ℕ) × (s : List ℕ) × ((reading n s).number ≡ 0) × (length (spoken (reading n s)) ≡ most_spoken)

abbrev pub RoomForAllWords : Type 0
RoomForAllWords = (size n : ℕ) (s : List ℕ) → most_spoken ≤ size → (speaking_into size n s).number ≡ (reading n s).number

-- Two labels and their words.
abbrev pub WordSamples : Type 0
WordSamples =
    (spoken (reading 3 (bytes "kg/m.s")) ≡ bytes "kilo gram metre to the minus 1 second")
    × (spoken (reading 1 (bytes "10-12 daX(-3/2)")) ≡ bytes "ten to the minus 12 deca unit X end to the minus 3 over 2")
