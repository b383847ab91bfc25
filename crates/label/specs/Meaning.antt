-- What a reading's fields mean, said of its terms one by one: the words in which the claims about them are stated.
use Rattle.std.specs.Prelude.{ℕ, ◌≤◌, ◌*◌, ◌^◌, ◌≡◌, true, false, ◌||◌, List, [], ◌∷◌, ◌++◌, map, ◌⊎◌, T, eqb, ℤ, pos, ◌+ℤ◌, ◌*ℤ◌, get_or, length}
use Prim.Native.String.{String}
use Rattle.std.proofs.Math.Option.{Option}
use Rattle.label.specs.Bytes.{bytes, digit_zero, all}
use Rattle.label.specs.Choice.{pick}
use Rattle.label.specs.Notations.{cds, vounits}
use Rattle.label.specs.Prefixes.{power_of}
use Rattle.label.specs.Units.{BasePower, Name, ◌↑◌, unit_at}
use Rattle.label.specs.Symbols.{Symbol, known, unknown}
use Rattle.label.specs.Lexical.{Numeral, Written, unwritten, whole, decimal, fraction, Factor, no_factor, ten_to, zeros, Part}
use Rattle.label.specs.Limits.{number, signed, exclusive_or, ratio, in_sixtieths}
use Rattle.label.specs.Reading.{Term, nothing, Reading}

-- x is in the list
infix 4 ◌∈◌
abbrev pub ◌∈◌ : {A : Type 0} → A → List A → Type 0
x ∈ [] = ⊥
x ∈ (y ∷ l) = (x ≡ y) ⊎ (x ∈ l)

-- VERDICTS

-- row u has one of these names
abbrev pub Named : ℕ → List String → Type 0
Named u names = (l : List ℕ) × (l ∈ map (λ (x : Name). x.letters) (unit_at u).names) × (l ∈ map bytes names)

-- "m to Ohm/ohm in SI (the first 23 above and ohm), a, yr, pc, eV, Jy, bit, byte"
abbrev pub prefixable : List String
prefixable =
    "m" ∷ "g" ∷ "s" ∷ "A" ∷ "K" ∷ "mol" ∷ "cd" ∷ "rad" ∷ "sr" ∷ "Hz" ∷ "N" ∷ "Pa" ∷ "J" ∷ "W" ∷ "C" ∷ "V" ∷ "S" ∷ "F" ∷ "Wb" ∷ "T" ∷ "H" ∷ "lm" ∷ "lx"
    ∷ "Ohm" ∷ "ohm" ∷ "a" ∷ "yr" ∷ "pc" ∷ "eV" ∷ "Jy" ∷ "bit" ∷ "byte" ∷ []

-- notation n allows a prefix on row u: "among .., and arcsec in CDS and VOUnits only"
pub data Prefixable (n u : ℕ) : Type 0 where
  among : Named u prefixable → Prefixable n u
  arcsec : Named u ("arcsec" ∷ []) → (n ≡ cds) ⊎ (n ≡ vounits) → Prefixable n u

-- "angstrom (by any of its names), erg, G or barn"
abbrev pub unrecommended : List String
unrecommended = "angstrom" ∷ "Angstrom" ∷ "erg" ∷ "G" ∷ "barn" ∷ []

-- SUMS

-- z is the sum over the terms of what a term's unit has, times the term's exponent
pub data Sum (Has : Symbol → ℤ → Type 0) : List Term → ℤ → Type 0 where
  empty : Sum Has [] (pos 0)
  added : {t : Term} {ts : List Term} {y z : ℤ} → Has t.symbol y → Sum Has ts z → Sum Has (t ∷ ts) (y *ℤ t.exponent.0 +ℤ z)

-- a size has the base b to the power that it lists, and to the power 0 where it does not list b
pub data PowerIn (b : ℕ) (xs : List BasePower) : ℤ → Type 0 where
  listed : {z : ℤ} → (b ↑ z) ∈ xs → PowerIn b xs z
  unlisted : ((z : ℤ) → (b ↑ z) ∈ xs → ⊥) → PowerIn b xs (pos 0)

-- a known unit has the bases of its size, and an unknown unit has none
pub data BaseIn (b : ℕ) : Symbol → ℤ → Type 0 where
  by_size : {p : Option ℕ} {u : ℕ} {z : ℤ} → PowerIn b (unit_at u).size.bases z → BaseIn b (known p u) z
  nowhere : {p : Option ℕ} {l : List ℕ} → BaseIn b (unknown p l) (pos 0)

-- the exponent of base b in a reading's dimensions
abbrev pub dimension : ℕ → Reading → ℤ
dimension b r = (get_or r.dimensions b nothing).0

-- the exponent of the prime p in ten to the z: ten is 2 times 5
abbrev pub prime_in_ten : ℕ → ℤ → ℤ
prime_in_ten p z = pick (eqb p 2 || eqb p 5) z (pos 0)

-- n is the product of 2, 3, 5 and 487, each to the power that m gives it
abbrev pub Product : (ℕ → ℕ) → ℕ → Type 0
Product m n = n ≡ 2 ^ m 2 * 3 ^ m 3 * 5 ^ m 5 * 487 ^ m 487

-- A unit has the prime p by its prefix, and by its size: a power of ten and a count. "An unknown unit adds its prefix only."
pub data PrimeIn (p : ℕ) : Symbol → ℤ → Type 0 where
  with_size : {x : Option ℕ} {u : ℕ} (m : ℕ → ℕ) → Product m (unit_at u).size.count
      → PrimeIn p (known x u) (prime_in_ten p (power_of x).0 +ℤ (prime_in_ten p (unit_at u).size.tens.0 +ℤ pos (m p)))
  prefix_only : {x : Option ℕ} {l : List ℕ} → PrimeIn p (unknown x l) (prime_in_ten p (power_of x).0)

-- the exponent of the prime p (2, 3, 5 or 487) in a reading's scale
abbrev pub scale_exponent : ℕ → Reading → ℤ
scale_exponent p r = (pick (eqb p 2) r.scale.of_2 (pick (eqb p 3) r.scale.of_3 (pick (eqb p 5) r.scale.of_5 r.scale.of_487))).0

-- REFUSED READINGS

-- "A refused reading has no terms, k = 0, no dimensions, scale 1 and all verdicts no."
pub record Empty (r : Reading) : Type 0 where
  pub terms : r.terms ≡ []
  pub k : r.k.0 ≡ pos 0
  pub dimensions : (b : ℕ) → dimension b r ≡ pos 0
  pub scale : (p : ℕ) → p ∈ 2 ∷ 3 ∷ 5 ∷ 487 ∷ [] → scale_exponent p r ≡ pos 0
  pub known : r.known ≡ false
  pub lawful : r.lawful ≡ false
  pub recommended : r.recommended ≡ false

-- EXPONENTS

-- the terms' exponents are the powers as written, in the label's order: e sixtieths are p/q, turned over by slashes or not
pub data AsWritten : List Part → List Term → Type 0 where
  empty : AsWritten [] []
  next : {x : Part} {xs : List Part} {t : Term} {ts : List Term}
      → t.exponent.0 *ℤ pos (ratio x.power).denominator ≡ pos 60 *ℤ signed (exclusive_or x.turned (ratio x.power).negative) (ratio x.power).numerator
      → AsWritten xs ts
      → AsWritten (x ∷ xs) (t ∷ ts)

-- BOUNDS

abbrev pub digit_runs : Written → List (List ℕ)
digit_runs unwritten = []
digit_runs (whole n) = n.digits ∷ []
digit_runs (decimal n ds) = n.digits ∷ ds ∷ []
digit_runs (fraction n ds) = n.digits ∷ ds ∷ []

-- "A decimal whose digits are all 0"
abbrev pub ZeroDecimal : Written → Type 0
ZeroDecimal unwritten = ⊥
ZeroDecimal (whole n) = ⊥
ZeroDecimal (decimal n ds) = T (all (λ c. eqb c digit_zero) (n.digits ++ ds))
ZeroDecimal (fraction n ds) = ⊥

-- "Each digit run: at most 4 digits. An exponent in lowest terms has a denominator that divides 60, and a size of at most 99." It is not 0.
pub record PowerKeeps (w : Written) : Type 0 where
  pub runs : (ds : List ℕ) → ds ∈ digit_runs w → length ds ≤ 4
  pub not_zero : 1 ≤ (ratio w).numerator
  pub sixtieths : in_sixtieths (ratio w) ≡ true
  pub size : (ratio w).numerator ≤ 99 * (ratio w).denominator

-- "at most 4 digits (not for a plain factor)", "ten to the k, k from -99 to 99"
pub data FactorKeeps : Factor → Type 0 where
  absent : FactorKeeps no_factor
  integer : {n : Numeral} → length n.digits ≤ 4 → number n.digits ≤ 99 → FactorKeeps (ten_to n)
  plain : {k : ℕ} → k ≤ 99 → FactorKeeps (zeros k)
