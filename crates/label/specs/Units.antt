-- The known units, one row each: names and where they are known, where a prefix is lawful, whether recommended, and the size.
use Rattle.std.specs.Prelude.{ℕ, zero, suc, ◌/◌, ◌%◌, Bool, true, false, List, [], ◌∷◌, eqb, ℤ, pos, ◌+ℤ◌, get_or}
use Prim.Native.String.{String}
use Rattle.label.specs.declared.Tens.{Tens}
use Rattle.label.specs.Bytes.{bytes}
use Rattle.label.specs.Choice.{pick}
use Rattle.label.specs.Prefixes.{neg}
use Rattle.label.specs.Notations.{Notations, everywhere, not_ogip, not_cds, fits_vounits, ogip_vounits, ogip_starlink, only_starlink, only_cds, cds_vounits, nowhere}

-- BASES

-- "Bases: m g s A K mol cd rad sr arcsec bit."
abbrev pub metre : ℕ
metre = 0

abbrev pub gram : ℕ
gram = 1

abbrev pub second : ℕ
second = 2

abbrev pub ampere : ℕ
ampere = 3

abbrev pub kelvin : ℕ
kelvin = 4

abbrev pub mole : ℕ
mole = 5

abbrev pub candela : ℕ
candela = 6

abbrev pub radian : ℕ
radian = 7

abbrev pub steradian : ℕ
steradian = 8

abbrev pub arcsecond : ℕ
arcsecond = 9

abbrev pub bit : ℕ
bit = 10

-- "Every other known unit is a base of its own." These have the numbers 11 to 31, in the table's order.
abbrev pub base_count : ℕ
base_count = 32

-- a base to a power
infix 70 ◌↑◌
pub record BasePower : Type 0 where
  pub base : ℕ
  pub power : ℤ

abbrev pub ◌↑◌ : ℕ → ℤ → BasePower
b ↑ z = record { base = b; power = z }

-- SIZES

-- ten to a power, times a count, times a product of bases
pub record Size : Type 0 where
  pub tens : Tens
  pub count : ℕ
  pub bases : List BasePower

-- a unit that is itself a base
abbrev pub base : ℕ → Size
base b = record { tens = record { 0 = pos 0 }; count = 1; bases = b ↑ pos 1 ∷ [] }

-- a power of ten of bases, as "10+3 g m s-2"
abbrev pub ten_to : ℤ → List BasePower → Size
ten_to z bs = record { tens = record { 0 = z }; count = 1; bases = bs }

-- a number of one base, as "60 s"
abbrev pub number_of : ℕ → ℕ → Size
number_of n b = record { tens = record { 0 = pos 0 }; count = n; bases = b ↑ pos 1 ∷ [] }

-- ROWS

-- a name, and the notations that know it
pub record Name : Type 0 where
  pub letters : List ℕ
  pub known_in : Notations

pub record KnownUnit : Type 0 where
  pub names : List Name
  -- where a prefix on it is lawful
  pub prefixed_in : Notations
  pub recommended : Bool
  pub size : Size

infix 70 ◌known◌
abbrev pub ◌known◌ : String → Notations → Name
s known ns = record { letters = bytes s; known_in = ns }

-- a unit on which a prefix is lawful in the notations named, and one on which it is lawful nowhere
abbrev pub prefixed : Notations → List Name → Size → KnownUnit
prefixed ns xs z = record { names = xs; prefixed_in = ns; recommended = true; size = z }

abbrev pub bare : List Name → Size → KnownUnit
bare xs z = record { names = xs; prefixed_in = nowhere; recommended = true; size = z }

-- "Recommended: known, and no term's unit is angstrom (by any of its names), erg, G or barn." A prefix on these is lawful nowhere.
abbrev pub discouraged : List Name → Size → KnownUnit
discouraged xs z = record { names = xs; prefixed_in = nowhere; recommended = false; size = z }

-- "Lawful: every prefixed known unit is among m to Ohm/ohm in SI (the first 23 above and ohm), a, yr, pc, eV, Jy, bit, byte,
-- and arcsec in CDS and VOUnits only."
abbrev pub si : String → Size → KnownUnit
si s z = prefixed everywhere (s known everywhere ∷ []) z

unfoldable pub units : List KnownUnit
units =
    -- "Known in all: m g s A K mol cd rad sr Hz N Pa J W C V S F Wb T H lm lx"
    si "m" (base metre)
    ∷ si "g" (base gram)
    ∷ si "s" (base second)
    ∷ si "A" (base ampere)
    ∷ si "K" (base kelvin)
    ∷ si "mol" (base mole)
    ∷ si "cd" (base candela)
    ∷ si "rad" (base radian)
    ∷ si "sr" (base steradian)
    ∷ si "Hz" (ten_to (pos 0) (second ↑ neg 1 ∷ []))
    ∷ si "N" (ten_to (pos 3) (gram ↑ pos 1 ∷ metre ↑ pos 1 ∷ second ↑ neg 2 ∷ []))
    ∷ si "Pa" (ten_to (pos 3) (gram ↑ pos 1 ∷ metre ↑ neg 1 ∷ second ↑ neg 2 ∷ []))
    ∷ si "J" (ten_to (pos 3) (gram ↑ pos 1 ∷ metre ↑ pos 2 ∷ second ↑ neg 2 ∷ []))
    ∷ si "W" (ten_to (pos 3) (gram ↑ pos 1 ∷ metre ↑ pos 2 ∷ second ↑ neg 3 ∷ []))
    ∷ si "C" (ten_to (pos 0) (ampere ↑ pos 1 ∷ second ↑ pos 1 ∷ []))
    ∷ si "V" (ten_to (pos 3) (gram ↑ pos 1 ∷ metre ↑ pos 2 ∷ second ↑ neg 3 ∷ ampere ↑ neg 1 ∷ []))
    ∷ si "S" (ten_to (neg 3) (gram ↑ neg 1 ∷ metre ↑ neg 2 ∷ second ↑ pos 3 ∷ ampere ↑ pos 2 ∷ []))
    ∷ si "F" (ten_to (neg 3) (gram ↑ neg 1 ∷ metre ↑ neg 2 ∷ second ↑ pos 4 ∷ ampere ↑ pos 2 ∷ []))
    ∷ si "Wb" (ten_to (pos 3) (gram ↑ pos 1 ∷ metre ↑ pos 2 ∷ second ↑ neg 2 ∷ ampere ↑ neg 1 ∷ []))
    ∷ si "T" (ten_to (pos 3) (gram ↑ pos 1 ∷ second ↑ neg 2 ∷ ampere ↑ neg 1 ∷ []))
    ∷ si "H" (ten_to (pos 3) (gram ↑ pos 1 ∷ metre ↑ pos 2 ∷ second ↑ neg 2 ∷ ampere ↑ neg 2 ∷ []))
    ∷ si "lm" (ten_to (pos 0) (candela ↑ pos 1 ∷ steradian ↑ pos 1 ∷ []))
    ∷ si "lx" (ten_to (pos 0) (candela ↑ pos 1 ∷ steradian ↑ pos 1 ∷ metre ↑ neg 2 ∷ []))
    -- "min h d yr deg arcmin arcsec AU pc eV Jy barn mag byte."
    ∷ bare ("min" known everywhere ∷ []) (number_of 60 second)
    ∷ bare ("h" known everywhere ∷ []) (number_of 3_600 second)
    ∷ bare ("d" known everywhere ∷ []) (number_of 86_400 second)
    ∷ prefixed everywhere ("yr" known everywhere ∷ "a" known not_ogip ∷ []) (number_of 31_557_600 second)
    ∷ bare ("deg" known everywhere ∷ []) (number_of 3_600 arcsecond)
    ∷ bare ("arcmin" known everywhere ∷ []) (number_of 60 arcsecond)
    ∷ prefixed cds_vounits ("arcsec" known everywhere ∷ []) (base arcsecond)
    ∷ bare ("AU" known everywhere ∷ []) (base 11)
    ∷ prefixed everywhere ("pc" known everywhere ∷ []) (base 12)
    ∷ prefixed everywhere ("eV" known everywhere ∷ []) (base 13)
    ∷ prefixed everywhere ("Jy" known everywhere ∷ []) (ten_to (neg 23) (gram ↑ pos 1 ∷ second ↑ neg 2 ∷ []))
    ∷ discouraged ("barn" known everywhere ∷ []) (ten_to (neg 28) (metre ↑ pos 2 ∷ []))
    ∷ bare ("mag" known everywhere ∷ []) (base 14)
    ∷ prefixed everywhere ("byte" known everywhere ∷ []) (number_of 8 bit)
    -- "Not OGIP: a mas pix ct Ry solMass solLum solRad D Sun bit Ohm." (a is with yr, Ohm with OGIP's ohm)
    ∷ bare ("mas" known not_ogip ∷ []) (ten_to (neg 3) (arcsecond ↑ pos 1 ∷ []))
    ∷ bare ("pixel" known not_cds ∷ "pix" known not_ogip ∷ []) (base 15)
    ∷ bare ("count" known not_cds ∷ "ct" known not_ogip ∷ []) (base 16)
    ∷ bare ("Ry" known not_ogip ∷ []) (base 17)
    ∷ bare ("solMass" known not_ogip ∷ []) (base 18)
    ∷ bare ("solLum" known not_ogip ∷ []) (base 19)
    ∷ bare ("solRad" known not_ogip ∷ []) (base 20)
    ∷ bare ("D" known not_ogip ∷ []) (base 21)
    ∷ bare ("Sun" known not_ogip ∷ []) (base 22)
    ∷ prefixed everywhere ("bit" known not_ogip ∷ []) (base bit)
    ∷ prefixed everywhere ("ohm" known ogip_starlink ∷ "Ohm" known not_ogip ∷ [])
    (ten_to (pos 3) (gram ↑ pos 1 ∷ metre ↑ pos 2 ∷ second ↑ neg 3 ∷ ampere ↑ neg 2 ∷ []))
    -- "Not CDS: erg G lyr count photon pixel chan bin voxel." (count is with ct, pixel with pix)
    ∷ discouraged ("erg" known not_cds ∷ []) (ten_to (neg 4) (gram ↑ pos 1 ∷ metre ↑ pos 2 ∷ second ↑ neg 2 ∷ []))
    ∷ discouraged ("G" known not_cds ∷ []) (ten_to (neg 1) (gram ↑ pos 1 ∷ second ↑ neg 2 ∷ ampere ↑ neg 1 ∷ []))
    ∷ bare ("lyr" known not_cds ∷ []) (base 23)
    ∷ bare ("photon" known not_cds ∷ "ph" known fits_vounits ∷ []) (base 24)
    ∷ bare ("chan" known not_cds ∷ []) (base 25)
    ∷ bare ("bin" known not_cds ∷ []) (base 26)
    ∷ bare ("voxel" known not_cds ∷ []) (base 27)
    -- "FITS and VOUnits: u ph R adu beam Angstrom. OGIP and VOUnits: angstrom." (ph is with photon)
    ∷ bare ("u" known fits_vounits ∷ []) (base 28)
    ∷ bare ("R" known fits_vounits ∷ []) (base 29)
    ∷ bare ("adu" known fits_vounits ∷ []) (base 30)
    ∷ bare ("beam" known fits_vounits ∷ []) (base 31)
    -- Document 02, W3: "Ang is a third name of that unit"
    ∷ discouraged ("angstrom" known ogip_vounits ∷ "Angstrom" known fits_vounits ∷ "Ang" known only_starlink ∷ []) (ten_to (neg 10) (metre ↑ pos 1 ∷ []))
    -- "CDS: %."
    ∷ bare ("%" known only_cds ∷ []) (ten_to (neg 2) [])
    ∷ []

-- a unit is identified by its row, counted from 0
abbrev pub unit_at : ℕ → KnownUnit
unit_at u = get_or units u (bare [] (ten_to (pos 0) []))

-- WHAT A SIZE HOLDS OF A BASE AND OF A PRIME

-- the exponent of base b
unfoldable pub base_power : ℕ → List BasePower → ℤ
base_power b [] = pos 0
base_power b (x ∷ xs) = pick (eqb b x.base) x.power (pos 0) +ℤ base_power b xs

-- how often p divides n, up to k times
unfoldable pub multiplicity : ℕ → ℕ → ℕ → ℕ
multiplicity zero p n = 0
multiplicity (suc k) p n = elim (eqb (n % p) 0) [ true ↦ suc (multiplicity k p (n / p)) | false ↦ 0 ]

-- the exponent of p in ten to the t, p being prime
abbrev pub in_tens : ℕ → Tens → ℤ
in_tens p t = pick (eqb (10 % p) 0) t.0 (pos 0)

-- the exponent of the prime p in a size
abbrev pub prime_power : ℕ → Size → ℤ
prime_power p z = in_tens p z.tens +ℤ pos (multiplicity 64 p z.count)
