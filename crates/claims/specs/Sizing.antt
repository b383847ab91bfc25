-- What the listed sizes make of a label, without primes: to the 60th power, since exponents count sixtieths.
use Rattle.std.specs.Prelude.{ℕ, ◌≤◌, ◌*◌, ◌^◌, ◌≡◌, ◌↔◌, ℤ, pos, ◌+ℤ◌, ◌*ℤ◌}
use mathlib.Core.List.{List, [], ◌∷◌, Memᴰ}
use Rattle.label.specs.Prefixes.{power_of}
use Rattle.label.specs.Units.{unit_at}
use Rattle.label.specs.Symbols.{Symbol, known, unknown}
use Rattle.label.specs.Limits.{parts_of_one}
use Rattle.label.specs.Reading.{Term, Reading, total, primes}
use Rattle.label.specs.Conversion.{above, below}
use Rattle.claims.specs.Fractions.{Divides, NoCommonFactor}
use Rattle.claims.specs.Converting.{WholeIn, FactorIs}

-- a unit's size with its prefix: ten to a power, times a count. "An unknown unit adds its prefix only."
unfoldable pub tens_in : Symbol → ℤ
tens_in (known p u) = (power_of p).0 +ℤ (unit_at u).size.tens.0
tens_in (unknown p l) = (power_of p).0

unfoldable pub count_in : Symbol → ℕ
count_in (known p u) = (unit_at u).size.count
count_in (unknown p l) = 1

-- the counts to the terms' exponents, in sixtieths: those that multiply, and those that divide
unfoldable pub counts_above : List Term → ℕ
counts_above [] = 1
counts_above (t ∷ ts) = above (count_in t.symbol) t.exponent.0 * counts_above ts

unfoldable pub counts_below : List Term → ℕ
counts_below [] = 1
counts_below (t ∷ ts) = below (count_in t.symbol) t.exponent.0 * counts_below ts

-- the power of ten, in sixtieths: from k, prefixes and sizes
abbrev pub tens_of : Reading → ℤ
tens_of r = r.k.0 *ℤ pos parts_of_one +ℤ (total tens_in r.terms).0

-- the 60th power of a label's scale is top over bottom
abbrev pub top : Reading → ℕ
top r = above 10 (tens_of r) * counts_above r.terms

abbrev pub bottom : Reading → ℕ
bottom r = below 10 (tens_of r) * counts_below r.terms

-- n/d times ten to the k is the first scale over the second: their 60th powers are equal. "n/d in lowest terms and neither divisible by 5"
pub record SizesGive (r q : Reading) (n d : ℕ) (k : ℤ) : Type 0 where
  pub equal : (n * above 10 k) ^ parts_of_one * (bottom r * top q) ≡ (d * below 10 k) ^ parts_of_one * (top r * bottom q)
  pub positive : (1 ≤ n) × (1 ≤ d)
  pub lowest : NoCommonFactor n d
  pub without_five : (Divides 5 n → ⊥) × (Divides 5 d → ⊥)

-- The factor by exponents of primes is the one that the sizes give.
abbrev pub SizesGiveTheFactor : Type 0
SizesGiveTheFactor = (r q : Reading) (n d : ℕ) (k : ℤ) → SizesGive r q n d k ↔ FactorIs r q n d k

-- "The factor is a fraction exactly if these four have whole exponents in first over second."
abbrev pub FractionExactlyIf : Type 0
FractionExactlyIf =
    (r q : Reading)
    → ((p : ℕ) → Memᴰ p primes → (w : ℤ) × WholeIn p r q w)
    ↔ ((n : ℕ) × (d : ℕ) × (k : ℤ) × SizesGive r q n d k)
