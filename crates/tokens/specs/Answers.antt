-- What the functions over words answer: x is what is read from `at` on, and the option says what it is and where it ends, or that there is none.
use Rattle.std.specs.Prelude.{ℕ, ◌≤◌, ◌+◌, ◌≡◌, Option, Some, None, Bool, false, List, [], ◌∷◌, eqb, length, drop, get_or}
use Rattle.std.specs.Bool.{then_some}
use Rattle.std.specs.Option.{option_map}
use Rattle.label.specs.Bytes.{close_bracket}
use Rattle.label.specs.Choice.{pick}
use Rattle.label.specs.Lexical.{Numeral, Written, Factor}
use Rattle.label.specs.Parse.{Found, none, found, sign}
use Rattle.label.specs.Ranges.{digits_in, numeral_in, written_in, factor_in, Inside, PowerInside, FactorInside}
use Rattle.label.specs.declared.DigitRange.{DigitRange}
use Rattle.label.specs.declared.SignedDigits.{SignedDigits}
use Rattle.label.specs.declared.WrittenPower.{WrittenPower}
use Rattle.label.specs.declared.WrittenFactor.{WrittenFactor}
use Rattle.tokens.specs.declared.At.{At}

-- NUMBERS

abbrev pub digits_found : List ℕ → DigitRange → Found (List ℕ)
digits_found s d = found (digits_in s d) (drop d.end s)

pub record FoundDigits (x : Found (List ℕ)) (s : List ℕ) (at : ℕ) (d : DigitRange) : Type 0 where
  pub is : x ≡ digits_found s d
  pub ahead : at ≤ d.start
  pub inside : Inside s d

abbrev pub ReadsDigits : Found (List ℕ) → List ℕ → ℕ → Option DigitRange → Type 0
ReadsDigits x s at (Some d) = FoundDigits x s at d
ReadsDigits x s at None = x ≡ none

-- the place after a sign, or `at` where there is none
abbrev pub sign_end : List ℕ → ℕ → ℕ
sign_end s at = pick (sign (get_or s at 0)) (at + 1) at

-- digits under a sign
abbrev pub Signs : Bool → Option DigitRange → Option SignedDigits → Type 0
Signs b d o = o ≡ option_map (λ (r : DigitRange). record { negative = b; digits = r }) d

abbrev pub integer_found : List ℕ → SignedDigits → Found Numeral
integer_found s n = found (numeral_in s n) (drop n.digits.end s)

pub record FoundInteger (x : Found Numeral) (s : List ℕ) (at : ℕ) (n : SignedDigits) : Type 0 where
  pub is : x ≡ integer_found s n
  pub ahead : at ≤ n.digits.start
  pub inside : Inside s n.digits

abbrev pub ReadsInteger : Found Numeral → List ℕ → ℕ → Option SignedDigits → Type 0
ReadsInteger x s at (Some n) = FoundInteger x s at n
ReadsInteger x s at None = x ≡ none

-- the text begins with the byte c
unfoldable pub begins : ℕ → List ℕ → Bool
begins c [] = false
begins c (d ∷ s) = eqb d c

-- POWERS AND FACTORS

-- The ranges W that a reader found stand for a value of A in the text, by `means`, and are inside the text, by `fits`.
pub record FoundAt {W A : Type 0} (means : List ℕ → W → A) (fits : List ℕ → W → Type 0) (x : Found A) (s : List ℕ) (at : ℕ) (o : At W) : Type 0 where
  pub is : x ≡ found (means s o.value) (drop o.next s)
  pub ahead : at ≤ o.next
  pub within : o.next ≤ length s
  pub inside : fits s o.value

abbrev pub ReadsBy : {W A : Type 0} → (List ℕ → W → A) → (List ℕ → W → Type 0) → Found A → List ℕ → ℕ → Option (At W) → Type 0
ReadsBy means fits x s at (Some o) = FoundAt means fits x s at o
ReadsBy means fits x s at None = x ≡ none

-- what `answers` gives for a value is g of it
abbrev pub Makes : {A B : Type 0} → (A → B → Type 0) → (A → B) → Type 0
Makes {A} {B} answers g = (x : A) (y : B) → answers x y → y ≡ g x

-- an integer, read as g of it
abbrev pub As : {W : Type 0} → (SignedDigits → W) → Option SignedDigits → Option (At W) → Type 0
As g i o = o ≡ option_map (λ (n : SignedDigits). record { value = g n; next = n.digits.end }) i

-- a value that the closing bracket at `at` ends
abbrev pub ClosedAt : {W : Type 0} → List ℕ → ℕ → W → Option (At W) → Type 0
ClosedAt s at w o = o ≡ then_some (begins close_bracket (drop at s)) (record { value = w; next = at + 1 })

abbrev pub ReadsPower : Found Written → List ℕ → ℕ → Option (At WrittenPower) → Type 0
ReadsPower = ReadsBy written_in PowerInside

abbrev pub ReadsFactor : Found Factor → List ℕ → ℕ → Option (At WrittenFactor) → Type 0
ReadsFactor = ReadsBy factor_in FactorInside
