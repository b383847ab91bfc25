-- Powers and factors by the places of their digits in a label, as the code holds them.
use Rattle.std.specs.Prelude.{ℕ, ◌-◌, ◌≤◌, List, length, take, drop}
use Rattle.label.specs.declared.DigitRange.{DigitRange}
use Rattle.label.specs.declared.SignedDigits.{SignedDigits}
use Rattle.label.specs.declared.WrittenPower.{WrittenPower}
use Rattle.label.specs.declared.WrittenPower.TheVariants.{Unwritten, Whole, Decimal, Fraction}
use Rattle.label.specs.declared.WrittenFactor.{WrittenFactor}
use Rattle.label.specs.declared.WrittenFactor.TheVariants.{Absent, TenTo, Zeros}
use Rattle.label.specs.Lexical.{Numeral, Written, unwritten, whole, decimal, fraction, Factor, no_factor, ten_to, zeros}

-- the bytes of s from a up to e
abbrev pub between : List ℕ → ℕ → ℕ → List ℕ
between s a e = take (e - a) (drop a s)

abbrev pub digits_in : List ℕ → DigitRange → List ℕ
digits_in s d = between s d.start d.end

abbrev pub numeral_in : List ℕ → SignedDigits → Numeral
numeral_in s n = record { negative = n.negative; digits = digits_in s n.digits }

abbrev pub written_in : List ℕ → WrittenPower → Written
written_in s Unwritten = unwritten
written_in s (Whole n) = whole (numeral_in s n)
written_in s (Decimal n d) = decimal (numeral_in s n) (digits_in s d)
written_in s (Fraction n d) = fraction (numeral_in s n) (digits_in s d)

abbrev pub factor_in : List ℕ → WrittenFactor → Factor
factor_in s Absent = no_factor
factor_in s (TenTo n) = ten_to (numeral_in s n)
factor_in s (Zeros k) = zeros k

-- the digits lie in s
pub record Inside (s : List ℕ) (d : DigitRange) : Type 0 where
  pub forward : d.start ≤ d.end
  pub within : d.end ≤ length s

abbrev pub PowerInside : List ℕ → WrittenPower → Type 0
PowerInside s Unwritten = Unit {0}
PowerInside s (Whole n) = Inside s n.digits
PowerInside s (Decimal n d) = Inside s n.digits × Inside s d
PowerInside s (Fraction n d) = Inside s n.digits × Inside s d

abbrev pub FactorInside : List ℕ → WrittenFactor → Type 0
FactorInside s Absent = Unit {0}
FactorInside s (TenTo n) = Inside s n.digits
FactorInside s (Zeros k) = Unit {0}
