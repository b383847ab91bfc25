-- The number of each refusal: "Refusal numbers", 1 to 15, and 16 of labels in parts.
use Rattle.std.specs.Prelude.{ℕ, Result, Ok, Err}
use Rattle.label.specs.declared.Refusal.{Refusal}
use Rattle.label.specs.declared.Refusal.TheVariants.{NoNotation, TooLong, StrangeByte, NoLabel, OutOfBounds, TooDeep, TooManyTerms, UnknownUnit, OtherDimensions, NoFraction, LargeFraction, NoForm, LongResult, ShortBuffer, BadLine, AfterTheEnd}

abbrev pub number_of : Refusal → ℕ
number_of NoNotation = 1
number_of TooLong = 2
number_of StrangeByte = 3
number_of NoLabel = 4
number_of OutOfBounds = 5
number_of TooDeep = 6
number_of TooManyTerms = 7
number_of UnknownUnit = 8
number_of OtherDimensions = 9
number_of NoFraction = 10
number_of LargeFraction = 11
number_of NoForm = 12
number_of LongResult = 13
number_of ShortBuffer = 14
number_of BadLine = 15
number_of AfterTheEnd = 16

-- the number that an answer gives a caller: 0 where nothing is refused
abbrev pub number_in : {A : Type 0} → Result A Refusal → ℕ
number_in (Ok _) = 0
number_in (Err e) = number_of e
