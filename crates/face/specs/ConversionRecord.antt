-- The record of a conversion: the bytes that a C program gets into the buffer it lends.
use Rattle.std.specs.Prelude.{ℕ, ◌*◌, List, [], ◌∷◌, eqb, ℤ, pos}
use Rattle.label.specs.Choice.{pick}
use Rattle.label.specs.Conversion.{Conversion}
use Rattle.record.specs.Record.{field_size, encoded, written_over}

-- number, numerator, denominator and k, each in eight bytes
abbrev pub conversion_fields : Conversion → List ℤ
conversion_fields x = pos x.number ∷ pos x.numerator ∷ pos x.denominator ∷ x.k.0 ∷ []

abbrev pub conversion_size : ℕ
conversion_size = 4 * field_size

unfoldable pub conversion_record : Conversion → List ℕ
conversion_record x = encoded (conversion_fields x)

-- an accepted conversion writes its record over the buffer, as far as it fits; a refusal changes no byte
unfoldable pub conversion_after : Conversion → List ℕ → List ℕ
conversion_after x b = pick (eqb x.number 0) (written_over (conversion_record x) b) b
