-- Lines: what the line program answers to a line and to its whole input.
use Rattle.std.specs.Prelude.{ℕ, ◌+◌, ◌/◌, ◌%◌, Bool, true, false, ◌&&◌, List, [], ◌∷◌, ◌++◌, leb, ltb, eqb, length, get_or}
use Rattle.label.specs.Bytes.{tab, newline, digit_zero, same}
use Rattle.label.specs.Choice.{pick}
use Rattle.label.specs.Rows.{Row, named}
use Rattle.label.specs.Writing.{Rewriting, rewriting}

-- PARTS

-- The parts of p and s between the bytes b of s. The first part begins with p, and `end` says what the last bytes are.
unfoldable pub parts : ℕ → (List ℕ → List (List ℕ)) → List ℕ → List ℕ → List (List ℕ)
parts b end p [] = end p
parts b end p (c ∷ s) = elim (eqb c b) [ true ↦ p ∷ parts b end [] s | false ↦ parts b end (p ++ c ∷ []) s ]

-- "Input, fields parted by tabs": the bytes after the last tab are a field too
abbrev pub last_field : List ℕ → List (List ℕ)
last_field p = p ∷ []

abbrev pub fields : List ℕ → List (List ℕ)
fields s = parts tab last_field [] s

-- "A last line needs no newline": the bytes after the last newline are a line, unless there are none
abbrev pub last_line : List ℕ → List (List ℕ)
last_line [] = []
last_line (c ∷ s) = (c ∷ s) ∷ []

-- A LINE'S ANSWER

-- "over 512 bytes without the newline"
abbrev pub most_line : ℕ
most_line = 512

-- a number that no notation has
abbrev pub no_notation : ℕ
no_notation = 0

-- the number of the row with that name; "Another notation name: 1."
unfoldable pub number_named : List ℕ → List (Row (List ℕ)) → ℕ
number_named s [] = no_notation
number_named s (x ∷ xs) = elim (same s x.value) [ true ↦ x.number | false ↦ number_named s xs ]

-- "notation (fits, ogip, cds, vou)"
unfoldable pub notation_named : List ℕ → ℕ
notation_named s = number_named s named

-- a number below 100 in decimal
unfoldable pub decimal : ℕ → List ℕ
decimal n = pick (ltb n 10) ((digit_zero + n) ∷ []) ((digit_zero + n / 10) ∷ (digit_zero + n % 10) ∷ [])

-- "Output: id, number, result (empty if refused)."
unfoldable pub answer_with : List ℕ → Rewriting → List ℕ
answer_with id r = id ++ (tab ∷ decimal r.number ++ tab ∷ r.text)

-- "id empty, 15"
unfoldable pub malformed : List ℕ
malformed = answer_with [] (record { number = 15; text = [] })

-- "Not three tabs, or over 512 bytes without the newline": three tabs part four fields
unfoldable pub well_formed : List ℕ → Bool
well_formed s = leb (length s) most_line && eqb (length (fields s)) 4

-- the answer to four fields: "id, notation (fits, ogip, cds, vou), text, target"
abbrev pub answer_fields : List (List ℕ) → List ℕ
answer_fields fs = answer_with (get_or fs 0 []) (rewriting (notation_named (get_or fs 1 [])) (get_or fs 2 []) (notation_named (get_or fs 3 [])))

-- 15 is "checked before all others"
unfoldable pub answer : List ℕ → List ℕ
answer s = pick (well_formed s) (answer_fields (fields s)) malformed

-- THE OUTPUT

-- "every output line has one" (a newline)
unfoldable pub answers : List (List ℕ) → List ℕ
answers [] = []
answers (l ∷ ls) = answer l ++ newline ∷ answers ls

-- the output where the bytes p of an unfinished line come before the input s
unfoldable pub output_after : List ℕ → List ℕ → List ℕ
output_after p s = answers (parts newline last_line p s)

-- the output for the input s
unfoldable pub output : List ℕ → List ℕ
output s = output_after [] s
