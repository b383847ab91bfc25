-- Bytes: a literal's bytes, the bytes that document 01 names, classes of bytes, and runs of a class.
use Rattle.std.specs.Prelude.{ℕ, Bool, true, false, ◌&&◌, ◌||◌, List, [], ◌∷◌, leb, eqb}
use Prim.Native.Char.{code}
use Prim.Native.String.{String, [] as empty, ◌∷◌ as ◌then◌}

-- the bytes of an ASCII literal
unfoldable pub bytes : String → List ℕ
bytes empty = []
bytes (c then s) = code c ∷ bytes s

-- the named bytes
abbrev pub tab : ℕ
tab = code "\t"

abbrev pub newline : ℕ
newline = code "\n"

abbrev pub space : ℕ
space = code " "

abbrev pub percent : ℕ
percent = code "%"

abbrev pub quote : ℕ
quote = code "'"

abbrev pub open_bracket : ℕ
open_bracket = code "("

abbrev pub close_bracket : ℕ
close_bracket = code ")"

abbrev pub star : ℕ
star = code "*"

abbrev pub plus : ℕ
plus = code "+"

abbrev pub minus : ℕ
minus = code "-"

abbrev pub point : ℕ
point = code "."

abbrev pub slash : ℕ
slash = code "/"

abbrev pub caret : ℕ
caret = code "^"

abbrev pub digit_zero : ℕ
digit_zero = code "0"

abbrev pub digit_one : ℕ
digit_one = code "1"

abbrev pub digit_nine : ℕ
digit_nine = code "9"

-- from a to b, both included
abbrev pub within : ℕ → ℕ → ℕ → Bool
within a b c = leb a c && leb c b

-- an ASCII letter
unfoldable pub letter : ℕ → Bool
letter c = within (code "A") (code "Z") c || within (code "a") (code "z") c

unfoldable pub digit : ℕ → Bool
digit c = within digit_zero digit_nine c

-- a digit 1 to 9
unfoldable pub nonzero : ℕ → Bool
nonzero c = within digit_one digit_nine c

-- hexadecimal 20 to 7E
unfoldable pub admitted : ℕ → Bool
admitted c = within 0x20 0x7e c

-- every byte passes the test
unfoldable pub all : (ℕ → Bool) → List ℕ → Bool
all p [] = true
all p (c ∷ s) = p c && all p s

-- the longest beginning whose bytes all pass the test, and what follows it
abbrev pub run_on : Bool → ℕ → List ℕ → List ℕ
run_on true c l = c ∷ l
run_on false c l = []

unfoldable pub run : (ℕ → Bool) → List ℕ → List ℕ
run p [] = []
run p (c ∷ s) = run_on (p c) c (run p s)

abbrev pub past_on : Bool → List ℕ → List ℕ → List ℕ
past_on true t s = t
past_on false t s = s

unfoldable pub past : (ℕ → Bool) → List ℕ → List ℕ
past p [] = []
past p (c ∷ s) = past_on (p c) (past p s) (c ∷ s)

-- the same bytes in the same order
unfoldable pub same : List ℕ → List ℕ → Bool
same [] [] = true
same [] (d ∷ t) = false
same (c ∷ s) [] = false
same (c ∷ s) (d ∷ t) = eqb c d && same s t
