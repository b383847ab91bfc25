-- Texts that are put over the start of a buffer.
use Rattle.std.specs.Prelude.{ℕ, ◌+◌, ◌-◌, ◌≤◌, ◌≡◌, List, [], ◌∷◌, ◌++◌, ltb, length, drop}
use Rattle.label.specs.Bytes.{tab}
use Rattle.label.specs.Choice.{pick}
use Rattle.label.specs.Limits.{most_bytes}
use Rattle.label.specs.Lines.{decimal, most_line, answer}

-- the text t is put over the start of the buffer b, which is c then, and has `size` bytes
pub record Puts (t b c : List ℕ) (size : ℕ) : Type 0 where
  pub size_is : size ≡ length t
  pub bytes_are : c ≡ t ++ drop (length t) b

-- a number between tabs
unfoldable pub number_text : ℕ → List ℕ
number_text n = tab ∷ decimal n ++ tab ∷ []

-- an id has at most so many bytes: three of a line are tabs
abbrev pub most_id : ℕ
most_id = most_line - 3

-- an answer has at most an id, two tabs, a 0 and a result
abbrev pub most_answer : ℕ
most_answer = most_id + 3 + most_bytes

-- the answer to a line, or nothing where the buffer is too short for some answer
pub record AnswersLine (s b c : List ℕ) (size : ℕ) : Type 0 where
  pub puts : Puts (pick (ltb (length b) most_answer) [] (answer s)) b c size
  pub short : size ≤ most_answer
