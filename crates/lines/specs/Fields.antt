-- The fields of a line, one after the other.
use Rattle.std.specs.Prelude.{ℕ, ◌+◌, ◌≤◌, ◌≡◌, List, ◌∷◌, length}
use Rattle.label.specs.Writing.{rewriting}
use Rattle.label.specs.Lines.{fields, notation_named, answer_with, answer}
use Rattle.lines.specs.Writing.{most_id}

-- the first field of s is f, and its tab comes before r
pub record Parted (s f r : List ℕ) : Type 0 where
  pub fields_are : fields s ≡ f ∷ fields r
  pub size_is : length s ≡ length f + 1 + length r

-- a line with these fields is answered by them
pub record FourFields (s id source text target : List ℕ) : Type 0 where
  pub answer_is : answer s ≡ answer_with id (rewriting (notation_named source) text (notation_named target))
  pub short : length id ≤ most_id
