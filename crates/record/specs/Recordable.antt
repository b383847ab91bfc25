-- What the content of a reading is whose record is written.
use Rattle.std.specs.Prelude.{ℕ, ◌≤◌, ◌<◌, List}
use Rattle.label.specs.Limits.{most_bytes, most_terms}
use Rattle.descent.specs.Terms.{count, term_at}
use Rattle.content.specs.Views.{letters_at, letters_end}
use Rattle.reading.specs.declared.read.Content.{Content}
use Rattle.reading.specs.Answers.{LettersNoted}

-- the spelling of term i ends after its start, in a label of at most 255 bytes, and so do its letters
pub record Sized (c : Content) (i : ℕ) : Type 0 where
  pub forward : (term_at c.terms i).start ≤ (term_at c.terms i).end
  pub short : (term_at c.terms i).end ≤ most_bytes
  pub letters : letters_at c.symbols i ≤ letters_end c.symbols i
  pub upto : letters_end c.symbols i ≤ most_bytes

-- the letters of the first n terms are noted where the label s has them
pub record AllNoted (s : List ℕ) (c : Content) (n : ℕ) : Type 0 where
  pub noted : (i : ℕ) → i < n → LettersNoted s c.terms c.symbols i

pub record Recordable (c : Content) : Type 0 where
  pub few : count c.terms ≤ most_terms
  pub sized : (i : ℕ) → i < count c.terms → Sized c i
