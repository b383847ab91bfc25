-- What a scan for a spelling finds, in terms of the text from a place on.
use Rattle.std.specs.Prelude.{ℕ, ◌≤◌, ◌<◌, ◌+◌, ◌≡◌, Option, Some, None, List, length, drop, get_or}
use Rattle.label.specs.declared.Rules.{Rules}
use Rattle.label.specs.Bytes.{quote}
use Rattle.label.specs.Parse.{Found, none, found, quoted, lettered, spelling}
use Rattle.label.specs.Ranges.{between}

-- a quote is at q, and a spelling that it is in starts at a
pub record QuoteAt (s : List ℕ) (a q : ℕ) : Type 0 where
  pub forward : a ≤ q
  pub within : q < length s
  pub is : get_or s q 0 ≡ quote

-- the bytes from a up to e are found, and the text from there on follows
pub record Spelled (x : Found (List ℕ)) (s : List ℕ) (a e : ℕ) : Type 0 where
  pub is : x ≡ found (between s a e) (drop e s)
  pub ahead : a < e
  pub within : e ≤ length s

-- x is what o tells: a spelling that ends there, or nothing
abbrev pub Told : Found (List ℕ) → List ℕ → ℕ → Option ℕ → Type 0
Told x s a (Some e) = Spelled x s a e
Told x s a None = x ≡ none

-- letters and a closing quote, after the quote at q; the spelling starts at a
abbrev pub ReadsQuoted : List ℕ → ℕ → ℕ → Option ℕ → Type 0
ReadsQuoted s a q o = Told (quoted (between s a q) (drop (q + 1) s)) s a o

-- the letters from a up to e, or a quoted spelling that they begin
abbrev pub ReadsLettered : Rules → List ℕ → ℕ → ℕ → Option ℕ → Type 0
ReadsLettered r s a e o = Told (lettered r (between s a e) (drop e s)) s a o

-- the spelling that starts at a
abbrev pub ReadsSpelling : Rules → List ℕ → ℕ → Option ℕ → Type 0
ReadsSpelling r s a o = Told (spelling r (drop a s)) s a o
