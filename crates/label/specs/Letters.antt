-- Where the letters of an unknown unit are in a label.
use Rattle.std.specs.Prelude.{ℕ, ◌+◌, List, [], ltb, pos, length, get_or}
use Rattle.std.proofs.Math.Option.{Option, none, some}
use Rattle.label.specs.Choice.{pick}
use Rattle.label.specs.Prefixes.{prefix, prefixes}
use Rattle.label.specs.Symbols.{Symbol, known, unknown}
use Rattle.label.specs.Reading.{Term}

-- the name of a prefix, by its place in the table; no bytes without a prefix
abbrev pub prefix_letters : Option ℕ → List ℕ
prefix_letters none = []
prefix_letters (some i) = (get_or prefixes i (prefix "" (pos 0))).name

-- A spelling is a prefix name or nothing, perhaps a quote, the letters, and a quote if there was one. So it has quotes exactly if it has
-- more bytes than the name and the letters. How many bytes come before the letters l, in a spelling of so many bytes with prefix p:
unfoldable pub before_letters : Option ℕ → List ℕ → ℕ → ℕ
before_letters p l size = length (prefix_letters p) + pick (ltb (length (prefix_letters p) + length l) size) 1 0

unfoldable pub letters_from : Symbol → ℕ → ℕ → ℕ
letters_from (known p u) start size = 0
letters_from (unknown p l) start size = start + before_letters p l size

-- how many of the label's bytes come before the letters of a term's unknown unit; 0 for a known unit
abbrev pub letters_start : Term → ℕ
letters_start t = letters_from t.symbol t.start t.size

-- the letters of an unknown unit; a known one has none
unfoldable pub letters_of : Symbol → List ℕ
letters_of (known p u) = []
letters_of (unknown p l) = l

abbrev pub letters_size : Term → ℕ
letters_size t = length (letters_of t.symbol)
