-- Symbols: which prefix and unit a spelling stands for in a notation.
use Rattle.std.specs.Prelude.{ℕ, suc, Bool, true, false, ◌&&◌, ◌||◌, not, List, [], ◌∷◌, ◌++◌, leb, eqb, length}
use Rattle.std.proofs.Math.Option.{Option, none, some}
use Rattle.label.specs.Bytes.{quote, run, past, same}
use Rattle.label.specs.Choice.{pick}
use Rattle.label.specs.Notations.{member}
use Rattle.label.specs.Prefixes.{Prefix, prefixes, prefix_named}
use Rattle.label.specs.Units.{Name, KnownUnit, units}

-- what a spelling stands for: perhaps a prefix, by its place in the table, and a known unit, by its row, or unknown letters
pub data Symbol : Type 0 where
  known : Option ℕ → ℕ → Symbol
  unknown : Option ℕ → List ℕ → Symbol

-- KNOWN SPELLINGS

unfoldable pub has_name : ℕ → List ℕ → List Name → Bool
has_name n l [] = false
has_name n l (x ∷ xs) = (same l x.letters && member n x.known_in) || has_name n l xs

-- the first row from i on that notation n knows by the name l
unfoldable pub row_named : ℕ → List ℕ → ℕ → List KnownUnit → Option ℕ
row_named n l i [] = none
row_named n l i (u ∷ us) = elim (has_name n l u.names) [ true ↦ some i | false ↦ row_named n l (suc i) us ]

unfoldable pub unit_named : ℕ → List ℕ → Option ℕ
unit_named n l = row_named n l 0 units

-- CUTS: a prefix, and the letters after it

pub record Cut : Type 0 where
  pub prefix : ℕ
  pub rest : List ℕ

-- what follows the beginning p of l
unfoldable pub follows : List ℕ → List ℕ → Option (List ℕ)
follows [] l = some l
follows (c ∷ p) [] = none
follows (c ∷ p) (d ∷ l) = pick (eqb c d) (follows p l) none

-- a cut leaves at least one letter
unfoldable pub cut_by : ℕ → Option (List ℕ) → List Cut
cut_by i none = []
cut_by i (some []) = []
cut_by i (some (c ∷ l)) = record { prefix = i; rest = c ∷ l } ∷ []

unfoldable pub cuts_from : ℕ → List Prefix → List ℕ → List Cut
cuts_from i [] l = []
cuts_from i (p ∷ ps) l = cut_by i (follows p.name l) ++ cuts_from (suc i) ps l

-- every prefix that begins l and leaves a rest
unfoldable pub cuts : List ℕ → List Cut
cuts l = cuts_from 0 prefixes l

-- THE RULE OF THE FIRST FIT

-- a cut whose rest is a known unit
pub record KnownCut : Type 0 where
  pub cut : Cut
  pub unit : ℕ

unfoldable pub known_by : Cut → Option ℕ → List KnownCut
known_by x none = []
known_by x (some u) = record { cut = x; unit = u } ∷ []

unfoldable pub known_among : ℕ → List Cut → List KnownCut
known_among n [] = []
known_among n (x ∷ xs) = known_by x (unit_named n x.rest) ++ known_among n xs

unfoldable pub known_cuts : ℕ → List ℕ → List KnownCut
known_cuts n l = known_among n (cuts l)

-- the cut with the longest prefix, which is the one with the shortest rest
unfoldable pub longer : Cut → Option Cut → Option Cut
longer x none = some x
longer x (some y) = pick (leb (length x.rest) (length y.rest)) (some x) (some y)

unfoldable pub longest : List Cut → Option Cut
longest [] = none
longest (x ∷ xs) = longer x (longest xs)

-- "the longest prefix and a non-empty rest, unknown; unknown whole"
unfoldable pub by_longest : List ℕ → Option Cut → Symbol
by_longest l (some x) = unknown (some x.prefix) x.rest
by_longest l none = unknown none l

-- "a prefix and a known rest". At most one cut has a known rest (proofs/Cuts.antt).
unfoldable pub by_cut : List ℕ → List KnownCut → Symbol
by_cut l (x ∷ xs) = known (some x.cut.prefix) x.unit
by_cut l [] = by_longest l (longest (cuts l))

-- "A spelling is read by the first that fits: the whole is known"
unfoldable pub by_whole : ℕ → List ℕ → Option ℕ → Symbol
by_whole n l (some u) = known none u
by_whole n l none = by_cut l (known_cuts n l)

-- no quote
abbrev pub unquoted : ℕ → Bool
unquoted c = not (eqb c quote)

-- "A quoted spelling is always unknown." p is what comes before the first quote, s what comes from there on.
unfoldable pub by_quote : ℕ → List ℕ → List ℕ → List ℕ → Symbol
by_quote n l p [] = by_whole n l (unit_named n l)
by_quote n l p (c ∷ s) = unknown (prefix_named p) (run unquoted s)

-- the prefix and unit of a spelling in notation n
unfoldable pub symbol : ℕ → List ℕ → Symbol
symbol n l = by_quote n l (run unquoted l) (past unquoted l)
