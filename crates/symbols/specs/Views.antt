-- What the numbers and structs of the code stand for.
use Rattle.std.specs.Prelude.{ℕ, zero, suc, ◌+◌, ◌≤◌, ◌<◌, ◌≡◌, List, [], ◌∷◌, length, take, drop, Option as Answer, Some, None, IfSome}
use Rattle.std.proofs.Math.Option.{Option, none, some}
use Rattle.label.specs.Bytes.{run, past}
use Rattle.label.specs.Options.{told}
use Rattle.label.specs.Ranges.{between}
use Rattle.label.specs.Prefixes.{prefix_named}
use Rattle.label.specs.Symbols.{known, unknown, unit_named, unquoted}
use Rattle.label.specs.Symbols as spec
use Rattle.label.specs.Units.{BasePower, unit_at}
use Rattle.symbols.specs.declared.SymbolAt.{SymbolAt}
use Rattle.symbols.specs.declared.UnitAt.{UnitAt}
use Rattle.symbols.specs.declared.UnitAt.TheVariants.{Known, Unknown}
use Rattle.symbols.specs.declared.Span.{Span}
use Rattle.symbols.specs.declared.PrefixCut.{PrefixCut}
use Rattle.symbols.specs.Columns.{prefix_count, unit_count}
use Rattle.symbols.specs.Slots.{unused, slot}

-- a place in a table: 0 is none, and any other number is one more than the place
unfoldable pub place : ℕ → Option ℕ
place zero = none
place (suc i) = some i

-- the letters of the label s that a span holds
abbrev pub span_letters : List ℕ → Span → List ℕ
span_letters s l = between s l.start l.end

-- a unit of the label s after a prefix, if there is one
abbrev pub unit_with : List ℕ → Option ℕ → UnitAt → spec.Symbol
unit_with s p (Known u) = known p u
unit_with s p (Unknown l) = unknown p (span_letters s l)

-- a symbol of the label s
unfoldable pub symbol_in : List ℕ → SymbolAt → spec.Symbol
symbol_in s x = unit_with s (told x.prefix) x.unit

-- the letters are between start and end
pub record SpanWithin (start end : ℕ) (l : Span) : Type 0 where
  pub from : start ≤ l.start
  pub forward : l.start ≤ l.end
  pub upto : l.end ≤ end

-- the letters of an unknown unit are between start and end, and one more than a known unit's row fits a byte
abbrev pub BoundedUnit : ℕ → ℕ → UnitAt → Type 0
BoundedUnit start end (Known u) = u < 255
BoundedUnit start end (Unknown l) = SpanWithin start end l

-- so bounded, and a prefix is in the table
pub record BoundedSymbol (start end : ℕ) (x : SymbolAt) : Type 0 where
  pub prefix : IfSome x.prefix (λ p. p < prefix_count)
  pub unit : BoundedUnit start end x.unit

-- the letters of an unknown unit, if it is one, go up to the end
abbrev pub UpTo : ℕ → UnitAt → Type 0
UpTo end (Known u) = Unit {0}
UpTo end (Unknown l) = l.end ≡ end

-- the letters of an unknown unit, if it is one, start there
abbrev pub StartsAt : ℕ → UnitAt → Type 0
StartsAt start (Known u) = Unit {0}
StartsAt start (Unknown l) = l.start ≡ start

-- the first quote of s from start up to end is at r, or r is the end
pub record FirstQuote (s : List ℕ) (start end r : ℕ) : Type 0 where
  pub from : start ≤ r
  pub upto : r ≤ end
  pub before : between s start r ≡ run unquoted (between s start end)
  pub after : between s r end ≡ past unquoted (between s start end)

-- the letters from first up to last of an unknown unit that is spelled by the bytes of s from start up to end: they start after the first
-- quote, and without a quote they go up to the end
pub record LettersAt (s : List ℕ) (start end first last : ℕ) : Type 0 where
  pub quoted : (c : ℕ) (t : List ℕ) → past unquoted (between s start end) ≡ c ∷ t → first ≡ start + suc (length (run unquoted (between s start end)))
  pub plain : past unquoted (between s start end) ≡ [] → last ≡ end

-- so do the letters of an unknown unit, if it is one
abbrev pub LettersOf : List ℕ → ℕ → ℕ → UnitAt → Type 0
LettersOf s start end (Known u) = Unit {0}
LettersOf s start end (Unknown l) = LettersAt s start end l.start l.end

-- CUTS

-- a prefix, where letters are left after it
abbrev pub with_rest : Option ℕ → List ℕ → Option ℕ
with_rest p [] = none
with_rest p (c ∷ l) = p

-- the prefix that the first k letters of l are, where letters are left after it
unfoldable pub prefix_cut : ℕ → List ℕ → Option ℕ
prefix_cut k l = with_rest (prefix_named (take k l)) (drop k l)

-- a unit, where it comes after a prefix
abbrev pub after_prefix : Option ℕ → Option ℕ → Option ℕ
after_prefix none u = none
after_prefix (some i) u = u

-- the unit that notation n knows by the letters of l after a prefix of k letters
unfoldable pub unit_cut : ℕ → ℕ → List ℕ → Option ℕ
unit_cut n k l = after_prefix (prefix_cut k l) (unit_named n (drop k l))

-- the prefix of a cut
abbrev pub cut_prefix : Answer PrefixCut → Option ℕ
cut_prefix None = none
cut_prefix (Some c) = some c.prefix

-- the unit that notation n knows by the letters of s that a cut leaves
abbrev pub cut_unit : ℕ → List ℕ → Answer PrefixCut → Option ℕ
cut_unit n s None = none
cut_unit n s (Some c) = unit_named n (span_letters s c.rest)

-- a cut after k letters, from start up to end
pub record CutBy (k start end : ℕ) (c : PrefixCut) : Type 0 where
  pub place : c.prefix < prefix_count
  pub first : c.rest.start ≡ start + k
  pub forward : c.rest.start ≤ c.rest.end
  pub last : c.rest.end ≡ end

-- the bytes of s from start up to end, cut after their first k letters
pub record CutAt (k : ℕ) (s : List ℕ) (start end : ℕ) (r : Answer PrefixCut) : Type 0 where
  pub prefix_is : cut_prefix r ≡ prefix_cut k (between s start end)
  pub cut : IfSome r (CutBy k start end)

-- a unit is known, and o is its row
abbrev pub KnownAs : Option ℕ → UnitAt → Type 0
KnownAs o (Known u) = o ≡ some u
KnownAs o (Unknown l) = ⊥

-- x is known, with the prefix p and the unit o
pub record KnownWith (p o : Option ℕ) (x : SymbolAt) : Type 0 where
  pub prefix_is : told x.prefix ≡ p
  pub unit_is : KnownAs o x.unit
  pub bounded : (start end : ℕ) → BoundedSymbol start end x

-- the known symbol of the prefix p and the unit o, if there is a unit
abbrev pub KnownBy : Option ℕ → Option ℕ → Answer SymbolAt → Type 0
KnownBy p o None = o ≡ none
KnownBy p o (Some x) = KnownWith p o x

-- SLOTS

-- the row of a unit, or the number of units where it is unknown
abbrev pub row_of : UnitAt → ℕ
row_of (Known u) = u
row_of (Unknown l) = unit_count

-- slot k of a symbol's unit
unfoldable pub slot_in : ℕ → spec.Symbol → BasePower
slot_in k (known p u) = slot k (unit_at u)
slot_in k (unknown p l) = unused
