-- The lent terms, and the units of a label that they represent.
use Rattle.std.specs.Prelude.{ℕ, ◌≤◌, ◌<◌, ◌-◌, ◌+◌, ◌≡◌, List, [], ◌∷◌, ◌++◌, map, pos, length, get_or, take, Result, Ok, Err}
use Rattle.std.proofs.Math.Option.{Option, none as nothing, some}
use Rattle.label.specs.declared.Exponent.{Exponent}
use Rattle.label.specs.Lexical.{Part}
use Rattle.label.specs.Limits.{most_terms}
use Rattle.label.specs.Split.{Placed, valued_units}
use Rattle.label.specs.Ranges.{between}
use Rattle.descent.specs.declared.terms.Term.{Term}
use Rattle.descent.specs.declared.terms.Terms.{Terms}

-- THE TERMS

abbrev pub count : Terms → ℕ
count t = t.count

abbrev pub broken : Terms → ℕ
broken t = t.broken

-- no term yet
pub record NoTerms (t : Terms) : Type 0 where
  pub counts : count t ≡ 0
  pub unbroken : broken t ≡ 0

abbrev pub term : ℕ → ℕ → Exponent → Term
term a z x = record { start = a; end = z; exponent = x }

-- a term by its number
abbrev pub term_at : Terms → ℕ → Term
term_at t i = get_or t.items i (term 0 0 (record { 0 = pos 0 }))

-- the first n terms
abbrev pub terms : Terms → ℕ → List Term
terms t n = take n t.items

-- ONE TERM MORE

-- the mark m, or 1 where the exponent of this term breaks its bound
abbrev pub mark : Result Exponent Exponent → ℕ → ℕ
mark (Ok x) m = m
mark (Err x) m = 1

-- the exponent that is kept, whether it breaks its bound or not
abbrev pub kept_exponent : Result Exponent Exponent → Exponent
kept_exponent (Ok x) = x
kept_exponent (Err x) = x

-- the term from a up to z, with an exponent that breaks its bound where it is an error, is one more
pub record KeepsTerm (t : Terms) (a z : ℕ) (o : Result Exponent Exponent) (u : Terms) : Type 0 where
  pub counted : count u ≡ count t + 1
  pub marks : broken u ≡ mark o (broken t)
  pub adds : count t < most_terms → terms u (count t + 1) ≡ terms t (count t) ++ (term a z (kept_exponent o) ∷ [])

-- THE UNITS THAT THEY REPRESENT

-- a term as a unit of the label s
abbrev pub placed_in : List ℕ → Term → Placed
placed_in s x = record { spelling = between s x.start x.end; exponent = x.exponent; left = length s - x.start }

-- 1 where there is no value
abbrev pub missing : {A : Type 0} → Option A → ℕ
missing nothing = 1
missing (some a) = 0

-- a term's spelling is in the label s
pub record InLabel (s : List ℕ) (x : Term) : Type 0 where
  pub forward : x.start ≤ x.end
  pub within : x.end ≤ length s

pub data AllIn (s : List ℕ) : List Term → Type 0 where
  none : AllIn s []
  more : {x : Term} {xs : List Term} → InLabel s x → AllIn s xs → AllIn s (x ∷ xs)

-- the terms represent these units: all are counted, a mark says whether a power breaks its bound, and the first 32 are kept with their values
pub record HoldsUnits (s : List ℕ) (t : Terms) (ps : List Part) : Type 0 where
  pub counted : count t ≡ length ps
  pub marks : broken t ≡ missing (valued_units ps)
  pub kept : length ps ≤ most_terms → broken t ≡ 0 → valued_units ps ≡ some (map (placed_in s) (terms t (length ps)))
  pub inside : length ps ≤ most_terms → AllIn s (terms t (length ps))
