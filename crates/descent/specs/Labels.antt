-- What the functions over the whole label find.
use Rattle.std.specs.Prelude.{ℕ, ◌≤◌, ◌≡◌, false, List, length, drop, Option, Some, None, IsSome, IfSome, MatchOption}
use Rattle.label.specs.declared.Rules.{Rules}
use Rattle.label.specs.declared.WrittenFactor.{WrittenFactor}
use Rattle.label.specs.Lexical.{Part, quotient}
use Rattle.label.specs.Parse.{Found, none, found, factor, Parsed, refused, parsed, ended, one_space, gap, factored, fuel, read, parse_by}
use Rattle.label.specs.Ranges.{factor_in, FactorInside}
use Rattle.descent.specs.declared.terms.Terms.{Terms}
use Rattle.descent.specs.Terms.{HoldsUnits}

pub record OneSpace (s : List ℕ) (at o : ℕ) : Type 0 where
  pub rest : drop o s ≡ one_space (drop at s)
  pub from : at ≤ o
  pub within : o ≤ length s

pub record Gaps (r : Rules) (s : List ℕ) (at o : ℕ) : Type 0 where
  pub rest : drop o s ≡ gap r (drop at s)
  pub from : at ≤ o
  pub within : o ≤ length s

-- what was read up to the place e, which is after it, or nothing
abbrev pub found_to : List ℕ → List Part → Option ℕ → Found (List Part)
found_to s ps (Some e) = found ps (drop e s)
found_to s ps None = none

-- a label, or none
abbrev pub parsed_by : List ℕ → Option WrittenFactor → List Part → Parsed
parsed_by s (Some f) ps = parsed (factor_in s f) ps
parsed_by s None ps = refused

-- what was read, up to the place p, ends the label
pub record EndsLabel (s : List ℕ) (f : WrittenFactor) (p : Option ℕ) (o : Option WrittenFactor) : Type 0 where
  pub is : (ps : List Part) → ended (factor_in s f) (found_to s ps p) ≡ parsed_by s o ps
  pub good : IsSome o → IsSome p
  pub inside : FactorInside s f → IfSome o (FactorInside s)

-- x is a label with the factor f, and the terms t represent its units
pub record TellsLabel (x : Parsed) (s : List ℕ) (t : Terms) (f : WrittenFactor) : Type 0 where
  pub parts : List Part
  pub is : x ≡ parsed (factor_in s f) parts
  pub holds : HoldsUnits s t parts
  pub inside : FactorInside s f

-- x is the label that o says, or none
abbrev pub Tells : Parsed → List ℕ → Terms → Option WrittenFactor → Type 0
Tells x s t o = MatchOption o (x ≡ refused) (TellsLabel x s t)

pub record ReadsFactored (r : Rules) (s : List ℕ) (t : Terms) (o : Option WrittenFactor) : Type 0 where
  pub tells : Tells (factored (λ u. read r (fuel s) quotient false u) r (factor r s)) s t o

pub record ReadsLabel (r : Rules) (s : List ℕ) (t : Terms) (o : Option WrittenFactor) : Type 0 where
  pub tells : Tells (parse_by r s) s t o
