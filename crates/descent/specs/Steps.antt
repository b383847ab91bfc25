-- What the functions of the descent read, in terms of the text from a place on, whatever the fuel from a bound on.
use Rattle.std.specs.Prelude.{ℕ, ◌≤◌, ◌<◌, ◌-◌, ◌+◌, ◌*◌, ◌≡◌, Bool, true, false, List, ◌++◌, length, drop, Option, MatchOption}
use Rattle.label.specs.declared.Rules.{Rules}
use Rattle.label.specs.Lexical.{Part, Kind, item, more, product, quotient}
use Rattle.label.specs.Parse.{Found, none, found, closed, unit, chained, inside, read}
use Rattle.label.proofs.Complete.{rank}
use Rattle.descent.specs.declared.terms.Terms.{Terms}
use Rattle.descent.specs.Terms.{count, HoldsUnits}

-- a place of the label, with no more terms than bytes before it
pub record Ready (s : List ℕ) (at : ℕ) (t : Terms) : Type 0 where
  pub within : at ≤ length s
  pub few : count t ≤ at

-- f reads from `at` up to e, with any fuel above `need`, and at least `least` bytes; then the terms u are the terms t and those read
pub record ReadsTo (f : ℕ → List ℕ → Found (List Part)) (need least : ℕ) (s : List ℕ) (at : ℕ) (t u : Terms) (e : ℕ) : Type 0 where
  pub parts : List Part
  pub finds : (k : ℕ) → need < k → f k (drop at s) ≡ found parts (drop e s)
  pub ahead : at + least ≤ e
  pub ready : Ready s e u
  pub keeps : (ps : List Part) → HoldsUnits s t ps → HoldsUnits s u (ps ++ parts)

-- f reads from `at` on what o says, with any fuel above `need`: nothing, or up to a place
pub record ReadsParts (f : ℕ → List ℕ → Found (List Part)) (need least : ℕ) (s : List ℕ) (at : ℕ) (t u : Terms) (o : Option ℕ) : Type 0 where
  pub is : MatchOption o ((k : ℕ) → need < k → f k (drop at s) ≡ none) (ReadsTo f need least s at t u)

-- how many bytes at least are read
abbrev pub least : Kind → ℕ
least item = 1
least more = 0
least product = 1
least quotient = 1

abbrev pub fuel_at : List ℕ → ℕ → ℕ
fuel_at s at = 3 * (length s - at)

-- a product, or one that may be over one item
abbrev pub kind : Bool → Kind
kind true = quotient
kind false = product

-- a kind of text under the sign b
pub record Stepped (x : Kind) (r : Rules) (b : Bool) (s : List ℕ) (at : ℕ) (t u : Terms) (o : Option ℕ) : Type 0 where
  pub reads : ReadsParts (λ k v. read r k x b v) (fuel_at s at + rank x) (least x) s at t u o

-- an item under the sign d, then what follows it under the sign b
pub record Chained (r : Rules) (d b : Bool) (s : List ℕ) (at : ℕ) (t u : Terms) (o : Option ℕ) : Type 0 where
  pub reads : ReadsParts (λ k v. chained (read r k item d v) (λ w. read r k more b w)) (fuel_at s at) 1 s at t u o

-- what is in a group, and the bracket that closes it
pub record Grouped (r : Rules) (b : Bool) (s : List ℕ) (at : ℕ) (t u : Terms) (o : Option ℕ) : Type 0 where
  pub reads : ReadsParts (λ k v. closed (λ ps. ps) (read r k (inside r) b v)) (fuel_at s at + 2) 1 s at t u o

-- a spelling and its power
pub record ReadsUnit (r : Rules) (b : Bool) (s : List ℕ) (at : ℕ) (t u : Terms) (o : Option ℕ) : Type 0 where
  pub reads : ReadsParts (λ k v. unit r b v) 0 1 s at t u o
