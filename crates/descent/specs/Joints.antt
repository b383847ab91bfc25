-- What is between units, in terms of the text from a place on.
use Rattle.std.specs.Prelude.{ℕ, ◌≤◌, ◌<◌, ◌≡◌, Bool, true, false, ◌&&◌, ◌||◌, not, List, [], ◌∷◌, eqb, length, drop, Option, MatchOption}
use Rattle.std.proofs.Math.Option.{none, some}
use Rattle.label.specs.declared.Rules.{Rules}
use Rattle.label.specs.Bytes.{star, point, slash}
use Rattle.label.specs.Parse.{Joint, stop, times, over, padded, spaced, joint, leading}
use Rattle.descent.specs.declared.joint.JointAt.{JointAt}

abbrev pub separates : Rules → ℕ → Bool
separates r c = (eqb c star && r.star) || (eqb c point && r.point)

-- the sign b, turned over by a slash or not
abbrev pub turned_by : Bool → Bool → Bool
turned_by true b = not b
turned_by false b = b

-- o is the place after the spaces at `at`
pub record Pads (r : Rules) (s : List ℕ) (at o : ℕ) : Type 0 where
  pub rest : drop o s ≡ padded r (drop at s)
  pub from : at ≤ o
  pub within : o ≤ length s

-- what joins, by whether it is a slash and the text after it
abbrev pub joint_by : Bool → List ℕ → Joint
joint_by false t = times t
joint_by true t = over t

-- x joins, and j says how and where it ends
pub record TiedAt (x : Joint) (s : List ℕ) (at : ℕ) (j : JointAt) : Type 0 where
  pub is : x ≡ joint_by j.over (drop j.next s)
  pub after : at < j.next
  pub within : j.next ≤ length s

-- x joins as o says, or it does not
abbrev pub Tied : Joint → List ℕ → ℕ → Option JointAt → Type 0
Tied x s at o = MatchOption o (x ≡ stop) (TiedAt x s at)

pub record Joins (r : Rules) (s : List ℕ) (at : ℕ) (o : Option JointAt) : Type 0 where
  pub tied : Tied (joint r (drop at s)) s at o

pub record SpacesJoin (r : Rules) (s : List ℕ) (at : ℕ) (o : Option JointAt) : Type 0 where
  pub tied : Tied (spaced r (drop at s)) s at o

-- a slash leads, and the text after it starts at p
pub record LeadsAt (r : Rules) (s : List ℕ) (at p : ℕ) : Type 0 where
  pub is : leading r (drop at s) ≡ some (drop p s)
  pub from : at ≤ p
  pub within : p ≤ length s

-- a slash leads, and o says where the text after it starts; or none does
pub record Leads (r : Rules) (s : List ℕ) (at : ℕ) (o : Option ℕ) : Type 0 where
  pub leads : MatchOption o (leading r (drop at s) ≡ none) (LeadsAt r s at)

-- the text begins with the one slash that may come after a product
unfoldable pub slashed : Rules → List ℕ → Bool
slashed r [] = false
slashed r (c ∷ s) = eqb c slash && not r.each

pub record Slashes (r : Rules) (over : Bool) (s : List ℕ) (at : ℕ) (o : Bool) : Type 0 where
  pub is : o ≡ (over && slashed r (drop at s))
