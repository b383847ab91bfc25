-- The notations' numbers: 1 to how many there are.
use Prim.Native.Nat.{ℕ, ◌≤◌, ◌<◌}
use native.Mathlib.Omega.{arith}
use Rattle.std.proofs.lemmas.Grind.{common_steps}
use mathlib.Core.Path.{◌≡◌, refl, sym, ◌∙◌}
use mathlib.Core.Bool.{Bool, true, false, ◌||◌, not}
use mathlib.Core.Logic.{◌⊎◌, inl, inr}
use mathlib.Core.List.{[], ◌∷◌}
use lib.Dec.{eqb}
use lib.ListN.{length}
use borrow.Author.Tests.{eqb-true, not-false}
use Rattle.label.specs.Notations.{Notations, member, everywhere, notation}
use Rattle.label.proofs.Basics.{false_true}

-- n is one of some notations
abbrev pub OneOf : ℕ → Notations → Type 0
OneOf n [] = ⊥
OneOf n (m ∷ ms) = (n ≡ m) ⊎ OneOf n ms

member_one : (ms : Notations) (n : ℕ) → member n ms ≡ true → OneOf n ms
unfolding member
member_one [] n t = absurd (false_true t)
member_one (m ∷ ms) n t = go (eqb n m) refl (member_one ms n) t
  where
    go : (b : Bool) → eqb n m ≡ b → (member n ms ≡ true → OneOf n ms) → (b || member n ms) ≡ true → (n ≡ m) ⊎ OneOf n ms
    go true e ih t = inl (eqb-true n m e)
    go false e ih t = inr (ih t)

pub one_of : (n : ℕ) → notation n ≡ true → OneOf n everywhere
unfolding notation
one_of n t = member_one everywhere n t

-- the notations have the numbers from 1 on
abbrev pub last : ℕ
last = length everywhere

-- the range of the notations' numbers
pub record InRange (n : ℕ) : Type 0 where
  pub least : 1 ≤ n
  pub most : n ≤ last

pub in_range : (n : ℕ) → notation n ≡ true → InRange n
in_range n t = record { least = grind (arith, common_steps, one_of n t); most = grind (arith, common_steps, one_of n t) }

pub is_a_notation : (n : ℕ) (b : Bool) → b ≡ notation n → not b ≡ false → notation n ≡ true
is_a_notation n b e t = sym e ∙ not-false b t

-- the number of a notation is a byte
pub is_a_byte : (n : ℕ) (b : Bool) → b ≡ notation n → not b ≡ false → n < 256
is_a_byte n b e t = omega (arith, (in_range n (is_a_notation n b e t)).most)
