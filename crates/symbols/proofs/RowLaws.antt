-- Laws of any table: a test that every row passes, and the search of the first row that passes one.
use Prim.Native.Nat.{ℕ, zero, suc, ◌+◌, ◌≤◌, ◌<◌}
use native.Mathlib.Omega.{arith}
use native.Mathlib.Numerals.{add-one}
use mathlib.Core.Path.{◌≡◌, refl}
use mathlib.Core.Bool.{Bool, true, false, ◌&&◌}
use mathlib.Core.List.{List, [], ◌∷◌}
use mathlib.Core.Option.{Option, none, some}
use lib.Dec.{T}
use lib.ListN.{length, drop, get_or, drop_of_length-le}
use lib.Seq.{drop-cons}
use Rattle.label.proofs.Basics.{both}
use Rattle.label.specs.Choice.{pick}

-- EVERY ROW

unfoldable pub every : {A : Type 0} → (A → Bool) → List A → Bool
every p [] = true
every p (x ∷ xs) = p x && every p xs

-- what every row passes, and what is past the end too, is passed at any place
pub every_at : {A : Type 0} (p : A → Bool) (xs : List A) (d : A) → T (every p xs) → T (p d) → (i : ℕ) → T (p (get_or xs i d))
unfolding every
every_at p [] d t u i = u
every_at p (x ∷ xs) d t u zero = (both (p x) (every p xs) t).0
every_at p (x ∷ xs) d t u (suc i) = every_at p xs d (both (p x) (every p xs) t).1 u i

-- THE FIRST ROW

-- what f makes of the first row that passes p, and of its place, counted from i
unfoldable pub first : {A : Type 0} → (A → Bool) → (ℕ → A → ℕ) → ℕ → List A → Option ℕ
first p f i [] = none
first p f i (x ∷ xs) = pick (p x) (some (f i x)) (first p f (suc i) xs)

-- the place itself, as what a search makes
abbrev pub at_place : {A : Type 0} → ℕ → A → ℕ
at_place i x = i

-- the search has the answer o, and no row before place i passes
pub record Sought {A : Type 0} (p : A → Bool) (f : ℕ → A → ℕ) (xs : List A) (o : Option ℕ) (i : ℕ) : Type 0 where
  pub upto : i ≤ length xs
  pub rest : first p f i (drop i xs) ≡ o

module _ {A : Type 0} {p : A → Bool} {f : ℕ → A → ℕ} {xs : List A} {o : Option ℕ} where
  pub sought_none : first p f 0 xs ≡ o → Sought p f xs o 0
  sought_none e = record { upto = omega arith; rest = e }

  pub sought_all : {i : ℕ} → length xs ≤ i → Sought p f xs o i → none ≡ o
  unfolding first
  sought_all {i} h w = rw (drop_of_length-le xs {i = i} h) at w.rest

  module _ {i : ℕ} (d : A) (h : i < length xs) (w : Sought p f xs o i) where
    next : pick (p (get_or xs i d)) (some (f i (get_or xs i d))) (first p f (suc i) (drop (suc i) xs)) ≡ o
    unfolding first
    next = rw (drop-cons xs i d h) at w.rest

    pub sought_hit : p (get_or xs i d) ≡ true → some (f i (get_or xs i d)) ≡ o
    sought_hit e = rw e at next

    pub sought_miss : p (get_or xs i d) ≡ false → Sought p f xs o (i + 1)
    sought_miss e = record { upto = omega arith; rest = rw (add-one i) (rw e at next) }

-- a search that no row passes
pub first_none : {A : Type 0} (p q : A → Bool) (f : ℕ → A → ℕ) (i : ℕ) (xs : List A) → T (every q xs)
    → ((x : A) → T (q x) → p x ≡ false) → first p f i xs ≡ none
unfolding every first
first_none p q f i [] t g = refl
first_none p q f i (x ∷ xs) t g =
    let w = both (q x) (every q xs) t in
    rw (g x w.0) (first_none p q f (suc i) xs w.1 g)
