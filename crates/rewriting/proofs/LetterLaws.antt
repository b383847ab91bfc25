-- Letters of a key.
use Prim.Native.Nat.{ℕ, zero, suc, ◌-◌, ◌/◌, ◌%◌, ◌≤◌}
use native.Mathlib.Omega.{arith}
use mathlib.Core.Path.{◌≡◌, refl}
use mathlib.Core.Bool.{Bool, true, false}
use mathlib.Core.List.{[], ◌∷◌, ◌++◌}
use lib.Dec.{eqb}
use lib.ListN.{length, length-append}
use borrow.Author.Tests.{eq-eqb, ne_eqb}
use Rattle.rewriting.specs.Letters.{letters_of}

-- A KEY'S LETTERS

pub letters_none : (most k : ℕ) → most ≡ 0 → letters_of most k ≡ []
unfolding letters_of
letters_none most k e = rw e

pub letters_end : (most k : ℕ) → k ≡ 0 → letters_of most k ≡ []
unfolding letters_of
letters_end zero k e = refl
letters_end (suc f) k e = rw (eq-eqb k 0 e, letters_of)

pub letters_more : (most k : ℕ) → (most ≡ 0 → ⊥) → (k ≡ 0 → ⊥) → letters_of most k ≡ letters_of (most - 1) (k / 256) ++ (k % 256 ∷ [])
unfolding letters_of
letters_more zero k z h = absurd (z refl)
letters_more (suc f) k z h =
    let e : suc f - 1 ≡ f = omega arith in
    rw (e, ne_eqb k 0 h, letters_of)

-- no more letters than were asked for
pub letters_most : (n k : ℕ) → length (letters_of n k) ≤ n
unfolding letters_of
letters_most zero k = omega arith
letters_most (suc n) k = go (eqb k 0) (letters_most n (k / 256))
  where
    go : (b : Bool) → length (letters_of n (k / 256)) ≤ n → length {A = ℕ} (elim b [ true ↦ [] | false ↦ letters_of n (k / 256) ++ (k % 256 ∷ []) ]) ≤ suc n
    go true h = omega arith
    go false h = rw length-append (omega (arith, h))
