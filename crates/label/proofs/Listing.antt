-- The numbers below a bound, listed in order.
use Prim.Native.Nat.{ℕ, zero, suc, ◌+◌, ◌<◌}
use native.Mathlib.Omega.{arith}
use native.Mathlib.Decide.{dec_lt}
use mathlib.Core.Path.{◌≡◌, refl, ap, ◌∙◌}
use mathlib.Core.List.{List, [], ◌∷◌, map}
use lib.ListN.{length, get_or, length-map, get_or-map}
use Rattle.label.specs.Reading.{up_to}

-- an element inside a list is the same whatever is given past the end
pub inside : {A : Type 0} (xs : List A) (i : ℕ) (d e : A) → i < length xs → get_or xs i d ≡ get_or xs i e
inside [] i d e h = absurd (omega arith)
inside (x ∷ xs) zero d e h = refl
inside (x ∷ xs) (suc i) d e h = inside xs i d e (omega arith)

-- the numbers below n, before those of bs
pub up_to_length : (n : ℕ) (bs : List ℕ) → length (up_to n bs) ≡ n + length bs
unfolding up_to
up_to_length zero bs = omega arith
up_to_length (suc n) bs = omega (arith, up_to_length n (n ∷ bs))

up_to_past : (n : ℕ) (bs : List ℕ) (k : ℕ) → get_or (up_to n bs) (n + k) 0 ≡ get_or bs k 0
unfolding up_to
up_to_past zero bs k = let z : zero + k ≡ k = omega arith in rw z
up_to_past (suc n) bs k = let z : suc n + k ≡ n + suc k = omega arith in rw z (up_to_past n (n ∷ bs) (suc k))

pub up_to_at : (n : ℕ) (bs : List ℕ) (b : ℕ) → b < n → get_or (up_to n bs) b 0 ≡ b
unfolding up_to
up_to_at zero bs b h = absurd (omega arith)
up_to_at (suc n) bs b h = go (up_to_at n (n ∷ bs) b) (dec_lt b n)
  where
    go : (b < n → get_or (up_to n (n ∷ bs)) b 0 ≡ b) → Dec (b < n) → get_or (up_to n (n ∷ bs)) b 0 ≡ b
    go r (yes l) = r l
    go r (no l) =
        let z : b ≡ n + 0 = omega arith in
        ap (λ (j : ℕ). get_or (up_to n (n ∷ bs)) j 0) z ∙ up_to_past n (n ∷ bs) 0 ∙ omega arith

-- what is listed for each number below n, at b
pub up_to_map : {A : Type 0} (n : ℕ) (g : ℕ → A) (d : A) (b : ℕ) → b < n → get_or (map g (up_to n [])) b d ≡ g b
up_to_map n g d b h =
    inside (map g (up_to n [])) b d (g 0) (omega (arith, length-map (up_to n []) g, up_to_length n []))
    ∙ get_or-map g (up_to n []) b 0
    ∙ ap g (up_to_at n [] b h)
