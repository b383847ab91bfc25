-- What is read at a place of a text, by the byte there.
use Prim.Native.Nat.{ℕ, ◌<◌, ◌+◌}
use native.Mathlib.Omega.{arith}
use native.Mathlib.Decide.{dec_lt}
use mathlib.Core.Path.{◌≡◌}
use mathlib.Core.List.{List, [], ◌∷◌}
use lib.ListN.{length, drop, get_or}
use Rattle.label.proofs.Between.{here, beyond, byte_inside, byte_outside}

-- What looks at the first byte c of a text w, with u after it, looks at the byte at a place. At the end that byte is 0.
pub by_byte : {A : Type 0} (f : List ℕ → A) (g : ℕ → List ℕ → List ℕ → A) → ((c : ℕ) (u : List ℕ) → f (c ∷ u) ≡ g c (c ∷ u) u) → f [] ≡ g 0 [] []
    → (s : List ℕ) (at : ℕ) → f (drop at s) ≡ g (get_or s at 0) (drop at s) (drop (at + 1) s)
by_byte f g p q s at = go (dec_lt at (length s))
  where
    go : Dec (at < length s) → f (drop at s) ≡ g (get_or s at 0) (drop at s) (drop (at + 1) s)
    go (yes h) = rw (here s at h) (p (get_or s at 0) (drop (at + 1) s))
    go (no h) = rw (beyond s at (omega arith), beyond s (at + 1) (omega arith), byte_outside s at (omega arith)) q

-- a test of the byte at a place that holds says that there is a byte
pub byte_found : (s : List ℕ) (at c : ℕ) → 0 < c → get_or s at 0 ≡ c → at < length s
byte_found s at c h e = byte_inside s at (λ z. omega arith)
