-- Letters from their key.
use Rattle.std.specs.Prelude.{ℕ, zero, suc, ◌/◌, ◌%◌, true, false, List, [], ◌∷◌, ◌++◌, eqb}

-- the letters of a key, so many at most: its digits in base 256, of which none is 0
unfoldable pub letters_of : ℕ → ℕ → List ℕ
letters_of zero k = []
letters_of (suc f) k = elim (eqb k 0) [ true ↦ [] | false ↦ letters_of f (k / 256) ++ (k % 256 ∷ []) ]

-- a prefix has at most so many letters
abbrev pub most_in_prefix : ℕ
most_in_prefix = 2
