-- Parts of a list, and the first place of a number in it.
use Rattle.std.specs.Prelude.{ℕ, suc, ◌-◌, Bool, true, false, List, [], ◌∷◌, eqb, take, drop}

-- the part from one place to another
unfoldable pub slice : ℕ → ℕ → List ℕ → List ℕ
slice from to s = take (to - from) (drop from s)

-- one step of a search: the byte is here, or after it
unfoldable pub index_after : Bool → ℕ → ℕ
index_after true n = 0
index_after false n = suc n

-- how many numbers come before the first b; all of them where there is none
unfoldable pub index_of : ℕ → List ℕ → ℕ
index_of b [] = 0
index_of b (c ∷ s) = index_after (eqb c b) (index_of b s)
