-- What `all` answers of a list, by the definition.
use mathlib.Core.Path.{◌≡◌, refl, ap}
use mathlib.Core.Bool.{Bool, ◌&&◌}
use mathlib.Core.List.{List, [], ◌∷◌}
use Prim.Native.Nat.{ℕ}
use Rattle.std.specs.List.{list_all}
use Rattle.label.specs.Bytes.{all}

pub all_told : (p : ℕ → Bool) (s : List ℕ) → list_all p s ≡ all p s
unfolding all
all_told p [] = refl
all_told p (x ∷ s) = ap (λ (b : Bool). p x && b) (all_told p s)
