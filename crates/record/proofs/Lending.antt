-- A record written over a lent buffer that is shorter than it, and over any other.
use Prim.Native.Nat.{ℕ, ◌≤◌}
use native.Mathlib.Omega.{arith}
use native.Mathlib.Nat.{le_refl}
use mathlib.Core.Path.{◌≡◌, ◌∙◌}
use mathlib.Core.List.{List, ◌++◌}
use lib.ListN.{length, take, drop, drop_of_length-le}
use lib.Seq.{length-take-le, take_all}
use Rattle.record.specs.Record.{written_over, record_size}

module _ (xs b : List ℕ) where
  pub front_length : length b ≤ length xs → length (take (length b) xs) ≡ length b
  front_length h = length-take-le (length b) xs h

  pub over_short : {c : List ℕ} → length b ≤ length xs → c ≡ take (length b) xs ++ drop (length (take (length b) xs)) b
      → c ≡ written_over xs b
  unfolding written_over
  over_short h e = e ∙ rw (front_length h, drop_of_length-le b (le_refl (length b)), drop_of_length-le b h)

  pub over_part : {c : List ℕ} → length xs ≡ record_size → record_size ≤ length b → c ≡ xs ++ drop record_size b → c ≡ written_over xs b
  unfolding written_over
  over_part h g e = e ∙ rw (h, take_all (length b) xs (omega (arith, h, g)))
