-- Powers, computed as far as the largest numerator or denominator.
use Rattle.std.specs.Prelude.{ℕ, ◌*◌, ◌≤◌, ◌<◌, ◌^◌, ◌≡◌}

-- r is x where x is at most 2 to the 53, and is above that where x is
pub record Held (x r : ℕ) : Type 0 where
  pub same : r ≤ 2 ^ 53 → r ≡ x
  pub past : 2 ^ 53 < r → 2 ^ 53 < x
  pub size : r ≤ 487 * 2 ^ 53
