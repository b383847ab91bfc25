-- What it is for a fraction times a power of ten to be a product of powers of 2, 3, 5 and 487.
use Rattle.std.specs.Prelude.{ℕ, ◌≤◌, ◌*◌, ◌≡◌, ℤ}
use Rattle.label.specs.Conversion.{above, below}

pub record Divides (m n : ℕ) : Type 0 where
  pub times : ℕ
  pub is : times * m ≡ n

-- no number but 1 divides both
pub record NoCommonFactor (n d : ℕ) : Type 0 where
  pub one : (m : ℕ) → Divides m n → Divides m d → m ≡ 1

-- n/d times ten to the k is 2 to the a, 3 to the b, 5 to the c and 487 to the e, "n/d in lowest terms and neither divisible by 5". The
-- equation is cross-multiplied: what has a negative exponent is on the other side.
pub record Exact (a b c e : ℤ) (n d : ℕ) (k : ℤ) : Type 0 where
  pub equal :
      n * above 10 k * (below 2 a * below 3 b * below 5 c * below 487 e) ≡ d * below 10 k * (above 2 a * above 3 b * above 5 c * above 487 e)
  pub positive : (1 ≤ n) × (1 ≤ d)
  pub lowest : NoCommonFactor n d
  pub without_five : (Divides 5 n → ⊥) × (Divides 5 d → ⊥)
