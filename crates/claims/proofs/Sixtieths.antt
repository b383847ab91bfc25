-- A fraction is a whole number of sixtieths exactly if its denominator in lowest terms divides 60.
use Prim.Native.Nat.{ℕ, ◌<◌, ◌+◌, ◌*◌, ◌-◌, ◌/◌, ◌%◌}
use native.Mathlib.Omega.{arith}
use native.Mathlib.Decide.{dec_lt}
use native.Mathlib.Nat.{mul_comm, mul_assoc, mul-add, mul-sub, add-sub_cancel_left, mod-lt, div-add-mod', mul-mod_left}
use mathlib.Core.Path.{◌≡◌, sym, ap, ◌∙◌}
use mathlib.Core.Bool.{true}
use borrow.Author.Tests.{eqb-true, eq-eqb}
use Rattle.label.specs.Limits.{Ratio, parts_of_one, in_sixtieths}
use Rattle.claims.specs.Claims.{LowestTerms}

-- what is left of n/q is no smaller denominator, so nothing is left
module _ {a b p q : ℕ} (w : LowestTerms a b p q) (n z : ℕ) (e : z * b ≡ a * n) where
  whole : n / q * p * b ≡ a * (n / q * q)
  whole = mul_assoc (n / q) p b ∙ ap (λ (x : ℕ). n / q * x) w.equal ∙ sym (mul_assoc (n / q) a q) ∙ ap (λ (x : ℕ). x * q) (mul_comm (n / q) a) ∙ mul_assoc a (n / q) q

  split : a * n ≡ a * (n / q * q) + a * (n % q)
  split = ap (λ (x : ℕ). a * x) (sym (div-add-mod' n q)) ∙ mul-add a (n / q * q) (n % q)

  left : (z - n / q * p) * b ≡ a * (n % q)
  left = mul_comm (z - n / q * p) b ∙ mul-sub b z (n / q * p) ∙ rw (mul_comm b z, mul_comm b (n / q * p), e, whole, split) (add-sub_cancel_left (a * (n / q * q)) (a * (n % q)))

  nothing : n % q ≡ 0
  nothing = go (dec_lt 0 (n % q))
    where
      go : Dec (0 < n % q) → n % q ≡ 0
      go (yes h) = absurd (omega (arith, mod-lt n {m = q} w.positive, w.least (z - n / q * p) (n % q) h left))
      go (no h) = omega arith

  pub divides : n / q * q ≡ n
  divides = omega (arith, div-add-mod' n q, nothing)

module _ (r : Ratio) (p q : ℕ) (w : LowestTerms r.numerator r.denominator p q) where
  pub whole_divides : in_sixtieths r ≡ true → (t : ℕ) × (t * q ≡ parts_of_one)
  whole_divides e = (
    parts_of_one / q,
    divides w parts_of_one (parts_of_one * r.numerator / r.denominator)
        (omega (arith, div-add-mod' (parts_of_one * r.numerator) r.denominator, eqb-true (parts_of_one * r.numerator % r.denominator) 0 e)),
  )

  pub divides_whole : (t : ℕ) × (t * q ≡ parts_of_one) → in_sixtieths r ≡ true
  divides_whole d = eq-eqb (parts_of_one * r.numerator % r.denominator) 0 (rw same (mul-mod_left (d.0 * p) r.denominator))
    where
      same : parts_of_one * r.numerator ≡ d.0 * p * r.denominator
      same =
          ap (λ (x : ℕ). x * r.numerator) (sym d.1)
          ∙ mul_assoc d.0 q r.numerator
          ∙ ap (λ (x : ℕ). d.0 * x) (mul_comm q r.numerator ∙ sym w.equal)
          ∙ sym (mul_assoc d.0 p r.denominator)
