-- Powers, computed as far as the largest numerator or denominator.
use Prim.Native.Nat.{ℕ, suc, ◌*◌, ◌≤◌, ◌<◌, ◌^◌}
use native.Mathlib.Omega.{arith}
use native.Mathlib.Decide.{dec_lt}
use native.Mathlib.Nat.{mul-le-mul, mul_assoc, one-mul, mul-one, pow-zero, pow-succ', one-le-pow, le-mul_of_pos_right}
use mathlib.Core.Path.{◌≡◌, sym, ap, ◌∙◌}
use Rattle.conversion.specs.Powers.{Held}

-- the product so far, times the power that is left, is the product
pub record Raising (start prime exponent value left : ℕ) : Type 0 where
  pub total : value * prime ^ left ≡ start * prime ^ exponent
  pub size : value ≤ 487 * 2 ^ 53

module _ {start prime exponent value left : ℕ} (r : Raising start prime exponent value left) where
  -- a product above the largest number stays above it
  pub raising_past : 1 ≤ prime → 2 ^ 53 < value → Held (start * prime ^ exponent) value
  raising_past h g = record {
    same = λ l. absurd (omega arith);
    past = λ l. omega (arith, r.total, le-mul_of_pos_right value (one-le-pow left prime h));
    size = r.size;
  }

  pub raising_room : value ≤ 2 ^ 53 → prime ≤ 487 → value * prime ≤ 2 ^ 53 * 487
  raising_room h g = mul-le-mul h g

  pub raising_more : {rest : ℕ} → value ≤ 2 ^ 53 → prime ≤ 487 → left ≡ suc rest → Raising start prime exponent (value * prime) rest
  raising_more {rest} h g e = record {
    total = mul_assoc value prime (prime ^ rest) ∙ ap (λ (x : ℕ). value * x) (sym (pow-succ' prime rest) ∙ ap (λ (x : ℕ). prime ^ x) (sym e)) ∙ r.total;
    size = omega (arith, raising_room h g);
  }

  pub raising_done : left ≤ 0 → Held (start * prime ^ exponent) value
  raising_done h =
      let e : left ≡ 0 = omega arith in
      let q : value ≡ start * prime ^ exponent = sym (mul-one value) ∙ ap (λ (x : ℕ). value * x) (sym (pow-zero prime) ∙ ap (λ (x : ℕ). prime ^ x) (sym e)) ∙ r.total in
      record { same = λ l. q; past = λ l. omega arith; size = r.size }

-- a product of a number that is held
pub held_times : {x r s : ℕ} (y : ℕ) → 1 ≤ y → Held x r → Held (r * y) s → Held (x * y) s
held_times {x} {r} {s} y h v w = record {
  same = λ l.
      let e = w.same l in
      e ∙ ap (λ (z : ℕ). z * y) (v.same (omega (arith, e, le-mul_of_pos_right r h)));
  past = λ l. go (dec_lt (2 ^ 53) r) l;
  size = w.size;
}
  where
    go : Dec (2 ^ 53 < r) → 2 ^ 53 < s → 2 ^ 53 < x * y
    go (yes g) l = omega (arith, v.past g, le-mul_of_pos_right x h)
    go (no g) l = let e : r ≡ x = v.same (omega arith) in rw (← e) (w.past l)

pub held_product : (a b c : ℕ) {r s t : ℕ} → Held (1 * 2 ^ a) r → Held (r * 3 ^ b) s → Held (s * 487 ^ c) t → Held (2 ^ a * 3 ^ b * 487 ^ c) t
held_product a b c u v w =
    held_times (487 ^ c) (one-le-pow c 487 (omega arith)) (held_times (3 ^ b) (one-le-pow b 3 (omega arith)) (rw (one-mul (2 ^ a)) at u) v) w
