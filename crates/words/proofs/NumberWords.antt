-- Numbers in words, by their signs and sizes.
use Prim.Native.Nat.{ℕ, zero, suc, ◌*◌, ◌/◌, ◌≤◌}
use native.Mathlib.Omega.{arith}
use native.Mathlib.Nat.{mul-le-mul}
use mathlib.Core.Path.{◌≡◌, refl, sym, ap, ◌∙◌}
use mathlib.Core.Bool.{Bool, true, false}
use mathlib.Core.List.{List, [], ◌∷◌, ◌++◌}
use lib.Dec.{eqb}
use lib.IntN.{ℤ, pos, negsuc, nat_abs}
use borrow.Author.Tests.{eq-eqb, ne_eqb}
use Rattle.label.specs.declared.Tens.{Tens}
use Rattle.label.specs.Bytes.{bytes}
use Rattle.label.specs.Choice.{pick}
use Rattle.label.specs.Limits.{signed, negative, denominator_of, lowest_terms}
use Rattle.label.specs.Reading.{exponent}
use Rattle.label.specs.Conversion.{same_whole}
use Rattle.label.specs.Words.{Word, number_words, factor_words, over_words, fraction_words, exponent_words}
use Rattle.label.proofs.Basics.{false_true}
use Rattle.label.proofs.Figures.{lowered, size_signed}
use Rattle.words.specs.Speech.{integer_words}

-- K

module _ (k : Tens) {n : ℕ} (e : n ≡ nat_abs k.0) where
  pub factor_unsaid : n ≡ 0 → factor_words k ≡ []
  unfolding factor_words
  factor_unsaid z = rw (eq-eqb (nat_abs k.0) 0 (sym e ∙ z))

  pub factor_said : (n ≡ 0 → ⊥) → {b : Bool} → b ≡ negative k.0
      → factor_words k ≡ (bytes "ten" ∷ []) ++ ((bytes "to" ∷ bytes "the" ∷ []) ++ integer_words b n)
  unfolding factor_words number_words
  factor_said z f = rw (ne_eqb (nat_abs k.0) 0 (λ q. z (e ∙ q)), f, e)

-- EXPONENTS

unity : (z : ℤ) → same_whole z (pos 60) ≡ pick (negative z) false (eqb (nat_abs z) 60)
unity (pos n) = refl
unity (negsuc n) = refl

-- a number under a sign, where it is not 0 under a minus
signed_words : (b : Bool) (m : ℕ) → (b ≡ true → 1 ≤ m) → number_words (signed b m) ≡ integer_words b m
unfolding number_words
signed_words true zero h = absurd (omega (arith, h refl))
signed_words true (suc m) h = refl
signed_words false m h = refl

-- the numerator of a negative exponent is not 0
numerator_some : (z : ℤ) → negative z ≡ true → 1 ≤ nat_abs z * denominator_of z / 60
unfolding lowest_terms
numerator_some (pos n) h = absurd (false_true h)
numerator_some (negsuc n) h =
    let w = lowered (exponent (negsuc n)) in
    let p = rw (size_signed true (suc n * denominator_of (negsuc n) / 60)) at w.equal in
    some (suc n * denominator_of (negsuc n) / 60) p (product (suc n) (denominator_of (negsuc n)) (omega arith) w.positive)
  where
    product : (a b : ℕ) → 1 ≤ a → 1 ≤ b → 1 * 1 ≤ a * b
    product a b h g = mul-le-mul h g

    some : (p : ℕ) → p * 60 ≡ suc n * denominator_of (negsuc n) → 1 * 1 ≤ suc n * denominator_of (negsuc n) → 1 ≤ p
    some zero e h = absurd (omega arith)
    some (suc p) e h = omega arith

module _ (z : ℤ) {n : ℕ} {b : Bool} (e : n ≡ nat_abs z) (f : b ≡ negative z) where
  pub exponent_unsaid : pick b false (eqb n 60) ≡ true → exponent_words (exponent z) ≡ []
  unfolding exponent_words
  exponent_unsaid h = let q : same_whole z (pos 60) ≡ true = unity z ∙ rw (← e, ← f) h in rw q

  pub exponent_said : pick b false (eqb n 60) ≡ false → {d : ℕ} → d ≡ denominator_of (pos n)
      → exponent_words (exponent z) ≡ (bytes "to" ∷ bytes "the" ∷ []) ++ (integer_words b (n * d / 60) ++ over_words d)
  unfolding exponent_words fraction_words lowest_terms denominator_of
  exponent_said h g =
      let q : same_whole z (pos 60) ≡ false = unity z ∙ rw (← e, ← f) h in
      rw (q, f, g, e) (ap (λ (l : List Word). bytes "to" ∷ bytes "the" ∷ (l ++ over_words (denominator_of z))) (signed_words (negative z) _ (numerator_some z)))
