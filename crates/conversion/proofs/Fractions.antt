-- The fraction that the code computes is the one of the definitions.
use Prim.Native.Nat.{ℕ, ◌*◌, ◌%◌, ◌≤◌, ◌<◌, ◌^◌}
use native.Mathlib.Omega.{arith}
use mathlib.Core.Path.{◌≡◌, refl, ap, ◌∙◌}
use mathlib.Core.Bool.{Bool, ◌&&◌}
use lib.Dec.{eqb}
use lib.IntN.{ℤ, nat_abs, ◌-ℤ◌}
use mir.Syntax.{w32, w64}
use mir.Val.{to_z, of_z}
use Rattle.label.specs.Reading.{exponent}
use Rattle.label.specs.Conversion.{whole_number, above, below, all_whole, fraction, fraction_of}
use Rattle.claims.specs.Parts.{up, down}
use Rattle.claims.proofs.Exactness.{above_is, below_is}
use Rattle.conversion.specs.declared.fraction.ScaleRatio.{ScaleRatio}
use Rattle.conversion.specs.Powers.{Held}
use Rattle.conversion.proofs.Signs.{bits, narrow_bits, minus_size}
use Rattle.conversion.specs.Answers.{ratio_in, SmallRatio, Nearly}

-- ALL FOUR WHOLE

abbrev whole_bits : ℤ → Bool
whole_bits z = eqb (nat_abs (to_z w64 (of_z w64 z)) % 60) 0

pub all_whole_bits : (r : ScaleRatio) → SmallRatio r
    → all_whole (ratio_in r) ≡ (whole_bits r.twos && (whole_bits r.threes && (whole_bits r.fives && whole_bits r.others)))
unfolding all_whole
all_whole_bits r h =
    rw (bits r.twos (omega (arith, h.twos)), bits r.threes (omega (arith, h.threes)), bits r.fives (omega (arith, h.fives)), bits r.others (omega (arith, h.others)))

-- ONES

pub record Ones (z y : ℤ) : Type 0 where
  pub is : y ≡ whole_number (exponent z)
  pub small : nat_abs y < 2 ^ 30
  pub room : nat_abs (to_z w64 (of_z w64 y)) < 2 ^ 30

pub ones_told : (z : ℤ) {y : ℤ} → nat_abs z < 2 ^ 30 → (y ≡ whole_number (exponent (to_z w64 (of_z w64 z)))) × (nat_abs y ≤ nat_abs (to_z w64 (of_z w64 z))) → Ones z y
ones_told z {y} h e =
    let q = bits z (omega arith) in
    let l : nat_abs y < 2 ^ 30 = omega (arith, e.1, ap nat_abs q) in
    record { is = e.0 ∙ ap (λ (x : ℤ). whole_number (exponent x)) q; small = l; room = rw (bits y (omega arith)) l }

-- NUMERATOR AND DENOMINATOR

-- one side of the fraction, of exponents that are given by their bits
side : (f : ℤ → ℕ) (g : ℕ → ℤ → ℕ) → ((p : ℕ) (z : ℤ) → g p z ≡ p ^ f z) → (t b e : ℤ) → nat_abs t < 2 ^ 31 → nat_abs b < 2 ^ 30 → nat_abs e < 2 ^ 30
    → {x y w n : ℕ} → x ≡ f (to_z w64 (of_z w64 t)) → y ≡ f (to_z w64 (of_z w64 b)) → w ≡ f (to_z w64 (of_z w64 e))
    → Held (2 ^ x * 3 ^ y * 487 ^ w) n → Held (g 2 t * g 3 b * g 487 e) n
side f g law t b e i j k p q r h =
    rw (law 2 t, law 3 b, law 487 e)
    (rw (p, q, r, bits t i, bits b (omega arith), bits e (omega arith)) at h)

module _ (r : ScaleRatio) {a b c e : ℤ} (i : Ones r.twos a) (j : Ones r.threes b) (k : Ones r.fives c) (l : Ones r.others e) where
  abbrev rest : ℤ
  rest = to_z w64 (of_z w64 a) -ℤ to_z w64 (of_z w64 c)

  rest_is : rest ≡ a -ℤ c
  rest_is = rw (bits a (omega (arith, i.small)), bits c (omega (arith, k.small)))

  rest_small : nat_abs rest < 2 ^ 31
  rest_small = omega (arith, minus_size (to_z w64 (of_z w64 a)) (to_z w64 (of_z w64 c)), i.room, k.room)

  pub fraction_is : {x y w n : ℕ} {x' y' w' d : ℕ}
      → x ≡ up (to_z w64 (of_z w64 rest)) → y ≡ up (to_z w64 (of_z w64 b)) → w ≡ up (to_z w64 (of_z w64 e)) → Held (2 ^ x * 3 ^ y * 487 ^ w) n
      → x' ≡ down (to_z w64 (of_z w64 rest)) → y' ≡ down (to_z w64 (of_z w64 b)) → w' ≡ down (to_z w64 (of_z w64 e)) → Held (2 ^ x' * 3 ^ y' * 487 ^ w') d
      → Nearly (fraction_of (ratio_in r)) (record { numerator = n; denominator = d; k = record { 0 = to_z w32 (of_z w32 (to_z w64 (of_z w64 c))) } })
  unfolding fraction_of fraction
  fraction_is p q o h p' q' o' h' = record {
    number = refl;
    numerator = rw (← i.is, ← j.is, ← k.is, ← l.is, ← rest_is) (side up above above_is rest b e rest_small j.small l.small p q o h);
    denominator = rw (← i.is, ← j.is, ← k.is, ← l.is, ← rest_is) (side down below below_is rest b e rest_small j.small l.small p' q' o' h');
    k = λ m. record { 0 = (narrow_bits c (omega (arith, k.small)) ∙ k.is) m };
  }
