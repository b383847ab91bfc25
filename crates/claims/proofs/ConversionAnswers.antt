-- What converting two labels answers, and that it answers nothing else.
use Prim.Native.Nat.{ℕ, ◌≤◌, ◌<◌}
use native.Mathlib.Omega.{arith}
use native.Mathlib.Decide.{dec_lt}
use mathlib.Core.Path.{◌≡◌, sym, ap, ◌∙◌}
use mathlib.Core.List.{List}
use mathlib.Core.Logic.{◌↔◌}
use lib.Dec.{eqb}
use lib.IntN.{ℤ}
use borrow.Author.Tests.{ne_eqb}
use Rattle.label.specs.Split.{Valued, Refused}
use Rattle.label.specs.Reading.{reading}
use Rattle.label.specs.Conversion.{Conversion, refuse_conversion, unless, converted, conversion}
use Rattle.label.proofs.Refusals.{bounds}
use Rattle.label.proofs.Readings.{Accepted, Answered, answer_of, accepted_number, number_refused}
use Rattle.claims.specs.Converting.{first_unknown, second_unknown, Due, Converts, gives}
use Rattle.claims.proofs.Conversions.{accepted_shaped, hinder_bounds, ConversionOutcome, converted_outcome, factor_clear, factor_once}

-- NUMBERS OF THE READINGS

refused_number : {i n : ℕ} {s : List ℕ} → Refused i n s → (1 ≤ i) × ((reading n s).number ≡ i)
refused_number {i} {n} {s} d = let h = (bounds d.holds).0 in (h, (number_refused n s i h).1 d)

-- THE ANSWER

module _ (n : ℕ) (s : List ℕ) (m : ℕ) (t : List ℕ) where
  first_refused : {i : ℕ} → (reading n s).number ≡ i → 1 ≤ i → conversion n s m t ≡ refuse_conversion i
  unfolding conversion unless
  first_refused {i} e h =
      ap (λ (x : ℕ). unless (eqb x 0) x (unless (eqb (reading m t).number 0) (reading m t).number (converted (reading n s) (reading m t)))) e
      ∙ rw (ne_eqb i 0 (λ (z : i ≡ 0). omega arith))

  second_answer : (reading n s).number ≡ 0 → conversion n s m t ≡ unless (eqb (reading m t).number 0) (reading m t).number (converted (reading n s) (reading m t))
  unfolding conversion unless
  second_answer e = ap (λ (x : ℕ). unless (eqb x 0) x (unless (eqb (reading m t).number 0) (reading m t).number (converted (reading n s) (reading m t)))) e

  second_refused : {i : ℕ} → (reading n s).number ≡ 0 → (reading m t).number ≡ i → 1 ≤ i → conversion n s m t ≡ refuse_conversion i
  unfolding unless
  second_refused {i} z e h =
      second_answer z ∙ ap (λ (x : ℕ). unless (eqb x 0) x (converted (reading n s) (reading m t))) e ∙ rw (ne_eqb i 0 (λ (z : i ≡ 0). omega arith))

  both_answer : (reading n s).number ≡ 0 → (reading m t).number ≡ 0 → conversion n s m t ≡ converted (reading n s) (reading m t)
  unfolding unless
  both_answer z e = second_answer z ∙ ap (λ (x : ℕ). unless (eqb x 0) x (converted (reading n s) (reading m t))) e

  data ConversionAnswer : Type 0 where
    refused : (i : ℕ) → conversion n s m t ≡ refuse_conversion i → Due n s m t i → ConversionAnswer
    given : (x y : ℕ) (k : ℤ) → conversion n s m t ≡ gives x y k → Converts n s m t x y k → ConversionAnswer

  answer : ConversionAnswer
  answer = go (answer_of n s) (answer_of m t)
    where
      last : {v w : Valued} → Accepted n s v → Accepted m t w → ConversionOutcome (reading n s) (reading m t) (converted (reading n s) (reading m t)) → ConversionAnswer
      last a b (ConversionOutcome.refusing i e h c) = ConversionAnswer.refused i (both_answer (accepted_number a) (accepted_number b) ∙ e) (Due.both a.clear b.clear h c)
      last a b (ConversionOutcome.giving g) =
          let x = converted (reading n s) (reading m t) in
          ConversionAnswer.given x.numerator x.denominator x.k.0 (both_answer (accepted_number a) (accepted_number b) ∙ g.answers) (record {
            first_clear = a.clear;
            second_clear = b.clear;
            first_known = λ u. g.clear 8 (first_unknown u);
            second_known = λ u. g.clear 8 (second_unknown u);
            same_dimensions = g.same;
            factor = g.factor;
            within = g.within;
          })

      go : Answered n s → Answered m t → ConversionAnswer
      go (Answered.refusing i e d) z = let w = refused_number d in ConversionAnswer.refused i (first_refused w.1 w.0) (Due.first d)
      go (Answered.accepting v a) (Answered.refusing i e d) =
          let w = refused_number d in
          ConversionAnswer.refused i (second_refused (accepted_number a) w.1 w.0) (Due.second a.clear d)
      go (Answered.accepting v a) (Answered.accepting w b) = last a b (converted_outcome (reading n s) (reading m t) (accepted_shaped a) (accepted_shaped b))

  -- NO OTHER ANSWER

  due_positive : {i : ℕ} → Due n s m t i → 1 ≤ i
  due_positive (Due.first d) = (bounds d.holds).0
  due_positive (Due.second c d) = (bounds d.holds).0
  due_positive (Due.both c d h e) = omega (arith, hinder_bounds h)

  one_due : {i j : ℕ} → Due n s m t i → Due n s m t j → i ≡ j
  one_due (Due.first a) (Due.first b) = sym (refused_number a).1 ∙ (refused_number b).1
  one_due {i} (Due.first a) (Due.second c b) = absurd (c i a.holds)
  one_due {i} (Due.first a) (Due.both c d h e) = absurd (c i a.holds)
  one_due {i} {j} (Due.second c a) (Due.first b) = absurd (c j b.holds)
  one_due (Due.second c a) (Due.second d b) = sym (refused_number a).1 ∙ (refused_number b).1
  one_due {i} (Due.second c a) (Due.both d f h e) = absurd (f i a.holds)
  one_due {i} {j} (Due.both c d h e) (Due.first b) = absurd (c j b.holds)
  one_due {i} {j} (Due.both c d h e) (Due.second f b) = absurd (d j b.holds)
  one_due {i} {j} (Due.both c d h e) (Due.both c' d' h' e') = go (dec_lt i j) (dec_lt j i)
    where
      go : Dec (i < j) → Dec (j < i) → i ≡ j
      go (yes l) y = absurd (e' i l h)
      go (no l) (yes y) = absurd (e j y h')
      go (no l) (no y) = omega arith

  due_converts : {i x y : ℕ} {k : ℤ} → Due n s m t i → Converts n s m t x y k → ⊥
  due_converts {i} (Due.first d) c = c.first_clear i d.holds
  due_converts {i} (Due.second z d) c = c.second_clear i d.holds
  due_converts (Due.both z w h e) c = factor_clear (reading n s) (reading m t) c.first_known c.second_known c.same_dimensions c.factor c.within h

  -- THE CLAIMS

  pub due_refused : {i : ℕ} → Due n s m t i → conversion n s m t ≡ refuse_conversion i
  due_refused {i} d = go answer
    where
      go : ConversionAnswer → conversion n s m t ≡ refuse_conversion i
      go (ConversionAnswer.refused j e f) = e ∙ ap refuse_conversion (one_due f d)
      go (ConversionAnswer.given x y k e c) = absurd (due_converts d c)

  pub number_due : (i : ℕ) → 1 ≤ i → ((conversion n s m t).number ≡ i) ↔ Due n s m t i
  number_due i h = (back answer, (λ d. ap (λ (x : Conversion). x.number) (due_refused d)))
    where
      back : ConversionAnswer → (conversion n s m t).number ≡ i → Due n s m t i
      back (ConversionAnswer.refused j e d) q = rw (sym (ap (λ (x : Conversion). x.number) e) ∙ q) at d
      back (ConversionAnswer.given x y k e c) q = absurd (omega (arith, ap (λ (x : Conversion). x.number) e))

  pub zero_undue : ((conversion n s m t).number ≡ 0) ↔ ((i : ℕ) → Due n s m t i → ⊥)
  zero_undue = ((λ q i d. omega (arith, due_positive d, ap (λ (x : Conversion). x.number) (due_refused d))), back answer)
    where
      back : ConversionAnswer → ((i : ℕ) → Due n s m t i → ⊥) → (conversion n s m t).number ≡ 0
      back (ConversionAnswer.refused j e d) f = absurd (f j d)
      back (ConversionAnswer.given x y k e c) f = ap (λ (x : Conversion). x.number) e

  pub gives_converts : (x y : ℕ) (k : ℤ) → (conversion n s m t ≡ gives x y k) ↔ Converts n s m t x y k
  gives_converts x y k = (there answer, back answer)
    where
      there : ConversionAnswer → conversion n s m t ≡ gives x y k → Converts n s m t x y k
      there (ConversionAnswer.refused j e d) q = absurd (omega (arith, due_positive d, ap (λ (x : Conversion). x.number) (sym e ∙ q)))
      there (ConversionAnswer.given x' y' k' e c) q =
          let p = sym e ∙ q in
          let a : x' ≡ x = ap (λ (x : Conversion). x.numerator) p in
          let b : y' ≡ y = ap (λ (x : Conversion). x.denominator) p in
          let l : k' ≡ k = ap (λ (x : Conversion). x.k.0) p in
          rw (a, b, l) at c

      back : ConversionAnswer → Converts n s m t x y k → conversion n s m t ≡ gives x y k
      back (ConversionAnswer.refused j e d) c = absurd (due_converts d c)
      back (ConversionAnswer.given x' y' k' e c') c =
          let p = factor_once c'.factor c.factor in
          e ∙ (λ i. gives (p.0 i) (p.1 i) (p.2 i))
