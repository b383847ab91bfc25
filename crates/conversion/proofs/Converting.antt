-- What converting answers: a number of a reading, or what the sums of two readings give.
use Prim.Native.Nat.{ℕ, ◌<◌, ◌^◌}
use native.Mathlib.Omega.{arith}
use native.Mathlib.Decide.{dec_lt}
use mathlib.Core.Path.{◌≡◌, refl, sym, ap, ◌∙◌}
use mathlib.Core.Bool.{Bool, true, false, not, ◌&&◌}
use mathlib.Core.List.{List, map}
use lib.Dec.{leb, eqb}
use borrow.Author.Tests.{lt-leb, ne_eqb, leb-true, not-true, not-false}
use Rattle.label.specs.declared.Refusal.{Refusal}
use Rattle.label.specs.Refusals.{number_of}
use Rattle.reading.proofs.Answering.{refusal_some}
use Rattle.label.specs.Reading.{exponent, Reading, reading}
use Rattle.label.specs.Conversion.{refuse_conversion, unless, both_known, same_exponents, over, all_whole, fraction_of, small, bounded, converted, conversion}
use Rattle.label.specs.Conversion as spec
use Rattle.label.proofs.Basics.{and_left, and_right}
use Rattle.content.specs.declared.sums.Sums.{Sums}
use Rattle.content.specs.Views.{scale_in}
use Rattle.conversion.specs.declared.answer.Conversion.{Conversion}
use Rattle.conversion.specs.declared.fraction.ScaleRatio.{ScaleRatio}
use Rattle.conversion.specs.Powers.{Held}
use Rattle.conversion.specs.Answers.{conversion_of, SumsOf, SummedReading, ratio_in, Nearly}
use Rattle.reading.specs.declared.read.Answer.{Answer}

-- THE LIMITS

-- a number that is held keeps the limit where its number does
held_test : {x r : ℕ} → Held x r → leb r (2 ^ 53) ≡ leb x (2 ^ 53)
held_test {x} {r} h = go (dec_lt (2 ^ 53) r)
  where
    go : Dec (2 ^ 53 < r) → leb r (2 ^ 53) ≡ leb x (2 ^ 53)
    go (yes l) = lt-leb r (2 ^ 53) l ∙ sym (lt-leb x (2 ^ 53) (h.past l))
    go (no l) = ap (λ (y : ℕ). leb y (2 ^ 53)) (h.same (omega arith))

nearly_small : {y : spec.Conversion} {x : Conversion} → Nearly y x → small (conversion_of x) ≡ small y
nearly_small w = rw (held_test w.numerator, held_test w.denominator, w.k)

nearly_is : {y : spec.Conversion} {x : Conversion} → Nearly y x → small (conversion_of x) ≡ true → conversion_of x ≡ y
nearly_is {y} {x} w e =
    let a = leb x.numerator (2 ^ 53) in
    let b = leb x.denominator (2 ^ 53) in
    let n = w.numerator.same (leb-true x.numerator (2 ^ 53) (and_left a _ e)) in
    let d = w.denominator.same (leb-true x.denominator (2 ^ 53) (and_left b _ (and_right a _ e))) in
    λ i. record { number = w.number i; numerator = n i; denominator = d i; k = w.k i }

bounded_is : {y : spec.Conversion} {x : Conversion} → Nearly y x → unless (small (conversion_of x)) 11 (conversion_of x) ≡ bounded y
unfolding bounded unless
bounded_is {y} {x} w = go (small (conversion_of x)) refl ∙ ap (λ (b : Bool). unless b 11 y) (nearly_small w)
  where
    go : (b : Bool) → small (conversion_of x) ≡ b → unless b 11 (conversion_of x) ≡ unless b 11 y
    go true e = nearly_is w e
    go false e = refl

-- TWO READINGS

module _ (a b : Reading) {known : Bool} (k : known ≡ both_known a b) where
  pub unknown_unit : not known ≡ true → refuse_conversion 8 ≡ converted a b
  unfolding converted unless
  unknown_unit t = rw (← k, not-true known t)

  module _ (t : not known ≡ false) {zs ys : Sums} (u : SumsOf zs a) (v : SumsOf ys b) {same : Bool} (s : same ≡ same_exponents (map exponent zs.bases) (map exponent ys.bases)) where
    same_is : same ≡ same_exponents a.dimensions b.dimensions
    same_is = s ∙ (λ i. same_exponents (u.dimensions i) (v.dimensions i))

    pub other_dimensions : not same ≡ true → refuse_conversion 9 ≡ converted a b
    unfolding converted unless
    other_dimensions l = rw (← k, not-false known t, ← same_is, not-true same l)

    module _ (l : not same ≡ false) {ratio : ScaleRatio} (r : ratio_in ratio ≡ over (scale_in zs.primes) (scale_in ys.primes)) {whole : Bool} (w : whole ≡ all_whole (ratio_in ratio)) where
      over_is : over a.scale b.scale ≡ ratio_in ratio
      over_is = sym (r ∙ (λ i. over (u.scale i) (v.scale i)))

      by_ratio : converted a b ≡ unless whole 10 (bounded (fraction_of (ratio_in ratio)))
      unfolding converted unless
      by_ratio = rw (← k, not-false known t, ← same_is, not-false same l, over_is, ← w)

      pub no_fraction : not whole ≡ true → refuse_conversion 10 ≡ converted a b
      unfolding unless
      no_fraction o = sym (by_ratio ∙ rw (not-true whole o))

      module _ (o : not whole ≡ false) {x : Conversion} (n : Nearly (fraction_of (ratio_in ratio)) x) {tiny : Bool} (e : tiny ≡ small (conversion_of x)) where
        by_limits : unless tiny 11 (conversion_of x) ≡ converted a b
        unfolding unless
        by_limits = ap (λ (y : Bool). unless y 11 (conversion_of x)) e ∙ bounded_is n ∙ sym (by_ratio ∙ rw (not-false whole o))

        pub large_fraction : not tiny ≡ true → refuse_conversion 11 ≡ converted a b
        unfolding unless
        large_fraction p = rw (not-true tiny p) at by_limits

        pub fraction_given : not tiny ≡ false → conversion_of x ≡ converted a b
        unfolding unless
        fraction_given p = rw (not-false tiny p) at by_limits

-- TWO LABELS

refused_test : (e : Refusal) → eqb (number_of e) 0 ≡ false
refused_test e = ne_eqb (number_of e) 0 (λ z. absurd (omega (arith, refusal_some e)))

module _ (n : ℕ) (s : List ℕ) (m : ℕ) (t : List ℕ) where
  pub first_refused : (e : Refusal) → number_of e ≡ (reading n s).number → refuse_conversion (number_of e) ≡ conversion n s m t
  unfolding conversion unless
  first_refused e h = rw (← h, refused_test e)

  module _ {zs : Sums} {a : Answer} (w : SummedReading n s zs a) where
    -- what is answered where the first label is accepted
    second_asked : conversion n s m t ≡ unless (eqb (reading m t).number 0) (reading m t).number (converted (reading n s) (reading m t))
    unfolding conversion unless
    second_asked = ap (λ (x : ℕ). unless (eqb x 0) x (unless (eqb (reading m t).number 0) (reading m t).number (converted (reading n s) (reading m t)))) w.number

    pub second_refused : (e : Refusal) → number_of e ≡ (reading m t).number → refuse_conversion (number_of e) ≡ conversion n s m t
    unfolding unless
    second_refused e h = sym (second_asked ∙ rw (← h, refused_test e))

    pub both_accepted : {ys : Sums} {b : Answer} → SummedReading m t ys b → {known : Bool} → known ≡ (a.verdicts.known && b.verdicts.known) → {z : spec.Conversion}
        → ((x y : Reading) → known ≡ both_known x y → SumsOf zs x → SumsOf ys y → z ≡ converted x y) → z ≡ conversion n s m t
    unfolding unless
    both_accepted v k f =
        f (reading n s) (reading m t) (k ∙ (λ i. w.known i && v.known i)) w.sums v.sums
        ∙ sym (second_asked ∙ ap (λ (x : ℕ). unless (eqb x 0) x (converted (reading n s) (reading m t))) v.number)
