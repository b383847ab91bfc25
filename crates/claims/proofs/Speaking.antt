-- What speaking answers with a lent buffer: a refusal of reading, 14 or the words.
use Prim.Native.Nat.{ℕ, ◌≤◌, ◌<◌}
use native.Mathlib.Omega.{arith}
use mathlib.Core.Path.{◌≡◌, refl, sym, ◌∙◌}
use mathlib.Core.Bool.{Bool, true, false}
use mathlib.Core.List.{List, []}
use mathlib.Core.Logic.{◌↔◌, ◌⊎◌, inl, inr}
use lib.Dec.{eqb, leb}
use lib.ListN.{length}
use borrow.Author.Tests.{eqb-true, eqb-false, leb-true, leb-false, le-leb}
use Rattle.label.specs.Split.{Refused}
use Rattle.label.specs.Reading.{reading}
use Rattle.label.specs.Writing.{Rewriting, refuse_rewriting, unless, fitted}
use Rattle.label.specs.Words.{spoken, speaking, speaking_into}
use Rattle.label.proofs.Refusals.{bounds}
use Rattle.label.proofs.Readings.{number_refused}

-- an answer, with why
data Speaks (size n : ℕ) (s : List ℕ) : Rewriting → Type 0 where
  refusing : {i : ℕ} → Refused i n s → Speaks size n s (refuse_rewriting i)
  lacking : (reading n s).number ≡ 0 → size < length (spoken (reading n s)) → Speaks size n s (refuse_rewriting 14)
  uttering : (reading n s).number ≡ 0 → length (spoken (reading n s)) ≤ size → Speaks size n s (record { number = 0; text = spoken (reading n s) })

module _ (size n : ℕ) (s : List ℕ) where
  fitting : (reading n s).number ≡ 0 → Speaks size n s (fitted size (record { number = 0; text = spoken (reading n s) }))
  unfolding fitted unless
  fitting z = go (leb (length (spoken (reading n s))) size) refl
    where
      go : (b : Bool) → leb (length (spoken (reading n s))) size ≡ b → Speaks size n s (unless b 14 (record { number = 0; text = spoken (reading n s) }))
      go true e = Speaks.uttering z (leb-true (length (spoken (reading n s))) size e)
      go false e = Speaks.lacking z (leb-false (length (spoken (reading n s))) size e)

  refused_first : (i : ℕ) → Refused i n s → Speaks size n s (fitted size (refuse_rewriting i))
  unfolding fitted unless
  refused_first i d = rw (le-leb 0 size (omega arith)) (Speaks.refusing d)

  speaks : Speaks size n s (speaking_into size n s)
  unfolding speaking_into speaking unless
  speaks = go (eqb (reading n s).number 0) refl
    where
      go : (b : Bool) → eqb (reading n s).number 0 ≡ b
          → Speaks size n s (fitted size (unless b (reading n s).number (record { number = 0; text = spoken (reading n s) })))
      go true e = fitting (eqb-true (reading n s).number 0 e)
      go false e = refused_first (reading n s).number ((number_refused n s (reading n s).number (omega (arith, eqb-false (reading n s).number 0 e))).0 refl)

  pub refusals_of_reading : (i : ℕ) → 1 ≤ i → i ≤ 7 → ((speaking_into size n s).number ≡ i) ↔ Refused i n s
  refusals_of_reading i l h = ((λ e. there (speaking_into size n s) speaks e), (λ d. back (speaking_into size n s) speaks d))
    where
      there : (x : Rewriting) → Speaks size n s x → x.number ≡ i → Refused i n s
      there x (Speaks.refusing d) e = rw e at d
      there x (Speaks.lacking z g) e = absurd (omega arith)
      there x (Speaks.uttering z g) e = absurd (omega arith)

      back : (x : Rewriting) → Speaks size n s x → Refused i n s → x.number ≡ i
      back x (Speaks.refusing {i = j} c) d = sym ((number_refused n s j (bounds c.holds).0).1 c) ∙ (number_refused n s i l).1 d
      back x (Speaks.lacking z g) d = absurd (omega (arith, (number_refused n s i l).1 d))
      back x (Speaks.uttering z g) d = absurd (omega (arith, (number_refused n s i l).1 d))

  pub fourteen_if_longer : ((speaking_into size n s).number ≡ 14) ↔ (((reading n s).number ≡ 0) × (size < length (spoken (reading n s))))
  fourteen_if_longer = ((λ e. there (speaking_into size n s) speaks e), (λ w. back (speaking_into size n s) speaks w.0 w.1))
    where
      there : (x : Rewriting) → Speaks size n s x → x.number ≡ 14 → ((reading n s).number ≡ 0) × (size < length (spoken (reading n s)))
      there x (Speaks.refusing d) e = absurd (omega (arith, bounds d.holds))
      there x (Speaks.lacking z g) e = (z, g)
      there x (Speaks.uttering z l) e = absurd (omega arith)

      back : (x : Rewriting) → Speaks size n s x → (reading n s).number ≡ 0 → size < length (spoken (reading n s)) → x.number ≡ 14
      back x (Speaks.refusing {i = j} d) z g = absurd (omega (arith, bounds d.holds, (number_refused n s j (bounds d.holds).0).1 d))
      back x (Speaks.lacking y h) z g = refl
      back x (Speaks.uttering y l) z g = absurd (omega arith)

  pub seven_or_fourteen : ((speaking_into size n s).number ≤ 7) ⊎ ((speaking_into size n s).number ≡ 14)
  seven_or_fourteen = go (speaking_into size n s) speaks
    where
      go : (x : Rewriting) → Speaks size n s x → (x.number ≤ 7) ⊎ (x.number ≡ 14)
      go x (Speaks.refusing d) = inl (bounds d.holds).1
      go x (Speaks.lacking z g) = inr refl
      go x (Speaks.uttering z l) = inl (omega arith)

  pub words_with_zero : (speaking_into size n s).number ≡ 0 → ((reading n s).number ≡ 0) × ((speaking_into size n s).text ≡ spoken (reading n s))
  words_with_zero = go (speaking_into size n s) speaks
    where
      go : (x : Rewriting) → Speaks size n s x → x.number ≡ 0 → ((reading n s).number ≡ 0) × (x.text ≡ spoken (reading n s))
      go x (Speaks.refusing d) e = absurd (omega (arith, bounds d.holds))
      go x (Speaks.lacking z g) e = absurd (omega arith)
      go x (Speaks.uttering z l) e = (z, refl)

  pub no_words_with_others : 1 ≤ (speaking_into size n s).number → (speaking_into size n s).text ≡ []
  no_words_with_others = go (speaking_into size n s) speaks
    where
      go : (x : Rewriting) → Speaks size n s x → 1 ≤ x.number → x.text ≡ []
      go x (Speaks.refusing d) h = refl
      go x (Speaks.lacking z g) h = refl
      go x (Speaks.uttering z l) h = absurd (omega arith)
