-- The number that a conversion answers, and what the buffer holds then.
use Prim.Native.Nat.{ℕ, ◌<◌, ◌^◌, min}
use native.Mathlib.Omega.{arith}
use mathlib.Core.Path.{◌≡◌, sym, ap, ◌∙◌}
use mathlib.Core.List.{List, [], ◌∷◌, ◌++◌}
use lib.IntN.{ℤ, pos}
use lib.ListN.{length, take, drop}
use lib.Seq.{take_all}
use mir.Syntax.{w32, w64}
use mir.Val.{SFits, to_z, of_z}
use mir.Facts.{to_z_pos}
use borrow.Author.Tests.{ne_eqb}
use Rattle.std.specs.Prelude.{Err}
use Rattle.label.specs.declared.Refusal.{Refusal}
use Rattle.label.specs.Refusals.{number_of}
use Rattle.label.specs.Conversion as spec
use Rattle.claims.specs.Converting.{Limits}
use Rattle.record.proofs.Fielding.{widened_is}
use Rattle.conversion.specs.declared.answer.Conversion.{Conversion}
use Rattle.conversion.specs.Answers.{conversion_of, conversion_in}
use Rattle.reading.proofs.Answering.{refusal_some}
use Rattle.record.specs.Record.{encoded, written_over}
use Rattle.typing.proofs.WrittenOver.{written_cut}
use Rattle.face.specs.ConversionRecord.{conversion_size, conversion_fields, conversion_record, conversion_after}

-- THE RECORD

-- the numbers of an accepted conversion, as the machine holds them
abbrev held : ℤ → Conversion → List ℤ
held k x = pos 0 ∷ to_z w64 x.numerator ∷ to_z w64 x.denominator ∷ to_z w64 (of_z w64 k) ∷ []

module _ (x : Conversion) (h : (x.numerator < 2 ^ 63) × (x.denominator < 2 ^ 63)) (f : SFits w32 x.k.0) {k : ℤ} (tens : k ≡ to_z w32 (of_z w32 x.k.0)) where
  held_are : held k x ≡ conversion_fields (conversion_of x)
  held_are = rw (tens, to_z_pos w64 h.0, to_z_pos w64 h.1, widened_is f)

  module _ (w : List ℕ) (l : length w ≡ conversion_size) (e : take conversion_size w ≡ encoded (held k x)) where
    record_is : w ≡ conversion_record (conversion_of x)
    unfolding conversion_record
    record_is = sym (take_all conversion_size w (omega (arith, l))) ∙ e ∙ ap encoded held_are

    -- as much of the record as fits
    pub record_written : (b : List ℕ) {size : ℕ} {c : List ℕ} → size ≡ min (length b) conversion_size → c ≡ take size w
        → c ++ drop size b ≡ written_over (conversion_record (conversion_of x)) b
    record_written b {size} e q =
        ap (λ (xs : List ℕ). xs ++ drop size b) q ∙ written_cut w b size (omega (arith, e, l)) ∙ ap (λ (xs : List ℕ). written_over xs b) record_is

-- THE ANSWER

-- a refusal changes no byte
pub refused : (e : Refusal) {y : spec.Conversion} → conversion_in (Err e) ≡ y → (b : List ℕ) → b ≡ conversion_after y b
unfolding conversion_after
refused e {y} q b =
    let number_is : number_of e ≡ y.number = ap (λ (z : spec.Conversion). z.number) q in
    rw (← number_is, ne_eqb (number_of e) 0 (λ z. absurd (omega (arith, refusal_some e))))

module _ (x : Conversion) {y : spec.Conversion} (e : conversion_of x ≡ y) where
  pub fits : Limits y → (x.numerator < 2 ^ 63) × (x.denominator < 2 ^ 63)
  fits l = (
    omega (arith, ap (λ (z : spec.Conversion). z.numerator) e, l.numerator),
    omega (arith, ap (λ (z : spec.Conversion). z.denominator) e, l.denominator),
  )

  -- an accepted conversion writes its record
  pub accepted : (b : List ℕ) {c : List ℕ} → c ≡ written_over (conversion_record (conversion_of x)) b → c ≡ conversion_after y b
  unfolding conversion_after
  accepted b q = rw (← e) q
