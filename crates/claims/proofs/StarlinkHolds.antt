-- Starlink's known symbols, and what it writes.
use Prim.Native.Nat.{ℕ}
use mathlib.Core.Path.{◌≡◌, refl, sym, ap}
use mathlib.Core.List.{List}
use lib.IntN.{pos}
use Rattle.label.specs.declared.Tens.{Tens}
use Rattle.label.specs.Notations.{member, starlink, notation}
use Rattle.label.specs.Reading.{reading}
use Rattle.label.specs.Writing.{exponent_text, power_text, name_among, name_in, FactorForm, Rewriting, rewriting, Refuses}
use Rattle.label.proofs.Basics.{false_true}
use Rattle.label.proofs.Computing.{symbols_compute}
use Rattle.label.proofs.Formed.{refuses_answered}
use Rattle.label.proofs.Tables.{starlink_as_ogip, ang_for_angstrom, not_both}
use Rattle.claims.specs.Claims.{StarlinkSymbols, StarlinkWriting}

pub starlink_symbols : StarlinkSymbols
starlink_symbols = record { as_ogip = λ l f g. starlink_as_ogip l f g; ang = ang_for_angstrom; not_both = not_both }

factor_form : {k : Tens} → FactorForm starlink k → k.0 ≡ pos 0
unfolding member
factor_form (FactorForm.omitted e) = e
factor_form (FactorForm.factored e) = absurd (false_true (sym e))

factored_twelve : (n : ℕ) (s : List ℕ) → (reading n s).number ≡ 0 → ((reading n s).k.0 ≡ pos 0 → ⊥) → (rewriting n s starlink).number ≡ 12
unfolding member notation
factored_twelve n s z h = ap (λ (x : Rewriting). x.number) (refuses_answered n s starlink (Refuses.factor_formless z refl (λ f. h (factor_form f))))

pub starlink_writing : StarlinkWriting
unfolding symbols_compute exponent_text power_text name_among name_in
starlink_writing = record {
  exponents = λ e. refl;
  factors = λ n s z h. factored_twelve n s z h;
  in_fits = (59, refl, refl);
  in_ogip = (59, refl, refl);
  in_cds = (59, refl, refl);
  in_vounits = (59, refl, refl);
  from_fits = (59, refl, refl);
  from_ogip = (59, refl, refl);
}
