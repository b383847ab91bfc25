-- Of the powers that a grammar derives, the decimals whose digits are all 0 are zero, and no others; they get refusal 5.
use native.Mathlib.Omega.{arith}
use mathlib.Core.Path.{◌≡◌, refl}
use mathlib.Core.List.{List, ◌++◌}
use mathlib.Core.Logic.{◌↔◌, inl, inr}
use mathlib.Core.Option.{Option, none, some}
use Rattle.label.specs.declared.Rules.{Rules}
use Rattle.label.specs.Bytes.{digit}
use Rattle.label.specs.Lexical.{Written, Part}
use Rattle.label.specs.Limits.{ratio}
use Rattle.label.specs.Split.{Valued, valued, Condition}
use Rattle.label.specs.Meaning.{◌∈◌, ZeroDecimal}
use Rattle.label.proofs.Bounds.{bounds_kept}
use Rattle.label.proofs.Parts.{PartBy, AllParts, label_parts}
use Rattle.label.proofs.Ruled.{derives_by}
use Rattle.label.proofs.Texts.{all_append}
use Rattle.claims.specs.Claims.{ZeroDecimalsAlone, ZeroDecimalsRefused}
use Rattle.claims.proofs.PowerSizes.{PowerRuns, exponent_in_text}
use Rattle.claims.proofs.ZeroNumbers.{zeros_number, number_zeros}

zero_power : {w : Written} → PowerRuns w → ((ratio w).numerator ≡ 0) ↔ ZeroDecimal w
unfolding ratio
zero_power PowerRuns.no_run = ((λ e. absurd (omega arith)), (λ z. absurd z))
zero_power (PowerRuns.whole_run d) = ((λ e. absurd (omega (arith, e, d.positive))), (λ z. absurd z))
zero_power (PowerRuns.decimal_runs {n = n} {ds = ds} d f) = (
  (λ e. number_zeros (n.digits ++ ds) (all_append digit n.digits ds d.all_digits f.all_digits) e),
  (λ z. zeros_number (n.digits ++ ds) z),
)
zero_power (PowerRuns.fraction_runs d f) = ((λ e. absurd (omega (arith, e, d.positive))), (λ z. absurd z))

part_in : {r : Rules} {ps : List Part} → AllParts r ps → (p : Part) → p ∈ ps → PartBy r p
part_in (AllParts.also d ds) p (inl e) = rw e d
part_in (AllParts.also d ds) p (inr m) = part_in ds p m
part_in AllParts.done p m = elim m [ ]

pub zero_decimals_alone : ZeroDecimalsAlone
zero_decimals_alone n s f ps d p m = zero_power (exponent_in_text (part_in (label_parts (derives_by d).2) p m).raised).by_runs

pub zero_decimals_refused : ZeroDecimalsRefused
zero_decimals_refused n s f ps d p m z = Condition.five (f, ps, d, go (valued f ps) refl)
  where
    go : (o : Option Valued) → valued f ps ≡ o → o ≡ none
    go none e = refl
    go (some v) e = absurd (omega (arith, (((bounds_kept f ps).0 (v, e)).1 p m).not_zero, (zero_decimals_alone n s f ps d p m).1 z))
