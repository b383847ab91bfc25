-- A label has values exactly if its factor and its powers keep the bounds of document 01.
use Prim.Native.Nat.{ℕ, ◌≤◌, ◌<◌, ◌*◌}
use native.Mathlib.Omega.{arith}
use native.Mathlib.Decide.{dec_lt, ℕ_discrete}
use native.Mathlib.Nat.{mul-le-mul_right, div-zero}
use mathlib.Core.Path.{◌≡◌, refl}
use mathlib.Core.Bool.{Bool, true, false, ◌&&◌}
use mathlib.Core.List.{List, [], ◌∷◌}
use mathlib.Core.Option.{Option, none, some}
use mathlib.Core.Logic.{◌↔◌, inl, inr}
use lib.Dec.{leb}
use lib.ListN.{length}
use borrow.Author.Tests.{leb-true, le-leb}
use Rattle.label.specs.declared.Tens.{Tens}
use Rattle.label.specs.Choice.{pick}
use Rattle.label.specs.Lexical.{Written, unwritten, whole, decimal, fraction, Factor, no_factor, ten_to, zeros, Part}
use Rattle.label.specs.Limits.{number, short, Ratio, ratio, in_sixtieths, sixtieths, bounded, exponent_in, exponent_of, k_of, parts_of_one, largest_k, most_sixtieths, largest_exponent}
use Rattle.label.specs.Split.{Placed, Valued, valued_unit, valued_units, valued_with, valued}
use Rattle.label.specs.Meaning.{◌∈◌, digit_runs, PowerKeeps, FactorKeeps}
use Rattle.label.proofs.Basics.{none_some, and_left, and_right}
use Rattle.label.proofs.Exponents.{whole_sixtieths, exponent_kept}
use Rattle.label.proofs.Refusals.{Values, valued_values}

-- a value that is given
abbrev Given : {A : Type 0} → Option A → Type 0
Given {A} o = (a : A) × (o ≡ some a)

pick_given : {A : Type 0} (b : Bool) (a : A) → Given (pick b (some a) none) → b ≡ true
pick_given true a g = refl
pick_given false a g = absurd (none_some g.1)

-- POWERS

runs_short : (w : Written) → (ratio w).short ≡ true → (ds : List ℕ) → ds ∈ digit_runs w → length ds ≤ 4
unfolding ratio
runs_short (whole n) e ds (inl q) = rw q (leb-true (length n.digits) 4 e)
runs_short (decimal n es) e ds (inl q) = rw q (leb-true (length n.digits) 4 (and_left (short n.digits) (short es) e))
runs_short (decimal n es) e ds (inr (inl q)) = rw q (leb-true (length es) 4 (and_right (short n.digits) (short es) e))
runs_short (fraction n es) e ds (inl q) = rw q (leb-true (length n.digits) 4 (and_left (short n.digits) (short es) e))
runs_short (fraction n es) e ds (inr (inl q)) = rw q (leb-true (length es) 4 (and_right (short n.digits) (short es) e))
runs_short unwritten e ds f = elim f [ ]
runs_short (whole n) e ds (inr f) = elim f [ ]
runs_short (decimal n es) e ds (inr (inr f)) = elim f [ ]
runs_short (fraction n es) e ds (inr (inr f)) = elim f [ ]

short_runs : (w : Written) → ((ds : List ℕ) → ds ∈ digit_runs w → length ds ≤ 4) → (ratio w).short ≡ true
unfolding ratio
short_runs unwritten h = refl
short_runs (whole n) h = le-leb (length n.digits) 4 (h n.digits (inl refl))
short_runs (decimal n es) h = rw (le-leb (length n.digits) 4 (h n.digits (inl refl)), le-leb (length es) 4 (h es (inr (inl refl))))
short_runs (fraction n es) h = rw (le-leb (length n.digits) 4 (h n.digits (inl refl)), le-leb (length es) 4 (h es (inr (inl refl))))

-- 99 is 5,940 sixtieths
numerator_within : (q : Ratio) → in_sixtieths q ≡ true → sixtieths q ≤ most_sixtieths → q.numerator ≤ largest_exponent * q.denominator
numerator_within q e h = omega (arith, whole_sixtieths q e, mul-le-mul_right q.denominator h)

sixtieths_within : (q : Ratio) → in_sixtieths q ≡ true → q.numerator ≤ largest_exponent * q.denominator → sixtieths q ≤ most_sixtieths
sixtieths_within q e h = go (ℕ_discrete q.denominator 0) (dec_lt most_sixtieths (sixtieths q))
  where
    go : Dec (q.denominator ≡ 0) → Dec (most_sixtieths < sixtieths q) → sixtieths q ≤ most_sixtieths
    go (yes z) d = rw (z, div-zero (parts_of_one * q.numerator)) (omega arith)
    go (no z) (yes d) = absurd (omega (arith, whole_sixtieths q e, mul-le-mul_right q.denominator d))
    go (no z) (no d) = omega arith

bounded_given : (turned : Bool) (q : Ratio) → bounded q ≡ true → Given (exponent_in turned q)
unfolding exponent_in
bounded_given turned q e = rw e (_, refl)

power_keeps : (turned : Bool) (w : Written) → Given (exponent_of turned w) → PowerKeeps w
unfolding exponent_of
power_keeps turned w g =
    let k = exponent_kept turned (ratio w) g.0 g.1 in
    record { runs = runs_short w k.short; not_zero = k.not_zero; sixtieths = k.whole; size = numerator_within (ratio w) k.whole k.small }

keeps_power : (turned : Bool) (w : Written) → PowerKeeps w → Given (exponent_of turned w)
unfolding exponent_of
keeps_power turned w k =
    bounded_given turned (ratio w)
    (all_four (ratio w).short (leb 1 (ratio w).numerator) (in_sixtieths (ratio w)) (leb (sixtieths (ratio w)) most_sixtieths) (short_runs w k.runs)
    (le-leb 1 (ratio w).numerator k.not_zero) k.sixtieths (le-leb (sixtieths (ratio w)) most_sixtieths (sixtieths_within (ratio w) k.sixtieths k.size)))
  where
    all_four : (a b c d : Bool) → a ≡ true → b ≡ true → c ≡ true → d ≡ true → (a && (b && (c && d))) ≡ true
    all_four a b c d p q r t = rw (p, q, r, t)

-- FACTORS

factor_keeps : (f : Factor) → Given (k_of f) → FactorKeeps f
unfolding k_of
factor_keeps no_factor g = FactorKeeps.absent
factor_keeps (ten_to n) g =
    let e = pick_given (short n.digits && leb (number n.digits) largest_k) _ g in
    FactorKeeps.integer
    (leb-true (length n.digits) 4 (and_left (short n.digits) (leb (number n.digits) largest_k) e))
    (leb-true (number n.digits) largest_k (and_right (short n.digits) (leb (number n.digits) largest_k) e))
factor_keeps (zeros k) g = FactorKeeps.plain (leb-true k largest_k (pick_given (leb k largest_k) _ g))

keeps_factor : (f : Factor) → FactorKeeps f → Given (k_of f)
unfolding k_of
keeps_factor f FactorKeeps.absent = (_, refl)
keeps_factor f (FactorKeeps.integer {n = n} a b) = rw (le-leb (length n.digits) 4 a, le-leb (number n.digits) largest_k b) (_, refl)
keeps_factor f (FactorKeeps.plain {k = k} a) = rw (le-leb k largest_k a) (_, refl)

-- LABELS

values_keep : {ps : List Part} {us : List Placed} → Values ps us → (p : Part) → p ∈ ps → PowerKeeps p.power
values_keep (Values.value {p = x} {e = e} h vs) p (inl q) = rw q (power_keeps x.turned x.power (e, h))
values_keep (Values.value h vs) p (inr g) = values_keep vs p g
values_keep Values.no_values p q = elim q [ ]

keep_values : (ps : List Part) → ((p : Part) → p ∈ ps → PowerKeeps p.power) → Given (valued_units ps)
unfolding valued_units valued_unit
keep_values [] h = (_, refl)
keep_values (p ∷ ps) h =
    let e = keeps_power p.turned p.power (h p (inl refl)) in
    let us = keep_values ps (λ q g. h q (inr g)) in
    rw (e.1, us.1) (_, refl)

factor_given : (f : Factor) (ps : List Part) (v : Valued) → valued f ps ≡ some v → Given (k_of f)
unfolding valued valued_with
factor_given f ps v h = go (k_of f) (valued_units ps) refl h
  where
    go : (o : Option Tens) (us : Option (List Placed)) → k_of f ≡ o → valued_with o us ≡ some v → Given (k_of f)
    go none us e h = absurd (none_some h)
    go (some k) us e h = (k, e)

pub bounds_kept : (f : Factor) (ps : List Part) → ((v : Valued) × (valued f ps ≡ some v)) ↔ (FactorKeeps f × ((p : Part) → p ∈ ps → PowerKeeps p.power))
unfolding valued valued_with
bounds_kept f ps = (
  (λ g. (factor_keeps f (factor_given f ps g.0 g.1), values_keep (valued_values f ps g.0 g.1))),
  (λ k. let e = keeps_factor f k.0 in let us = keep_values ps k.1 in rw (e.1, us.1) (_, refl)),
)
