-- Numbers as they are written: sizes of signed numbers, digits, denominators.
use Prim.Native.Nat.{ℕ, zero, suc, ◌+◌, ◌*◌, ◌-◌, ◌/◌, ◌%◌, ◌≤◌, ◌<◌}
use native.Mathlib.Omega.{arith}
use native.Mathlib.Nat.{mod-eq_of_lt}
use native.Mathlib.Numerals.{add-one}
use mathlib.Core.Path.{◌≡◌, refl, sym, ap, ◌∙◌}
use mathlib.Core.Bool.{Bool, true, false}
use mathlib.Core.List.{List, [], ◌∷◌, ◌++◌, append_assoc}
use lib.Dec.{leb}
use lib.IntN.{ℤ, pos, negsuc}
use lib.ListN.{get_or, drop, drop_of_length-le}
use lib.Seq.{drop-cons}
use lib.Signed.{lt_z}
use mir.Syntax.{w32}
use mir.Val.{SFits, to_z, of_z}
use mir.Facts.{to_z-of_z}
use borrow.Author.Tests.{le-ltb, lt-leb, le-leb, eq-eqb, ne_eqb}
use Rattle.label.specs.Reading.{exponent}
use Rattle.label.specs.Limits.{negative, denominator_among, denominator_of, divisors, lowest_terms}
use Rattle.label.proofs.Figures.{lowered}
use Rattle.label.specs.Writing.{figures_before}

-- SIGNED NUMBERS OF 32 BITS

sign_of : (z : ℤ) → lt_z z (pos 0) ≡ negative z
sign_of (pos n) = le-ltb n 0 (omega arith)
sign_of (negsuc n) = refl

pub is_below : {z : ℤ} → SFits w32 z → lt_z (to_z w32 (of_z w32 z)) (pos 0) ≡ negative z
is_below {z} f = rw (to_z-of_z f) (sign_of z)

-- DIGITS

-- digits before others
figures_append : (f n : ℕ) (ds : List ℕ) → figures_before f n ds ≡ figures_before f n [] ++ ds
unfolding figures_before
figures_append zero n ds = refl
figures_append (suc f) n ds = go (leb 10 n) (figures_append f (n / 10) ((48 + n % 10) ∷ ds)) (figures_append f (n / 10) ((48 + n % 10) ∷ []))
  where
    go : (b : Bool) → figures_before f (n / 10) ((48 + n % 10) ∷ ds) ≡ figures_before f (n / 10) [] ++ ((48 + n % 10) ∷ ds)
        → figures_before f (n / 10) ((48 + n % 10) ∷ []) ≡ figures_before f (n / 10) [] ++ ((48 + n % 10) ∷ [])
        → elim b as (λ (z : Bool). List ℕ) [ true ↦ figures_before f (n / 10) ((48 + n % 10) ∷ ds) | false ↦ (48 + n) ∷ ds ]
        ≡ (elim b as (λ (z : Bool). List ℕ) [ true ↦ figures_before f (n / 10) ((48 + n % 10) ∷ []) | false ↦ (48 + n) ∷ [] ]) ++ ds
    go true p q = p ∙ sym (append_assoc (figures_before f (n / 10) []) ((48 + n % 10) ∷ []) ds) ∙ ap (λ (l : List ℕ). l ++ ds) (sym q)
    go false p q = refl

pub figures_none : (most n : ℕ) → most ≡ 0 → figures_before most n [] ≡ []
unfolding figures_before
figures_none most n e = rw e

pub figures_one : (most n : ℕ) → (most ≡ 0 → ⊥) → n < 10 → figures_before most n [] ≡ (48 + n % 10) ∷ []
unfolding figures_before
figures_one zero n z h = absurd (z refl)
figures_one (suc f) n z h =
    let e : leb 10 n ≡ false = lt-leb 10 n h in
    let q : n % 10 ≡ n = mod-eq_of_lt h in
    rw (q, e, figures_before)

pub figures_more : (most n : ℕ) → (most ≡ 0 → ⊥) → 10 ≤ n → figures_before most n [] ≡ figures_before (most - 1) (n / 10) [] ++ ((48 + n % 10) ∷ [])
unfolding figures_before
figures_more zero n z h = absurd (z refl)
figures_more (suc f) n z h =
    let e : suc f - 1 ≡ f = omega arith in
    rw (e, le-leb 10 n h, figures_before) (figures_append f (n / 10) ((48 + n % 10) ∷ []))

-- DENOMINATORS

-- the divisor at place i is tried: the search ends with it, or goes on
module _ (e i q : ℕ) (d : ℕ) (h : i < 12) (g : q ≡ get_or divisors i d) where
  divisor_here : drop i divisors ≡ q ∷ drop (i + 1) divisors
  divisor_here = rw (add-one i, g) (drop-cons divisors i d h)

  pub divides : e * q % 60 ≡ 0 → denominator_among e (drop i divisors) ≡ q
  unfolding denominator_among
  divides f = rw divisor_here (rw (eq-eqb (e * q % 60) 0 f, denominator_among))

  pub divides_not : (e * q % 60 ≡ 0 → ⊥) → denominator_among e (drop i divisors) ≡ denominator_among e (drop (i + 1) divisors)
  unfolding denominator_among
  divides_not f = rw divisor_here (rw (ne_eqb (e * q % 60) 0 f, denominator_among))

pub no_divisor : (e i : ℕ) → 12 ≤ i → denominator_among e (drop i divisors) ≡ 60
unfolding denominator_among
no_divisor e i h = rw (drop_of_length-le divisors {i = i} h)

-- what is found is the denominator of so many sixtieths, and at most 60
pub found : (e r : ℕ) → denominator_among e divisors ≡ r → (r ≡ denominator_of (pos e)) × (r ≤ 60)
unfolding denominator_of lowest_terms
found e r h = let w = (lowered (exponent (pos e))).within in (sym h, omega (arith, h, w))
