-- `lowest_terms` gives lowest terms: a test over the sixty remainders, and the law that turns it into the rule.
use Prim.Native.Nat.{ℕ, zero, suc, ◌≤◌, ◌<◌, ◌+◌, ◌*◌, ◌/◌, ◌%◌}
use native.Mathlib.Omega.{arith}
use native.Mathlib.Decide.{dec_lt}
use native.Mathlib.Nat.{mul_assoc, mul_comm, add-mul, mod-lt, div-add-mod', add-mul-mod_self_right, mul-mod_left}
use mathlib.Core.Path.{◌≡◌, refl, sym, ap, ◌∙◌}
use mathlib.Core.Bool.{Bool, true, false, ◌&&◌, ◌||◌, not}
use mathlib.Core.List.{List, [], ◌∷◌}
use lib.Dec.{eqb, leb}
use lib.IntN.{nat_abs}
use borrow.Author.Tests.{eqb-true, eq-eqb, ne_eqb, leb-true}
use Rattle.label.specs.declared.Exponent.{Exponent}
use Rattle.label.specs.Limits.{parts_of_one, signed, denominator_among, denominator_of, negative, lowest_terms, divisors}
use Rattle.label.proofs.Basics.{false_true, all_below, at_below}
use Rattle.claims.specs.Claims.{LowestTerms}

-- THE TEST

two : (a b : Bool) → (a && b) ≡ true → (a ≡ true) × (b ≡ true)
two true b t = (refl, t)
two false b t = absurd (false_true t)

-- y is no denominator of m sixtieths, or not less than q
no_less : ℕ → ℕ → ℕ → Bool
no_less m q y = eqb y 0 || (not (eqb (m * y % parts_of_one) 0) || leb q y)

-- the denominator of m sixtieths is one, from 1 to 60, and none below 60 is less
fits : ℕ → Bool
fits m =
    eqb (m * denominator_among m divisors % parts_of_one) 0
    && (leb 1 (denominator_among m divisors)
    && (leb (denominator_among m divisors) parts_of_one
    && all_below (no_less m (denominator_among m divisors)) parts_of_one))

all_fit : all_below fits parts_of_one ≡ true
unfolding all_below fits no_less denominator_among
all_fit = refl

-- THE LAW

-- only what is left of a after its sixties counts
rest : (a q : ℕ) → a * q % parts_of_one ≡ a % parts_of_one * q % parts_of_one
rest a q =
    ap (λ (x : ℕ). x * q % parts_of_one) (sym (div-add-mod' a parts_of_one))
    ∙ ap (λ (x : ℕ). x % parts_of_one) (add-mul (a / parts_of_one * parts_of_one) (a % parts_of_one) q ∙ turned)
    ∙ add-mul-mod_self_right (a % parts_of_one * q) (a / parts_of_one * q) parts_of_one
  where
    turned : a / parts_of_one * parts_of_one * q + a % parts_of_one * q ≡ a % parts_of_one * q + a / parts_of_one * q * parts_of_one
    turned = omega (arith, mul_assoc (a / parts_of_one) parts_of_one q, mul_assoc (a / parts_of_one) q parts_of_one, ap (λ (x : ℕ). a / parts_of_one * x) (mul_comm parts_of_one q))

module _ (a q : ℕ) (qs : List ℕ) where
  among_yes : eqb (a * q % parts_of_one) 0 ≡ true → denominator_among a (q ∷ qs) ≡ q
  unfolding denominator_among
  among_yes e = rw (e, denominator_among)

  among_no : eqb (a * q % parts_of_one) 0 ≡ false → denominator_among a (q ∷ qs) ≡ denominator_among a qs
  unfolding denominator_among
  among_no e = rw (e, denominator_among)

among_rest : (a : ℕ) (qs : List ℕ) → denominator_among a qs ≡ denominator_among (a % parts_of_one) qs
unfolding denominator_among
among_rest a [] = refl
among_rest a (q ∷ qs) = go (eqb (a % parts_of_one * q % parts_of_one) 0) refl (among_rest a qs)
  where
    same : eqb (a * q % parts_of_one) 0 ≡ eqb (a % parts_of_one * q % parts_of_one) 0
    same = ap (λ (x : ℕ). eqb x 0) (rest a q)

    go : (b : Bool) → eqb (a % parts_of_one * q % parts_of_one) 0 ≡ b → denominator_among a qs ≡ denominator_among (a % parts_of_one) qs
        → denominator_among a (q ∷ qs) ≡ denominator_among (a % parts_of_one) (q ∷ qs)
    go true e ih = among_yes a q qs (same ∙ e) ∙ sym (among_yes (a % parts_of_one) q qs e)
    go false e ih = among_no a q qs (same ∙ e) ∙ ih ∙ sym (among_no (a % parts_of_one) q qs e)

-- what the test says of a
record Least (a q : ℕ) : Type 0 where
  pub whole : a * q % parts_of_one ≡ 0
  pub positive : 1 ≤ q
  pub within : q ≤ parts_of_one
  pub least : (y : ℕ) → 1 ≤ y → y < parts_of_one → a * y % parts_of_one ≡ 0 → q ≤ y

less : (m q y : ℕ) → no_less m q y ≡ true → 1 ≤ y → m * y % parts_of_one ≡ 0 → q ≤ y
unfolding no_less
less m q y t h e = leb-true q y (rw (ne_eqb y 0 (omega arith), eq-eqb (m * y % parts_of_one) 0 e) at t)

least_rest : (m : ℕ) → fits m ≡ true → Least m (denominator_among m divisors)
unfolding fits
least_rest m t =
    let u = two (eqb (m * denominator_among m divisors % parts_of_one) 0) (leb 1 (denominator_among m divisors) && (leb (denominator_among m divisors) parts_of_one && all_below (no_less m (denominator_among m divisors)) parts_of_one)) t in
    let v = two (leb 1 (denominator_among m divisors)) (leb (denominator_among m divisors) parts_of_one && all_below (no_less m (denominator_among m divisors)) parts_of_one) u.1 in
    let w = two (leb (denominator_among m divisors) parts_of_one) (all_below (no_less m (denominator_among m divisors)) parts_of_one) v.1 in
    record {
      whole = eqb-true (m * denominator_among m divisors % parts_of_one) 0 u.0;
      positive = leb-true 1 (denominator_among m divisors) v.0;
      within = leb-true (denominator_among m divisors) parts_of_one w.0;
      least = λ y h g e. less m (denominator_among m divisors) y (at_below (no_less m (denominator_among m divisors)) parts_of_one w.1 y g) h e;
    }

least_of : (a : ℕ) → Least a (denominator_among a divisors)
least_of a =
    let w = least_rest (a % parts_of_one) (at_below fits parts_of_one all_fit (a % parts_of_one) (mod-lt a {m = parts_of_one} (omega arith))) in
    let e = among_rest a divisors in
    rw e (record {
      whole = rest a (denominator_among (a % parts_of_one) divisors) ∙ w.whole;
      positive = w.positive;
      within = w.within;
      least = λ y h g f. w.least y h g (sym (rest a y) ∙ f);
    })

least_lowest : (a q : ℕ) → Least a q → LowestTerms a parts_of_one (a * q / parts_of_one) q
least_lowest a q w = record {
  equal = omega (arith, div-add-mod' (a * q) parts_of_one, w.whole);
  positive = w.positive;
  least = λ x y h e. go x y h e (dec_lt y parts_of_one);
}
  where
    go : (x y : ℕ) → 1 ≤ y → x * parts_of_one ≡ a * y → Dec (y < parts_of_one) → q ≤ y
    go x y h e (yes g) = w.least y h g (ap (λ (z : ℕ). z % parts_of_one) (sym e) ∙ mul-mod_left x parts_of_one)
    go x y h e (no g) = omega (arith, w.within)

size : (b : Bool) (n : ℕ) → nat_abs (signed b n) ≡ n
size true zero = refl
size true (suc n) = refl
size false n = refl

pub lowest : (e : Exponent)
    → LowestTerms (nat_abs e.0) parts_of_one (nat_abs (lowest_terms e).numerator) (lowest_terms e).denominator
unfolding lowest_terms denominator_of
lowest e =
    rw (size (negative e.0) (nat_abs e.0 * denominator_among (nat_abs e.0) divisors / parts_of_one)) (
    least_lowest (nat_abs e.0) (denominator_among (nat_abs e.0) divisors) (least_of (nat_abs e.0)))
