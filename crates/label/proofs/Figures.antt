-- Numbers written and read back: digits, exponents in lowest terms, and k.
use Prim.Native.Nat.{ℕ, zero, suc, ◌+◌, ◌*◌, ◌-◌, ◌/◌, ◌%◌, ◌^◌, ◌≤◌, ◌<◌}
use native.Mathlib.Omega.{arith}
use native.Mathlib.Nat.{mod-lt, div-add-mod', mul-mod_left, mul-div_cancel, mul-le-mul}
use mathlib.Core.Path.{◌≡◌, refl, ap, ◌∙◌}
use mathlib.Core.Bool.{Bool, true, false, ◌&&◌}
use mathlib.Core.List.{List, [], ◌∷◌}
use mathlib.Core.Option.{some}
use lib.Dec.{T, eqb, leb, leb→le}
use lib.IntN.{ℤ, pos, negsuc, nat_abs}
use lib.ListN.{length}
use borrow.Author.Tests.{eqb-true, leb-true, leb-false, le-leb}
use Rattle.label.specs.declared.Exponent.{Exponent}
use Rattle.label.specs.Bytes.{digit, nonzero, all}
use Rattle.label.specs.Lexical.{Unsigned}
use Rattle.label.specs.Limits.{number_from, number, signed, exponent_in, negative, denominator_among, denominator_of, lowest_terms, parts_of_one, most_sixtieths, divisors}
use Rattle.label.specs.Writing.{figures_before, figures}
use Rattle.label.proofs.Basics.{both, T_and}

-- DIGITS

-- what the digits of n before others are
record Figured (f n : ℕ) (ds s : List ℕ) : Type 0 where
  unsigned : Unsigned s
  short : length s ≤ f + length ds
  value : number_from 0 s ≡ number_from n ds

digit_of : (d : ℕ) → d < 10 → T (digit (48 + d))
unfolding digit
digit_of d h = rw (le-leb 48 (48 + d) (omega arith), le-leb (48 + d) 57 (omega arith)) tt

nonzero_of : (d : ℕ) → 1 ≤ d → d < 10 → T (nonzero (48 + d))
unfolding nonzero
nonzero_of d h g = rw (le-leb 49 (48 + d) (omega arith), le-leb (48 + d) 57 (omega arith)) tt

one_figure : (f n : ℕ) (ds : List ℕ) → 1 ≤ n → n < 10 → T (all digit ds) → Figured (suc f) n ds ((48 + n) ∷ ds)
unfolding number_from
one_figure f n ds h g t =
    let e : 0 * 10 + (48 + n - 48) ≡ n = omega arith in
    record { unsigned = Unsigned.unsigned (nonzero_of n h g) t; short = omega arith; value = rw e }

next_digit : (d : ℕ) (ds : List ℕ) → d < 10 → T (all digit ds) → T (all digit ((48 + d) ∷ ds))
unfolding all
next_digit d ds h t = T_and (digit (48 + d)) (all digit ds) (digit_of d h) t

next_value : (n d : ℕ) (ds : List ℕ) → number_from n ((48 + d) ∷ ds) ≡ number_from (n * 10 + d) ds
unfolding number_from
next_value n d ds = let e : 48 + d - 48 ≡ d = omega arith in rw e

more_figures : (f n : ℕ) (ds s : List ℕ) → Figured f (n / 10) ((48 + n % 10) ∷ ds) s → Figured (suc f) n ds s
more_figures f n ds s w = record {
  unsigned = w.unsigned;
  short = omega (arith, w.short);
  value = w.value ∙ next_value (n / 10) (n % 10) ds ∙ ap (λ (x : ℕ). number_from x ds) (div-add-mod' n 10);
}

figured : (f n : ℕ) (ds : List ℕ) → 1 ≤ n → n < 10 ^ f → T (all digit ds) → Figured f n ds (figures_before f n ds)
unfolding figures_before
figured zero n ds h g t = absurd (omega arith)
figured (suc f) n ds h g t = go (leb 10 n) refl (λ l. figured f (n / 10) ((48 + n % 10) ∷ ds) (low l) high (next_digit (n % 10) ds below t))
  where
    below : n % 10 < 10
    below = mod-lt n {m = 10} (omega arith)

    low : 10 ≤ n → 1 ≤ n / 10
    low l = omega (arith, div-add-mod' n 10, below)

    high : n / 10 < 10 ^ f
    high = omega (arith, div-add-mod' n 10, g)

    go : (b : Bool) → leb 10 n ≡ b → (10 ≤ n → Figured f (n / 10) ((48 + n % 10) ∷ ds) (figures_before f (n / 10) ((48 + n % 10) ∷ ds)))
        → Figured (suc f) n ds (elim b as (λ (z : Bool). List ℕ) [ true ↦ figures_before f (n / 10) ((48 + n % 10) ∷ ds) | false ↦ (48 + n) ∷ ds ])
    go true e ih = more_figures f n ds _ (ih (leb-true 10 n e))
    go false e ih = one_figure f n ds h (leb-false 10 n e) t

-- a number from 1 to 9,999 as written
pub record Digited (n : ℕ) (s : List ℕ) : Type 0 where
  pub unsigned : Unsigned s
  pub short : leb (length s) 4 ≡ true
  pub value : number s ≡ n

pub figures_of : (n : ℕ) → 1 ≤ n → n < 10_000 → Digited n (figures n)
unfolding figures number number_from all
figures_of n h g =
    let w = figured 4 n [] h g tt in
    record { unsigned = w.unsigned; short = le-leb (length (figures_before 4 n [])) 4 w.short; value = w.value }

-- SIGNS

pub signed_size : (z : ℤ) → signed (negative z) (nat_abs z) ≡ z
signed_size (pos n) = refl
signed_size (negsuc n) = refl

pub size_signed : (b : Bool) (n : ℕ) → nat_abs (signed b n) ≡ n
size_signed true zero = refl
size_signed true (suc n) = refl
size_signed false n = refl

-- LOWEST TERMS

among_whole : (e : ℕ) (qs : List ℕ) → e * denominator_among e qs % parts_of_one ≡ 0
unfolding denominator_among
among_whole e [] = mul-mod_left e parts_of_one
among_whole e (q ∷ qs) = go (eqb (e * q % parts_of_one) 0) refl (among_whole e qs)
  where
    go : (b : Bool) → eqb (e * q % parts_of_one) 0 ≡ b → e * denominator_among e qs % parts_of_one ≡ 0
        → e * (elim b as (λ (z : Bool). ℕ) [ true ↦ q | false ↦ denominator_among e qs ]) % parts_of_one ≡ 0
    go true p ih = eqb-true (e * q % parts_of_one) 0 p
    go false p ih = ih

-- from 1 to 60
sixty : ℕ → Bool
sixty q = leb 1 q && leb q parts_of_one

among_range : (e : ℕ) (qs : List ℕ) → T (all sixty qs) → T (sixty (denominator_among e qs))
unfolding denominator_among all sixty
among_range e [] t = tt
among_range e (q ∷ qs) t = let w = both (sixty q) (all sixty qs) t in go (eqb (e * q % parts_of_one) 0) w.0 (among_range e qs w.1)
  where
    go : (b : Bool) → T (sixty q) → T (sixty (denominator_among e qs)) → T (sixty (elim b as (λ (z : Bool). ℕ) [ true ↦ q | false ↦ denominator_among e qs ]))
    go true t ih = t
    go false t ih = ih

-- e sixtieths as p/q
pub record Lowered (e p q : ℕ) : Type 0 where
  pub equal : p * parts_of_one ≡ e * q
  pub positive : 1 ≤ q
  pub within : q ≤ parts_of_one

pub lowered : (e : Exponent) → Lowered (nat_abs e.0) (nat_abs (lowest_terms e).numerator) (lowest_terms e).denominator
unfolding lowest_terms denominator_of sixty all
lowered e =
    let d = denominator_among (nat_abs e.0) divisors in
    let t = among_range (nat_abs e.0) divisors tt in
    let w = both (leb 1 d) (leb d parts_of_one) t in
    rw (size_signed (negative e.0) (nat_abs e.0 * d / parts_of_one)) (record {
      equal = omega (arith, div-add-mod' (nat_abs e.0 * d) parts_of_one, among_whole (nat_abs e.0) divisors);
      positive = leb→le 1 d w.0;
      within = leb→le d parts_of_one w.1;
    })

-- READING BACK

-- p/q is e sixtieths
pub ratio_back : (b : Bool) (e p q : ℕ) → Lowered e p q → 1 ≤ e → e ≤ most_sixtieths
    → exponent_in false (record { negative = b; numerator = p; denominator = q; short = true }) ≡ some (record { 0 = signed b e })
unfolding exponent_in
ratio_back b e p q w l h =
    let c : parts_of_one * p ≡ e * q = omega (arith, w.equal) in
    let m : parts_of_one * p % q ≡ 0 = rw c (mul-mod_left e q) in
    let d : parts_of_one * p / q ≡ e = rw c (mul-div_cancel e w.positive) in
    rw (le-leb 1 p (omega (arith, c, mul-le-mul l w.positive)), m, d, le-leb e most_sixtieths h)
