-- The 60th power of a label's scale, in powers of 2, 3, 5 and 487.
use Prim.Native.Nat.{ℕ, zero, suc, ◌+◌, ◌*◌, ◌^◌}
use native.Mathlib.Omega.{arith}
use native.Mathlib.Nat.{mul-one, mul-zero, pow-suc, pow-zero, mul-suc}
use mathlib.Core.Path.{◌≡◌, refl, sym, ap, ◌∙◌}
use mathlib.Core.Bool.{Bool, true}
use mathlib.Core.List.{List, [], ◌∷◌}
use lib.Dec.{eqb}
use lib.IntN.{ℤ, pos, negsuc, ◌+ℤ◌, ◌*ℤ◌, +ℤ_idl, +ℤ_idr, +ℤ_assoc, zero-*ℤ}
use borrow.Author.Tests.{eqb-true}
use Rattle.label.specs.Prefixes.{power_of}
use Rattle.label.specs.Units.{KnownUnit, units, unit_at, multiplicity}
use Rattle.label.specs.Symbols.{Symbol, known, unknown}
use Rattle.label.specs.Limits.{parts_of_one}
use Rattle.label.specs.Reading.{Term, Reading, prime_in, total}
use Rattle.label.proofs.Computing.{answers_compute}
use Rattle.claims.specs.Parts.{up, down}
use Rattle.claims.specs.Converting.{prime_exponent}
use Rattle.claims.specs.Sizing.{tens_in, count_in, counts_above, counts_below, tens_of, top, bottom}
use Rattle.claims.proofs.Coprime.{power_sum}
use Rattle.claims.proofs.Exactness.{tens, above_is, below_is, sum_parts, neg_parts}
use Rattle.claims.proofs.Bounds.{every_row, at_row, no_unit}

-- PRODUCTS OF POWERS

abbrev pub powers : ℕ → ℕ → ℕ → ℕ → ℕ
powers a b c e = 2 ^ a * 3 ^ b * 5 ^ c * 487 ^ e

pub powers_sum : (a b c e x y z w : ℕ) → powers a b c e * powers x y z w ≡ powers (a + x) (b + y) (c + z) (e + w)
powers_sum a b c e x y z w =
    rw (power_sum 2 a x, power_sum 3 b y, power_sum 5 c z, power_sum 487 e w) (turn (2 ^ a) (3 ^ b) (5 ^ c) (487 ^ e) (2 ^ x) (3 ^ y) (5 ^ z) (487 ^ w))
  where
    turn : (a b c e x y z w : ℕ) → a * b * c * e * (x * y * z * w) ≡ a * x * (b * y) * (c * z) * (e * w)
    turn a b c e x y z w = omega arith

pub powers_power : (a b c e n : ℕ) → powers a b c e ^ n ≡ powers (a * n) (b * n) (c * n) (e * n)
powers_power a b c e zero = rw (pow-zero (powers a b c e), mul-zero a, mul-zero b, mul-zero c, mul-zero e)
powers_power a b c e (suc n) =
    pow-suc (powers a b c e) n ∙ ap (λ (x : ℕ). x * powers a b c e) (powers_power a b c e n) ∙ powers_sum (a * n) (b * n) (c * n) (e * n) a b c e
    ∙ rw (mul-suc a n, mul-suc b n, mul-suc c n, mul-suc e n)

powers_tens : (n : ℕ) → 10 ^ n ≡ powers n 0 n 0
powers_tens n = tens n ∙ rw (pow-zero 3, pow-zero 487, mul-one (2 ^ n), mul-one (2 ^ n * 5 ^ n))

-- COUNTS

-- how often p divides a unit's count
often : ℕ → Symbol → ℕ
often p (known x u) = multiplicity 64 p (unit_at u).size.count
often p (unknown x l) = 0

count_test : KnownUnit → Bool
count_test u = eqb (powers (multiplicity 64 2 u.size.count) (multiplicity 64 3 u.size.count) (multiplicity 64 5 u.size.count) (multiplicity 64 487 u.size.count)) u.size.count

counts_factored : every_row count_test units ≡ true
unfolding every_row count_test answers_compute
counts_factored = refl

no_unit_factored : count_test no_unit ≡ true
unfolding count_test no_unit answers_compute
no_unit_factored = refl

count_factored : (x : Symbol) → count_in x ≡ powers (often 2 x) (often 3 x) (often 5 x) (often 487 x)
unfolding count_in often count_test no_unit
count_factored (known x u) = sym (eqb-true _ _ (at_row count_test units no_unit counts_factored no_unit_factored u))
count_factored (unknown x l) = refl

-- for each term the exponent's part above the line, or below it, times a number of its symbol
ups : (Symbol → ℕ) → List Term → ℕ
ups m [] = 0
ups m (t ∷ ts) = m t.symbol * up t.exponent.0 + ups m ts

downs : (Symbol → ℕ) → List Term → ℕ
downs m [] = 0
downs m (t ∷ ts) = m t.symbol * down t.exponent.0 + downs m ts

above_factored : (x : Symbol) (n : ℕ) → count_in x ^ n ≡ powers (often 2 x * n) (often 3 x * n) (often 5 x * n) (often 487 x * n)
above_factored x n = ap (λ (c : ℕ). c ^ n) (count_factored x) ∙ powers_power (often 2 x) (often 3 x) (often 5 x) (often 487 x) n

above_counts : (ts : List Term) → counts_above ts ≡ powers (ups (often 2) ts) (ups (often 3) ts) (ups (often 5) ts) (ups (often 487) ts)
unfolding counts_above ups
above_counts [] = refl
above_counts (t ∷ ts) =
    (λ i. (above_is (count_in t.symbol) t.exponent.0 ∙ above_factored t.symbol (up t.exponent.0)) i * above_counts ts i)
    ∙ powers_sum (often 2 t.symbol * up t.exponent.0) (often 3 t.symbol * up t.exponent.0) (often 5 t.symbol * up t.exponent.0) (often 487 t.symbol * up t.exponent.0)
    (ups (often 2) ts) (ups (often 3) ts) (ups (often 5) ts) (ups (often 487) ts)

below_counts : (ts : List Term) → counts_below ts ≡ powers (downs (often 2) ts) (downs (often 3) ts) (downs (often 5) ts) (downs (often 487) ts)
unfolding counts_below downs
below_counts [] = refl
below_counts (t ∷ ts) =
    (λ i. (below_is (count_in t.symbol) t.exponent.0 ∙ above_factored t.symbol (down t.exponent.0)) i * below_counts ts i)
    ∙ powers_sum (often 2 t.symbol * down t.exponent.0) (often 3 t.symbol * down t.exponent.0) (often 5 t.symbol * down t.exponent.0) (often 487 t.symbol * down t.exponent.0)
    (downs (often 2) ts) (downs (often 3) ts) (downs (often 5) ts) (downs (often 487) ts)

-- SUMS OF EXPONENTS

pub times_parts : (z : ℤ) (n : ℕ) → (up (z *ℤ pos n) ≡ up z * n) × (down (z *ℤ pos n) ≡ down z * n)
times_parts (pos a) n = (refl, omega arith)
times_parts (negsuc a) n = ((neg_parts (pos (suc a * n))).0 ∙ omega arith, (neg_parts (pos (suc a * n))).1)

times_back : (z : ℤ) (n : ℕ) → (up (z *ℤ negsuc n) ≡ down z * suc n) × (down (z *ℤ negsuc n) ≡ up z * suc n)
times_back (pos a) n = ((neg_parts (pos (a * suc n))).0 ∙ omega arith, (neg_parts (pos (a * suc n))).1)
times_back (negsuc a) n = (refl, omega arith)

-- f is g and m more: times an exponent
more_times : (f g : ℤ) (m : ℕ) → f ≡ g +ℤ pos m → (e : ℤ) → up (f *ℤ e) + (down (g *ℤ e) + m * down e) ≡ down (f *ℤ e) + (up (g *ℤ e) + m * up e)
more_times f g m h (pos n) = rw ((times_parts f n).0, (times_parts f n).1, (times_parts g n).0, (times_parts g n).1) (omega (arith, ap (λ (x : ℕ). x * n) (parts f g m h)))
  where
    parts : (f g : ℤ) (m : ℕ) → f ≡ g +ℤ pos m → up f + down g ≡ down f + up g + m
    parts f g m h = rw h (omega (arith, sum_parts g (pos m)))
more_times f g m h (negsuc n) = rw ((times_back f n).0, (times_back f n).1, (times_back g n).0, (times_back g n).1) (omega (arith, ap (λ (x : ℕ). x * suc n) (parts f g m h)))
  where
    parts : (f g : ℤ) (m : ℕ) → f ≡ g +ℤ pos m → up f + down g ≡ down f + up g + m
    parts f g m h = rw h (omega (arith, sum_parts g (pos m)))

more_total : (f g : Symbol → ℤ) (m : Symbol → ℕ) → ((x : Symbol) → f x ≡ g x +ℤ pos (m x)) → (ts : List Term)
    → up (total f ts).0 + (down (total g ts).0 + downs m ts) ≡ down (total f ts).0 + (up (total g ts).0 + ups m ts)
unfolding total ups downs
more_total f g m h [] = refl
more_total f g m h (t ∷ ts) =
    let e = t.exponent.0 in
    let a = f t.symbol *ℤ e in
    let b = g t.symbol *ℤ e in
    omega (arith, sum_parts a (total f ts).0, sum_parts b (total g ts).0, more_times (f t.symbol) (g t.symbol) (m t.symbol) (h t.symbol) e, more_total f g m h ts)

-- A READING'S SCALE

two_form : (x : Symbol) → prime_in 2 x ≡ tens_in x +ℤ pos (often 2 x)
unfolding prime_in tens_in often
two_form (known p u) = sym (+ℤ_assoc (power_of p).0 (unit_at u).size.tens.0 (pos (multiplicity 64 2 (unit_at u).size.count)))
two_form (unknown p l) = sym (+ℤ_idr (power_of p).0)

five_form : (x : Symbol) → prime_in 5 x ≡ tens_in x +ℤ pos (often 5 x)
unfolding prime_in tens_in often
five_form (known p u) = sym (+ℤ_assoc (power_of p).0 (unit_at u).size.tens.0 (pos (multiplicity 64 5 (unit_at u).size.count)))
five_form (unknown p l) = sym (+ℤ_idr (power_of p).0)

abbrev nothing_in : Symbol → ℤ
nothing_in x = pos 0

three_form : (x : Symbol) → prime_in 3 x ≡ nothing_in x +ℤ pos (often 3 x)
unfolding prime_in often
three_form (known p u) = +ℤ_idl (pos 0 +ℤ pos (multiplicity 64 3 (unit_at u).size.count))
three_form (unknown p l) = refl

other_form : (x : Symbol) → prime_in 487 x ≡ nothing_in x +ℤ pos (often 487 x)
unfolding prime_in often
other_form (known p u) = +ℤ_idl (pos 0 +ℤ pos (multiplicity 64 487 (unit_at u).size.count))
other_form (unknown p l) = refl

nothing_total : (ts : List Term) → (total nothing_in ts).0 ≡ pos 0
unfolding total
nothing_total [] = refl
nothing_total (t ∷ ts) = rw (zero-*ℤ t.exponent.0, nothing_total ts) refl

-- the exponents of 2, 3, 5 and 487 above the line and below it
pub record Factored (r : Reading) : Type 0 where
  pub a : ℕ
  pub b : ℕ
  pub c : ℕ
  pub e : ℕ
  pub x : ℕ
  pub y : ℕ
  pub z : ℕ
  pub w : ℕ
  pub top_is : top r ≡ powers a b c e
  pub bottom_is : bottom r ≡ powers x y z w
  pub two : up (prime_exponent 2 r) + x ≡ down (prime_exponent 2 r) + a
  pub three : up (prime_exponent 3 r) + y ≡ down (prime_exponent 3 r) + b
  pub five : up (prime_exponent 5 r) + z ≡ down (prime_exponent 5 r) + c
  pub other : up (prime_exponent 487 r) + w ≡ down (prime_exponent 487 r) + e

pub factored : (r : Reading) → Factored r
factored r = record {
  a = up ten + ups (often 2) ts;
  b = 0 + ups (often 3) ts;
  c = up ten + ups (often 5) ts;
  e = 0 + ups (often 487) ts;
  x = down ten + downs (often 2) ts;
  y = 0 + downs (often 3) ts;
  z = down ten + downs (often 5) ts;
  w = 0 + downs (often 487) ts;
  top_is =
      (λ i. (above_is 10 ten ∙ powers_tens (up ten)) i * above_counts ts i)
      ∙ powers_sum (up ten) 0 (up ten) 0 (ups (often 2) ts) (ups (often 3) ts) (ups (often 5) ts) (ups (often 487) ts);
  bottom_is =
      (λ i. (below_is 10 ten ∙ powers_tens (down ten)) i * below_counts ts i)
      ∙ powers_sum (down ten) 0 (down ten) 0 (downs (often 2) ts) (downs (often 3) ts) (downs (often 5) ts) (downs (often 487) ts);
  two = with_tens (prime_in 2) (often 2) two_form;
  three = without_tens (prime_in 3) (often 3) three_form;
  five = with_tens (prime_in 5) (often 5) five_form;
  other = without_tens (prime_in 487) (often 487) other_form;
}
  where
    ts : List Term
    ts = r.terms

    ten : ℤ
    ten = tens_of r

    factor : ℤ
    factor = r.k.0 *ℤ pos parts_of_one

    with_tens : (f : Symbol → ℤ) (m : Symbol → ℕ) → ((x : Symbol) → f x ≡ tens_in x +ℤ pos (m x))
        → up (factor +ℤ (total f ts).0) + (down ten + downs m ts) ≡ down (factor +ℤ (total f ts).0) + (up ten + ups m ts)
    with_tens f m h = omega (arith, sum_parts factor (total f ts).0, sum_parts factor (total tens_in ts).0, more_total f tens_in m h ts)

    without_tens : (f : Symbol → ℤ) (m : Symbol → ℕ) → ((x : Symbol) → f x ≡ nothing_in x +ℤ pos (m x))
        → up (pos 0 +ℤ (total f ts).0) + (0 + downs m ts) ≡ down (pos 0 +ℤ (total f ts).0) + (0 + ups m ts)
    without_tens f m h = rw (+ℤ_idl (total f ts).0) (omega (arith, rw (nothing_total ts) at (more_total f nothing_in m h ts)))
