-- What converting answers is what the conditions of document 01 say.
use Prim.Native.Nat.{ℕ, zero, suc, ◌≤◌, ◌<◌, ◌%◌, ◌^◌}
use native.Mathlib.Omega.{arith}
use native.Mathlib.Decide.{dec_lt, ℕ_discrete}
use mathlib.Core.Path.{◌≡◌, refl, sym, ap, ◌∙◌}
use mathlib.Core.Bool.{Bool, true, false, ◌&&◌}
use mathlib.Core.List.{List, [], ◌∷◌, map, Memᴰ}
use mathlib.Core.Logic.{◌⊎◌, inl, inr}
use mathlib.Core.Option.{Option}
use lib.Dec.{leb, eqb}
use lib.IntN.{ℤ, pos, negsuc, nat_abs, pos-ne-negsuc, ◌-ℤ◌}
use lib.ListN.{length}
use borrow.Author.Tests.{leb-true, leb-false, eqb-true, eqb-false}
use Rattle.label.specs.declared.Exponent.{Exponent}
use Rattle.label.specs.declared.Tens.{Tens}
use Rattle.label.specs.Units.{base_count}
use Rattle.label.specs.Symbols.{Symbol, known, unknown}
use Rattle.label.specs.Limits.{parts_of_one}
use Rattle.label.specs.Split.{Valued}
use Rattle.label.specs.Reading.{Term, term, Reading, every, is_known, base_in, total, up_to, all_bases, primes, by_prime, dimensions_of, scale_of, reading_of, reading}
use Rattle.label.specs.Conversion.{Conversion, refuse_conversion, unless, same_whole, same_exponents, over, all_whole, whole_number, fraction, fraction_of, small, bounded, converted}
use Rattle.label.proofs.Basics.{false_true, and_left, and_right}
use Rattle.label.proofs.Readings.{Accepted, accepted_reading}
use Rattle.claims.specs.Converting.{UnknownTerm, base_exponent, prime_exponent, WholeIn, FactorIs, Outside, numerator, denominator, power, Hinders, first_unknown, second_unknown, dimensions, no_fraction, outside, gives}
use Rattle.claims.proofs.Exactness.{fraction_exact, exact_once}
use Rattle.claims.proofs.WholeLaws.{not_whole, is_whole, whole_once}

-- A READING'S PARTS, FROM ITS TERMS

pub record Shaped (r : Reading) : Type 0 where
  pub is_known : r.known ≡ every is_known r.terms
  pub is_dimensions : r.dimensions ≡ dimensions_of r.terms
  pub is_scale : r.scale ≡ scale_of r.k r.terms

shaped_of : (n : ℕ) (k : Tens) (ts : List Term) → Shaped (reading_of n k ts)
unfolding reading_of
shaped_of n k ts = record { is_known = refl; is_dimensions = refl; is_scale = refl }

pub accepted_shaped : {n : ℕ} {s : List ℕ} {v : Valued} → Accepted n s v → Shaped (reading n s)
accepted_shaped {n} {s} {v} a = rw (accepted_reading a) (shaped_of n v.k (map (term n (length s)) v.units))

-- 8: KNOWN UNITS

symbol_unknown : (x : Symbol) → is_known x ≡ false → (p : Option ℕ) × (l : List ℕ) × (x ≡ unknown p l)
unfolding is_known
symbol_unknown (known p u) e = absurd (false_true (sym e))
symbol_unknown (unknown p l) e = (p, l, refl)

unknown_test : (t : Term) (p : Option ℕ) (l : List ℕ) → t.symbol ≡ unknown p l → is_known t.symbol ≡ false
unfolding is_known
unknown_test t p l e = rw e

known_among : (x : Term) → is_known x.symbol ≡ false → (ts : List Term) → every is_known ts ≡ true → Memᴰ x ts → ⊥
unfolding every
known_among x u (t ∷ ts) e (Memᴰ.head q) =
    false_true (sym u ∙ ap (λ (y : Term). is_known y.symbol) q ∙ and_left (is_known t.symbol) (every is_known ts) e)
known_among x u (t ∷ ts) e (Memᴰ.tail m) = known_among x u ts (and_right (is_known t.symbol) (every is_known ts) e) m
known_among x u [] e f = elim f [ ]

all_known : (ts : List Term) → every is_known ts ≡ true → UnknownTerm ts → ⊥
all_known ts e u = known_among u.term (unknown_test u.term u.prefix u.letters u.is) ts e u.among

one_unknown : (ts : List Term) → every is_known ts ≡ false → UnknownTerm ts
unfolding every
one_unknown [] e = absurd (false_true (sym e))
one_unknown (t ∷ ts) e = go (is_known t.symbol) refl (λ g. one_unknown ts g) e
  where
    go : (b : Bool) → is_known t.symbol ≡ b → (every is_known ts ≡ false → UnknownTerm ts) → (b && every is_known ts) ≡ false → UnknownTerm (t ∷ ts)
    go true q ih e = let u = ih e in record { term = u.term; among = Memᴰ.tail u.among; prefix = u.prefix; letters = u.letters; is = u.is }
    go false q ih e =
        let u = symbol_unknown t.symbol q in
        record { term = t; among = Memᴰ.head refl; prefix = u.0; letters = u.1; is = u.2 }

-- 9: DIMENSIONS

pub same_whole_true : (x y : ℤ) → same_whole x y ≡ true → x ≡ y
same_whole_true (pos m) (pos n) e = ap pos (eqb-true m n e)
same_whole_true (pos m) (negsuc n) e = absurd (false_true e)
same_whole_true (negsuc m) (pos n) e = absurd (false_true e)
same_whole_true (negsuc m) (negsuc n) e = ap negsuc (eqb-true m n e)

same_whole_false : (x y : ℤ) → same_whole x y ≡ false → x ≡ y → ⊥
same_whole_false (pos m) (pos n) e q = eqb-false m n e (ap nat_abs q)
same_whole_false (pos m) (negsuc n) e q = pos-ne-negsuc m n q
same_whole_false (negsuc m) (pos n) e q = pos-ne-negsuc n m (sym q)
same_whole_false (negsuc m) (negsuc n) e q = eqb-false m n e (omega (arith, ap nat_abs q))

module _ (f g : ℕ → Exponent) where
  all_same : (bs : List ℕ) → same_exponents (map f bs) (map g bs) ≡ true → (b : ℕ) → Memᴰ b bs → (f b).0 ≡ (g b).0
  unfolding same_exponents
  all_same (c ∷ bs) e b (Memᴰ.head q) = rw q (same_whole_true (f c).0 (g c).0 (and_left (same_whole (f c).0 (g c).0) (same_exponents (map f bs) (map g bs)) e))
  all_same (c ∷ bs) e b (Memᴰ.tail m) = all_same bs (and_right (same_whole (f c).0 (g c).0) (same_exponents (map f bs) (map g bs)) e) b m
  all_same [] e b f = elim f [ ]

  one_differs : (bs : List ℕ) → same_exponents (map f bs) (map g bs) ≡ false → (b : ℕ) × Memᴰ b bs × ((f b).0 ≡ (g b).0 → ⊥)
  unfolding same_exponents
  one_differs [] e = absurd (false_true (sym e))
  one_differs (c ∷ bs) e = go (same_whole (f c).0 (g c).0) refl (λ h. one_differs bs h) e
    where
      go : (x : Bool) → same_whole (f c).0 (g c).0 ≡ x → (same_exponents (map f bs) (map g bs) ≡ false → (b : ℕ) × Memᴰ b bs × ((f b).0 ≡ (g b).0 → ⊥))
          → (x && same_exponents (map f bs) (map g bs)) ≡ false → (b : ℕ) × Memᴰ b (c ∷ bs) × ((f b).0 ≡ (g b).0 → ⊥)
      go true q ih e = let u = ih e in (u.0, Memᴰ.tail u.1, u.2)
      go false q ih e = (c, Memᴰ.head refl, same_whole_false (f c).0 (g c).0 q)

-- the bases are the numbers below their count
in_up_to : (n b : ℕ) (bs : List ℕ) → (b < n) ⊎ Memᴰ b bs → Memᴰ b (up_to n bs)
unfolding up_to
in_up_to zero b bs (inl h) = absurd (omega arith)
in_up_to zero b bs (inr m) = m
in_up_to (suc n) b bs (inr m) = in_up_to n b (n ∷ bs) (inr (Memᴰ.tail m))
in_up_to (suc n) b bs (inl h) = in_up_to n b (n ∷ bs) (go (dec_lt b n))
  where
    go : Dec (b < n) → (b < n) ⊎ Memᴰ b (n ∷ bs)
    go (yes l) = inl l
    go (no l) = let q : b ≡ n = omega arith in inr (Memᴰ.head q)

of_up_to : (n b : ℕ) (bs : List ℕ) → Memᴰ b (up_to n bs) → (b < n) ⊎ Memᴰ b bs
unfolding up_to
of_up_to zero b bs m = inr m
of_up_to (suc n) b bs m = go (of_up_to n b (n ∷ bs) m)
  where
    go : (b < n) ⊎ Memᴰ b (n ∷ bs) → (b < suc n) ⊎ Memᴰ b bs
    go (inl h) = inl (omega arith)
    go (inr (Memᴰ.head q)) = inl (omega arith)
    go (inr (Memᴰ.tail m)) = inr m

-- ONE FACTOR

pub factor_once : {r q : Reading} {n d x y : ℕ} {k l : ℤ} → FactorIs r q n d k → FactorIs r q x y l → (n ≡ x) × (d ≡ y) × (k ≡ l)
factor_once {r} {q} {n} {d} {x} {y} {k} {l} f g = exact_once f.exact (
    rw (whole_once f.whole_2 g.whole_2, whole_once f.whole_3 g.whole_3, whole_once f.whole_5 g.whole_5, whole_once f.whole_487 g.whole_487) g.exact)

-- REFUSALS 8 TO 11

pub hinder_bounds : {r q : Reading} {i : ℕ} → Hinders r q i → (8 ≤ i) × (i ≤ 11)
hinder_bounds (first_unknown u) = omega arith
hinder_bounds (second_unknown u) = omega arith
hinder_bounds (dimensions b h g) = omega arith
hinder_bounds (no_fraction p m g) = omega arith
hinder_bounds (outside n d k f o) = omega arith

abbrev whole_test : ℤ → Bool
whole_test z = eqb (nat_abs z % parts_of_one) 0

-- the tests, in order, and what is answered
abbrev tested : Bool → Bool → Bool → Conversion → Conversion
tested a b c x = unless a 8 (unless b 9 (unless c 10 (unless (small x) 11 x)))

module _ (r q : Reading) where
  -- no condition before i holds
  abbrev pub Before : ℕ → Type 0
  Before i = (j : ℕ) → j < i → Hinders r q j → ⊥

  before_first : Before 8
  before_first j h c = omega (arith, hinder_bounds c)

  before_next : {i : ℕ} → Before i → (Hinders r q i → ⊥) → Before (suc i)
  before_next {i} h g j l c = go (ℕ_discrete j i)
    where
      go : Dec (j ≡ i) → ⊥
      go (yes e) = g (rw e at c)
      go (no e) = h j (omega arith) c

  before_all : Before 12 → (i : ℕ) → Hinders r q i → ⊥
  before_all h i c = h i (omega (arith, hinder_bounds c)) c

  abbrev ratio : ℕ → ℤ
  ratio p = prime_exponent p r -ℤ prime_exponent p q

  abbrev given : Conversion
  given = fraction (whole_number (record { 0 = ratio 2 })) (whole_number (record { 0 = ratio 3 })) (whole_number (record { 0 = ratio 5 })) (whole_number (record { 0 = ratio 487 }))

  abbrev four_whole : Bool
  four_whole = whole_test (ratio 2) && (whole_test (ratio 3) && (whole_test (ratio 5) && whole_test (ratio 487)))

  module _ (u : Shaped r) (v : Shaped q) where
    over_is : over r.scale q.scale ≡ by_prime (λ p. record { 0 = ratio p })
    unfolding over scale_of
    over_is = λ i. over (u.is_scale i) (v.is_scale i)

    converted_is : converted r q ≡ tested (every is_known r.terms && every is_known q.terms) (same_exponents (dimensions_of r.terms) (dimensions_of q.terms)) four_whole given
    unfolding converted all_whole fraction_of bounded
    converted_is = λ i. unless (u.is_known i && v.is_known i) 8 (unless (same_exponents (u.is_dimensions i) (v.is_dimensions i)) 9 (unless (all_whole (over_is i)) 10 (bounded (fraction_of (over_is i)))))

  -- 8
  pass_8 : (every is_known r.terms && every is_known q.terms) ≡ true → Hinders r q 8 → ⊥
  pass_8 e (first_unknown u) = all_known r.terms (and_left (every is_known r.terms) (every is_known q.terms) e) u
  pass_8 e (second_unknown u) = all_known q.terms (and_right (every is_known r.terms) (every is_known q.terms) e) u

  fail_8 : (every is_known r.terms && every is_known q.terms) ≡ false → Hinders r q 8
  fail_8 e = go (every is_known r.terms) refl e
    where
      go : (a : Bool) → every is_known r.terms ≡ a → (a && every is_known q.terms) ≡ false → Hinders r q 8
      go true p e = second_unknown (one_unknown q.terms e)
      go false p e = first_unknown (one_unknown r.terms p)

  -- 9
  same_bases : same_exponents (dimensions_of r.terms) (dimensions_of q.terms) ≡ true → (b : ℕ) → b < base_count → base_exponent b r ≡ base_exponent b q
  unfolding dimensions_of
  same_bases e b h = all_same (λ (b : ℕ). total (base_in b) r.terms) (λ (b : ℕ). total (base_in b) q.terms) all_bases e b (in_up_to base_count b [] (inl h))

  pass_9 : same_exponents (dimensions_of r.terms) (dimensions_of q.terms) ≡ true → Hinders r q 9 → ⊥
  pass_9 e (dimensions b h g) = g (same_bases e b h)

  fail_9 : same_exponents (dimensions_of r.terms) (dimensions_of q.terms) ≡ false → Hinders r q 9
  unfolding dimensions_of
  fail_9 e =
      let w = one_differs (λ (b : ℕ). total (base_in b) r.terms) (λ (b : ℕ). total (base_in b) q.terms) all_bases e in
      dimensions w.0 (below (of_up_to base_count w.0 [] w.1)) w.2
    where
      below : {b : ℕ} → (b < base_count) ⊎ Memᴰ b [] → b < base_count
      below (inl h) = h
      below (inr f) = elim f [ ]

  -- 10
  record Wholes : Type 0 where
    pub two : whole_test (ratio 2) ≡ true
    pub three : whole_test (ratio 3) ≡ true
    pub five : whole_test (ratio 5) ≡ true
    pub other : whole_test (ratio 487) ≡ true

  wholes : four_whole ≡ true → Wholes
  wholes e = go (whole_test (ratio 2)) (whole_test (ratio 3)) (whole_test (ratio 5)) (whole_test (ratio 487)) refl refl refl refl e
    where
      go : (a b c d : Bool) → whole_test (ratio 2) ≡ a → whole_test (ratio 3) ≡ b → whole_test (ratio 5) ≡ c → whole_test (ratio 487) ≡ d
          → (a && (b && (c && d))) ≡ true → Wholes
      go true true true true x y z w e = record { two = x; three = y; five = z; other = w }
      go true true true false x y z w e = absurd (false_true e)
      go true true false d x y z w e = absurd (false_true e)
      go true false c d x y z w e = absurd (false_true e)
      go false b c d x y z w e = absurd (false_true e)

  pass_10 : four_whole ≡ true → Hinders r q 10 → ⊥
  pass_10 e (no_fraction p m g) = go p m g
    where
      w : Wholes
      w = wholes e

      go : (p : ℕ) → Memᴰ p primes → ((w : ℤ) → WholeIn p r q w → ⊥) → ⊥
      go p (Memᴰ.head x) g = (rw x at g) (whole_number (record { 0 = ratio 2 })) (is_whole (ratio 2) w.two)
      go p (Memᴰ.tail (Memᴰ.head x)) g = (rw x at g) (whole_number (record { 0 = ratio 3 })) (is_whole (ratio 3) w.three)
      go p (Memᴰ.tail (Memᴰ.tail (Memᴰ.head x))) g = (rw x at g) (whole_number (record { 0 = ratio 5 })) (is_whole (ratio 5) w.five)
      go p (Memᴰ.tail (Memᴰ.tail (Memᴰ.tail (Memᴰ.head x)))) g = (rw x at g) (whole_number (record { 0 = ratio 487 })) (is_whole (ratio 487) w.other)
      go p (Memᴰ.tail (Memᴰ.tail (Memᴰ.tail (Memᴰ.tail f)))) g = elim f [ ]

  fail_10 : four_whole ≡ false → Hinders r q 10
  fail_10 e = go (whole_test (ratio 2)) (whole_test (ratio 3)) (whole_test (ratio 5)) (whole_test (ratio 487)) refl refl refl refl e
    where
      go : (a b c d : Bool) → whole_test (ratio 2) ≡ a → whole_test (ratio 3) ≡ b → whole_test (ratio 5) ≡ c → whole_test (ratio 487) ≡ d
          → (a && (b && (c && d))) ≡ false → Hinders r q 10
      go true true true true x y z w e = absurd (false_true (sym e))
      go true true true false x y z w e = no_fraction 487 (Memᴰ.tail (Memᴰ.tail (Memᴰ.tail (Memᴰ.head refl)))) (not_whole (ratio 487) w)
      go true true false d x y z w e = no_fraction 5 (Memᴰ.tail (Memᴰ.tail (Memᴰ.head refl))) (not_whole (ratio 5) z)
      go true false c d x y z w e = no_fraction 3 (Memᴰ.tail (Memᴰ.head refl)) (not_whole (ratio 3) y)
      go false b c d x y z w e = no_fraction 2 (Memᴰ.head refl) (not_whole (ratio 2) x)

  factor_given : four_whole ≡ true → FactorIs r q given.numerator given.denominator given.k.0
  factor_given e =
      let w = wholes e in
      record {
        of_2 = whole_number (record { 0 = ratio 2 });
        of_3 = whole_number (record { 0 = ratio 3 });
        of_5 = whole_number (record { 0 = ratio 5 });
        of_487 = whole_number (record { 0 = ratio 487 });
        whole_2 = is_whole (ratio 2) w.two;
        whole_3 = is_whole (ratio 3) w.three;
        whole_5 = is_whole (ratio 5) w.five;
        whole_487 = is_whole (ratio 487) w.other;
        exact = fraction_exact (whole_number (record { 0 = ratio 2 })) (whole_number (record { 0 = ratio 3 })) (whole_number (record { 0 = ratio 5 })) (whole_number (record { 0 = ratio 487 }));
      }

  -- 11
  abbrev pub Within : ℕ → ℕ → ℤ → Type 0
  Within n d k = (n ≤ 2 ^ 53) × (d ≤ 2 ^ 53) × (nat_abs k ≤ 9_999)

  within_of : (x : Conversion) → small x ≡ true → Within x.numerator x.denominator x.k.0
  within_of x e =
      let a = leb x.numerator (2 ^ 53) in
      let b = leb x.denominator (2 ^ 53) in
      let c = leb (nat_abs x.k.0) 9_999 in (
        leb-true x.numerator (2 ^ 53) (and_left a (b && c) e),
        leb-true x.denominator (2 ^ 53) (and_left b c (and_right a (b && c) e)),
        leb-true (nat_abs x.k.0) 9_999 (and_right b c (and_right a (b && c) e)),
      )

  outside_of : (x : Conversion) → small x ≡ false → Outside x.numerator x.denominator x.k.0
  outside_of x e = go (leb x.numerator (2 ^ 53)) (leb x.denominator (2 ^ 53)) refl refl e
    where
      go : (a b : Bool) → leb x.numerator (2 ^ 53) ≡ a → leb x.denominator (2 ^ 53) ≡ b → (a && (b && leb (nat_abs x.k.0) 9_999)) ≡ false
          → Outside x.numerator x.denominator x.k.0
      go true true p o e = power (leb-false (nat_abs x.k.0) 9_999 e)
      go true false p o e = denominator (leb-false x.denominator (2 ^ 53) o)
      go false b p o e = numerator (leb-false x.numerator (2 ^ 53) p)

  not_outside : {n d : ℕ} {k : ℤ} → Within n d k → Outside n d k → ⊥
  not_outside w (numerator h) = omega (arith, w.0)
  not_outside w (denominator h) = omega (arith, w.1)
  not_outside w (power h) = omega (arith, w.2)

  -- a factor within the limits leaves no other outside them
  within_limits : {n d : ℕ} {k : ℤ} → FactorIs r q n d k → Within n d k → Hinders r q 11 → ⊥
  within_limits f w (outside x y l g o) =
      let e = factor_once f g in
      not_outside (rw (e.0, e.1, e.2) at w) o

  -- WHAT CONVERTING TWO READINGS ANSWERS

  pub record GivenFactor (x : Conversion) : Type 0 where
    pub answers : x ≡ gives x.numerator x.denominator x.k.0
    pub clear : (i : ℕ) → Hinders r q i → ⊥
    pub same : (b : ℕ) → b < base_count → base_exponent b r ≡ base_exponent b q
    pub factor : FactorIs r q x.numerator x.denominator x.k.0
    pub within : Within x.numerator x.denominator x.k.0

  pub data ConversionOutcome (x : Conversion) : Type 0 where
    refusing : (i : ℕ) → x ≡ refuse_conversion i → Hinders r q i → Before i → ConversionOutcome x
    giving : GivenFactor x → ConversionOutcome x

  given_answers : given ≡ gives given.numerator given.denominator given.k.0
  unfolding fraction
  given_answers = refl

  tested_outcome : (a b c : Bool) → (every is_known r.terms && every is_known q.terms) ≡ a
      → same_exponents (dimensions_of r.terms) (dimensions_of q.terms) ≡ b → four_whole ≡ c → ConversionOutcome (tested a b c given)
  unfolding unless
  tested_outcome false b c x y z = ConversionOutcome.refusing 8 refl (fail_8 x) before_first
  tested_outcome true false c x y z = ConversionOutcome.refusing 9 refl (fail_9 y) (before_next before_first (pass_8 x))
  tested_outcome true true false x y z = ConversionOutcome.refusing 10 refl (fail_10 z) (before_next (before_next before_first (pass_8 x)) (pass_9 y))
  tested_outcome true true true x y z = go (small given) refl
    where
      before : Before 11
      before = before_next (before_next (before_next before_first (pass_8 x)) (pass_9 y)) (pass_10 z)

      go : (d : Bool) → small given ≡ d → ConversionOutcome (unless d 11 given)
      go true w =
          ConversionOutcome.giving (record {
            answers = given_answers;
            clear = before_all (before_next before (within_limits (factor_given z) (within_of given w)));
            same = same_bases y;
            factor = factor_given z;
            within = within_of given w;
          })
      go false w = ConversionOutcome.refusing 11 refl (outside given.numerator given.denominator given.k.0 (factor_given z) (outside_of given w)) before

  pub converted_outcome : Shaped r → Shaped q → ConversionOutcome (converted r q)
  converted_outcome u v = rw (converted_is u v) (
      tested_outcome (every is_known r.terms && every is_known q.terms) (same_exponents (dimensions_of r.terms) (dimensions_of q.terms)) four_whole refl refl refl)

  -- the conditions and the factor exclude each other
  pub factor_clear : {n d : ℕ} {k : ℤ} → (UnknownTerm r.terms → ⊥) → (UnknownTerm q.terms → ⊥)
      → ((b : ℕ) → b < base_count → base_exponent b r ≡ base_exponent b q) → FactorIs r q n d k → Within n d k
      → {i : ℕ} → Hinders r q i → ⊥
  factor_clear x y z f w (first_unknown u) = x u
  factor_clear x y z f w (second_unknown u) = y u
  factor_clear x y z f w (dimensions b h g) = g (z b h)
  factor_clear x y z f w (no_fraction p m g) = go p m g
    where
      go : (p : ℕ) → Memᴰ p primes → ((w : ℤ) → WholeIn p r q w → ⊥) → ⊥
      go p (Memᴰ.head x) g = (rw x at g) f.of_2 f.whole_2
      go p (Memᴰ.tail (Memᴰ.head x)) g = (rw x at g) f.of_3 f.whole_3
      go p (Memᴰ.tail (Memᴰ.tail (Memᴰ.head x))) g = (rw x at g) f.of_5 f.whole_5
      go p (Memᴰ.tail (Memᴰ.tail (Memᴰ.tail (Memᴰ.head x)))) g = (rw x at g) f.of_487 f.whole_487
      go p (Memᴰ.tail (Memᴰ.tail (Memᴰ.tail (Memᴰ.tail f)))) g = elim f [ ]
  factor_clear x y z f w (outside n d k g o) = within_limits f w (outside n d k g o)
