-- How large the exponents of bases and primes in a reading are.
use Prim.Native.Nat.{ℕ, zero, suc, ◌≤◌, ◌+◌, ◌*◌, ◌-◌, ◌%◌}
use native.Mathlib.Omega.{arith}
use native.Mathlib.Nat.{mul-le-mul, mul-le-mul_right}
use mathlib.Core.Path.{◌≡◌, refl, sym, ap, ◌∙◌}
use mathlib.Core.Bool.{Bool, true, false, ◌&&◌, cond}
use mathlib.Core.List.{List, [], ◌∷◌, map, Memᴰ}
use mathlib.Core.Option.{Option, none, some}
use lib.Dec.{leb, ltb, eqb}
use lib.IntN.{ℤ, pos, negsuc, neg_ℤ, nat_abs, sub_ℕ, ◌+ℤ◌, ◌*ℤ◌}
use lib.ListN.{length, get_or, length-map}
use borrow.Author.Tests.{leb-true}
use Rattle.label.specs.declared.Tens.{Tens}
use Rattle.label.specs.Choice.{pick}
use Rattle.label.specs.Prefixes.{Prefix, prefix, prefixes, power_of}
use Rattle.label.specs.Units.{BasePower, KnownUnit, bare, ten_to, units, unit_at, base_power, in_tens, prime_power}
use Rattle.label.specs.Symbols.{Symbol, known, unknown}
use Rattle.label.specs.Limits.{parts_of_one, most_sixtieths, most_terms, largest_k}
use Rattle.label.specs.Reading.{Term, term, Reading, base_in, prime_in, total, primes, refusal, reading_of, reading}
use Rattle.label.specs.Writing.{writable}
use Rattle.label.proofs.Computing.{answers_compute}
use Rattle.label.proofs.Basics.{and_left, and_right}
use Rattle.label.proofs.Readings.{Answered, answer_of, refused_reading, accepted_reading}
use Rattle.label.proofs.Rewritten.{AllReady}
use Rattle.label.proofs.Sources.{Kept, accepted_kept}
use Rattle.claims.specs.Converting.{base_exponent, prime_exponent, most_of_base, most_of_prime, ExponentsBounded, RatiosBounded}
use Rattle.claims.proofs.WholeLaws.{neg_size}

-- SIZES OF SUMS AND PRODUCTS

difference : (a b : ℕ) → nat_abs (sub_ℕ a (suc b)) ≤ a + suc b
difference a b = go (ltb a (suc b))
  where
    go : (x : Bool) → nat_abs (cond x (negsuc (suc b - suc a)) (pos (a - suc b))) ≤ a + suc b
    go true = omega arith
    go false = omega arith

size_sum : (a b : ℤ) → nat_abs (a +ℤ b) ≤ nat_abs a + nat_abs b
size_sum (pos a) (pos b) = omega arith
size_sum (pos a) (negsuc b) = difference a b
size_sum (negsuc a) (pos b) = omega (arith, difference b a)
size_sum (negsuc a) (negsuc b) = omega arith

size_product : (a b : ℤ) → nat_abs (a *ℤ b) ≡ nat_abs a * nat_abs b
size_product (pos a) (pos b) = refl
size_product (pos a) (negsuc b) = neg_size (pos (a * suc b))
size_product (negsuc a) (pos b) = neg_size (pos (suc a * b))
size_product (negsuc a) (negsuc b) = refl

-- A TEST PASSED BY A WHOLE TABLE

unfoldable pub every_row : {A : Type 0} → (A → Bool) → List A → Bool
every_row p [] = true
every_row p (x ∷ xs) = p x && every_row p xs

pub at_row : {A : Type 0} (p : A → Bool) (xs : List A) (d : A) → every_row p xs ≡ true → p d ≡ true → (i : ℕ) → p (get_or xs i d) ≡ true
unfolding every_row
at_row p [] d e f i = f
at_row p (x ∷ xs) d e f zero = and_left (p x) (every_row p xs) e
at_row p (x ∷ xs) d e f (suc i) = at_row p xs d (and_right (p x) (every_row p xs) e) f i

of_row : {A : Type 0} (p : A → Bool) (xs : List A) → every_row p xs ≡ true → (x : A) → Memᴰ x xs → p x ≡ true
unfolding every_row
of_row p (y ∷ xs) e x (Memᴰ.head q) = rw q (and_left (p y) (every_row p xs) e)
of_row p (y ∷ xs) e x (Memᴰ.tail m) = of_row p xs (and_right (p y) (every_row p xs) e) x m
of_row p [] e x f = elim f [ ]

-- PREFIXES AND UNITS

small_prefix : Prefix → Bool
small_prefix x = leb (nat_abs x.power.0) 24

prefixes_small : every_row small_prefix prefixes ≡ true
unfolding every_row small_prefix answers_compute
prefixes_small = refl

prefix_small : (x : Option ℕ) → nat_abs (power_of x).0 ≤ 24
unfolding small_prefix
prefix_small none = omega arith
prefix_small (some i) = leb-true (nat_abs (power_of (some i)).0) 24 (at_row small_prefix prefixes (prefix "" (pos 0)) prefixes_small refl i)

small_unit : ℕ → KnownUnit → Bool
small_unit p u = leb (nat_abs (prime_power p u.size)) 28

-- the unit past the last row
unfoldable pub no_unit : KnownUnit
no_unit = bare [] (ten_to (pos 0) [])

all_small : ℕ → Bool
all_small p = small_unit p no_unit && every_row (small_unit p) units

primes_small : every_row all_small primes ≡ true
unfolding every_row all_small small_unit no_unit answers_compute
primes_small = refl

-- the powers of a size's bases, together
powers : List BasePower → ℕ
powers [] = 0
powers (x ∷ xs) = nat_abs x.power + powers xs

small_bases : KnownUnit → Bool
small_bases u = leb (powers u.size.bases) 9

bases_small : every_row small_bases units ≡ true
unfolding every_row small_bases powers answers_compute
bases_small = refl

unit_small : (p : ℕ) → Memᴰ p primes → (u : ℕ) → nat_abs (prime_power p (unit_at u).size) ≤ 28
unfolding small_unit all_small no_unit
unit_small p m u =
    let t = of_row all_small primes primes_small p m in
    leb-true (nat_abs (prime_power p (unit_at u).size)) 28
    (at_row (small_unit p) units no_unit (and_right (small_unit p no_unit) (every_row (small_unit p) units) t) (and_left (small_unit p no_unit) (every_row (small_unit p) units) t) u)

in_tens_small : (p m : ℕ) (t : Tens) → nat_abs t.0 ≤ m → nat_abs (in_tens p t) ≤ m
in_tens_small p m t h = go (eqb (10 % p) 0)
  where
    go : (b : Bool) → nat_abs (pick b t.0 (pos 0)) ≤ m
    go true = h
    go false = omega arith

prime_small : (p : ℕ) → Memᴰ p primes → (x : Symbol) → nat_abs (prime_in p x) ≤ 52
unfolding prime_in
prime_small p m (known x u) =
    omega (arith, size_sum (in_tens p (power_of x)) (prime_power p (unit_at u).size), in_tens_small p 24 (power_of x) (prefix_small x), unit_small p m u)
prime_small p m (unknown x l) = omega (arith, in_tens_small p 24 (power_of x) (prefix_small x))

base_power_small : (b : ℕ) (xs : List BasePower) → nat_abs (base_power b xs) ≤ powers xs
unfolding base_power powers
base_power_small b [] = omega arith
base_power_small b (x ∷ xs) = go (eqb b x.base) (base_power_small b xs)
  where
    go : (y : Bool) → nat_abs (base_power b xs) ≤ powers xs → nat_abs (pick y x.power (pos 0) +ℤ base_power b xs) ≤ nat_abs x.power + powers xs
    go true h = omega (arith, size_sum x.power (base_power b xs))
    go false h = omega (arith, size_sum (pos 0) (base_power b xs))

base_small : (b : ℕ) (x : Symbol) → nat_abs (base_in b x) ≤ 9
unfolding base_in small_bases no_unit powers
base_small b (known p u) =
    omega (arith, base_power_small b (unit_at u).size.bases, leb-true (powers (unit_at u).size.bases) 9 (at_row small_bases units no_unit bases_small refl u))
base_small b (unknown p l) = omega arith

-- EXPONENTS AND THEIR SUMS

-- every term's exponent is at most 99
data SmallExponents : List Term → Type 0 where
  none_left : SmallExponents []
  one_more : {t : Term} {ts : List Term} → nat_abs t.exponent.0 ≤ most_sixtieths → SmallExponents ts → SmallExponents (t ∷ ts)

total_small : (f : Symbol → ℤ) (m : ℕ) → ((x : Symbol) → nat_abs (f x) ≤ m) → {ts : List Term} → SmallExponents ts → nat_abs (total f ts).0 ≤ length ts * (m * most_sixtieths)
unfolding total
total_small f m h SmallExponents.none_left = omega arith
total_small f m h (SmallExponents.one_more {t = t} {ts = ts} e w) =
    omega (arith, size_sum (f t.symbol *ℤ t.exponent.0) (total f ts).0, size_product (f t.symbol) t.exponent.0, mul-le-mul (h t.symbol) e, total_small f m h w)

ready_small : (s : List ℕ) (ts : List Term) → AllReady (map (writable s) ts) → SmallExponents ts
unfolding writable
ready_small s [] AllReady.done = SmallExponents.none_left
ready_small s (t ∷ ts) (AllReady.also d ds) = SmallExponents.one_more d.within.high (ready_small s ts ds)

-- READINGS

-- at most 32 terms, each exponent small, k small
record LimitedReading (r : Reading) : Type 0 where
  pub terms_few : length r.terms ≤ most_terms
  pub exponents_small : SmallExponents r.terms
  pub k_little : nat_abs r.k.0 ≤ largest_k

refusal_limited : (i : ℕ) → LimitedReading (refusal i)
unfolding refusal
refusal_limited i = record { terms_few = omega arith; exponents_small = SmallExponents.none_left; k_little = omega arith }

kept_limited : (n : ℕ) (s : List ℕ) (k : Tens) (ts : List Term) → Kept k (map (writable s) ts) → LimitedReading (reading_of n k ts)
unfolding reading_of
kept_limited n s k ts w = record { terms_few = rw length-map at w.few; exponents_small = ready_small s ts w.ready; k_little = w.high }

limited : (n : ℕ) (s : List ℕ) → LimitedReading (reading n s)
limited n s = go (answer_of n s)
  where
    go : Answered n s → LimitedReading (reading n s)
    go (Answered.refusing i e d) = rw (refused_reading d) (refusal_limited i)
    go (Answered.accepting v a) = rw (accepted_reading a) (kept_limited n s v.k (map (term n (length s)) v.units) (accepted_kept a))

limited_base : (b : ℕ) (r : Reading) → LimitedReading r → nat_abs (base_exponent b r) ≤ most_of_base
limited_base b r l = omega (arith, total_small (base_in b) 9 (base_small b) l.exponents_small, mul-le-mul_right (9 * most_sixtieths) l.terms_few)

limited_prime : (p : ℕ) (r : Reading) → Memᴰ p primes → LimitedReading r → nat_abs (prime_exponent p r) ≤ most_of_prime
limited_prime p r m l =
    omega (
      arith,
      size_sum (in_tens p r.k *ℤ pos parts_of_one) (total (prime_in p) r.terms).0,
      size_product (in_tens p r.k) (pos parts_of_one),
      in_tens_small p largest_k r.k l.k_little,
      total_small (prime_in p) 52 (prime_small p m) l.exponents_small,
      mul-le-mul_right (52 * most_sixtieths) l.terms_few,
    )

pub exponents_bounded : ExponentsBounded
exponents_bounded n s = ((λ b. limited_base b (reading n s) (limited n s)), (λ p m. limited_prime p (reading n s) m (limited n s)))

pub ratios_bounded : RatiosBounded
ratios_bounded n s m t p w h g =
    let a = prime_exponent p (reading n s) in
    let b = prime_exponent p (reading m t) in
    omega (arith, sym (size_product w (pos parts_of_one)) ∙ ap nat_abs g.is, size_sum a (neg_ℤ b), neg_size b, limited_prime p (reading n s) h (limited n s), limited_prime p (reading m t) h (limited m t))
