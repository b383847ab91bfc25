-- The columns of units and of the prefixes' powers: what each tells of each row, and how large it is.
use Prim.Native.Nat.{ℕ, zero, suc, ◌+◌, ◌*◌, ◌-◌, ◌%◌, ◌≤◌, ◌<◌}
use native.Mathlib.Omega.{arith}
use mathlib.Core.Path.{◌≡◌, refl, sym, ap, ◌∙◌}
use mathlib.Core.Bool.{Bool, true, false, cond}
use mathlib.Core.List.{List, [], ◌∷◌}
use mathlib.Core.Option.{Option, none, some}
use lib.Dec.{T, leb, ltb, eqb, leb→le, le→leb}
use lib.IntN.{ℤ, pos, negsuc, sub_ℕ, ◌+ℤ◌, +ℤ_idr}
use lib.ListN.{length, get_or, get_or-map, get_or-eq_default}
use lib.Signed.{mag}
use mir.Syntax.{w8, w32}
use mir.Val.{SFits, to_z, of_z}
use mir.Facts.{to_z-of_z}
use Rattle.label.specs.declared.Tens.{Tens}
use Rattle.label.specs.Choice.{pick}
use Rattle.label.specs.Notations.{member}
use Rattle.label.specs.Prefixes.{Prefix, prefix, prefixes, power_of}
use Rattle.label.specs.Units.{BasePower, KnownUnit, units, bare, ten_to, unit_at, base_power, multiplicity, in_tens}
use Rattle.label.specs.Reading.{base_in, prime_in}
use Rattle.label.specs.Symbols.{Symbol, known, unknown}
use Rattle.label.proofs.Basics.{all_below}
use Rattle.symbols.specs.Sets.{bits, has_bit}
use Rattle.symbols.specs.Slots.{unused, slot, prime_at, prime_slot, four_each, adds}
use Rattle.symbols.specs.Columns.{unit_count, prefix_powers, unit_prefixed, unit_recommended, unit_bases, unit_powers, unit_primes}
use Rattle.symbols.specs.Views.{slot_in}
use Rattle.symbols.proofs.Computing.{columns_compute}
use Rattle.symbols.proofs.SetLaws.{alike, told_by_bits, bit_member}
use Rattle.symbols.proofs.RowLaws.{every, every_at}

-- what is past the end
abbrev no_unit : KnownUnit
no_unit = bare [] (ten_to (pos 0) [])

-- LAWFUL AND RECOMMENDED

set_told : KnownUnit → Bool
set_told u = told_by_bits u.prefixed_in

sets_told : T (every set_told units)
unfolding every set_told told_by_bits all_below alike columns_compute
sets_told = tt

no_set_told : T (set_told no_unit)
unfolding set_told told_by_bits all_below alike columns_compute
no_set_told = tt

-- the bits of a row's set tell where a prefix is lawful
pub prefixed_at : (n u : ℕ) → has_bit n (get_or unit_prefixed u 0) ≡ member n (unit_at u).prefixed_in
unfolding unit_prefixed bits set_told
prefixed_at n u =
    rw (get_or-map (λ (x : KnownUnit). bits x.prefixed_in) units u no_unit)
    (bit_member n (unit_at u).prefixed_in (every_at set_told units no_unit sets_told no_set_told u))

pub recommended_at : (u : ℕ) → get_or unit_recommended u true ≡ (unit_at u).recommended
unfolding unit_recommended
recommended_at u = get_or-map (λ (x : KnownUnit). x.recommended) units u no_unit

-- FOUR VALUES FOR EACH UNIT

four_at : {A : Type 0} (f : ℕ → KnownUnit → A) (d : A) → ((k : ℕ) → k < 4 → f k no_unit ≡ d) → (us : List KnownUnit) (u k : ℕ) → k < 4
    → get_or (four_each f us) (u * 4 + k) d ≡ f k (get_or us u no_unit)
unfolding four_each
four_at f d e [] u k h = sym (e k h)
four_at f d e (x ∷ us) zero k h =
    let z : zero * 4 + k ≡ k = omega arith in
    rw z (go k h)
  where
    go : (k : ℕ) → k < 4 → get_or (f 0 x ∷ f 1 x ∷ f 2 x ∷ f 3 x ∷ four_each f us) k d ≡ f k x
    go zero h = refl
    go (suc zero) h = refl
    go (suc (suc zero)) h = refl
    go (suc (suc (suc zero))) h = refl
    go (suc (suc (suc (suc k)))) h = absurd (omega arith)
four_at f d e (x ∷ us) (suc u) k h =
    let z : suc u * 4 + k ≡ suc (suc (suc (suc (u * 4 + k)))) = omega arith in
    rw z (four_at f d e us u k h)

no_primes : (k : ℕ) → k < 4 → prime_slot k no_unit ≡ pos 0
unfolding multiplicity
no_primes zero h = refl
no_primes (suc zero) h = refl
no_primes (suc (suc zero)) h = refl
no_primes (suc (suc (suc zero))) h = refl
no_primes (suc (suc (suc (suc k)))) h = absurd (omega arith)

module _ (u k : ℕ) (h : k < 4) where
  pub base_at : get_or unit_bases (u * 4 + k) 0 ≡ (slot k (unit_at u)).base
  unfolding unit_bases
  base_at = four_at (λ k u. (slot k u).base) 0 (λ k g. refl) units u k h

  pub power_at : get_or unit_powers (u * 4 + k) (pos 0) ≡ (slot k (unit_at u)).power
  unfolding unit_powers
  power_at = four_at (λ k u. (slot k u).power) (pos 0) (λ k g. refl) units u k h

  pub primes_at : get_or unit_primes (u * 4 + k) (pos 0) ≡ prime_slot k (unit_at u)
  unfolding unit_primes
  primes_at = four_at prime_slot (pos 0) no_primes units u k h

-- past the last unit
pub units_count : length units ≡ unit_count
unfolding columns_compute
units_count = refl

past_units : unit_at unit_count ≡ no_unit
past_units = get_or-eq_default units no_unit (omega (arith, units_count))

pub no_slot : (k : ℕ) → slot k (unit_at unit_count) ≡ unused
no_slot k = ap (slot k) past_units

pub no_prime_slot : (k : ℕ) → k < 4 → prime_slot k (unit_at unit_count) ≡ pos 0
no_prime_slot k h = ap (prime_slot k) past_units ∙ no_primes k h

-- PREFIXES

pub tens_at : (i : ℕ) → get_or prefix_powers i (pos 0) ≡ (power_of (some i)).0
unfolding prefix_powers
tens_at i = get_or-map (λ (p : Prefix). p.power.0) prefixes i (prefix "" (pos 0))

-- ten holds 2 and 5, the primes at even places, and neither 3 nor 487
pub odd_prime : (k : ℕ) → k < 4 → k % 2 ≡ 1 → (t : Tens) → pos 0 ≡ in_tens (prime_at k) t
odd_prime zero h e z = absurd (omega arith)
odd_prime (suc zero) h e z = refl
odd_prime (suc (suc zero)) h e z = absurd (omega arith)
odd_prime (suc (suc (suc zero))) h e z = refl
odd_prime (suc (suc (suc (suc k)))) h e z = absurd (omega arith)

pub even_prime : (k : ℕ) → k < 4 → (k % 2 ≡ 1 → ⊥) → (t : Tens) → t.0 ≡ in_tens (prime_at k) t
even_prime zero h e z = refl
even_prime (suc zero) h e z = absurd (e refl)
even_prime (suc (suc zero)) h e z = refl
even_prime (suc (suc (suc zero))) h e z = absurd (e refl)
even_prime (suc (suc (suc (suc k)))) h e z = absurd (omega arith)

-- SIZES

-- at most m, up or down
below : ℕ → ℤ → Bool
below m z = leb (mag z) m

below_at : (m : ℕ) (zs : List ℤ) → T (every (below m) zs) → (i : ℕ) → mag (get_or zs i (pos 0)) ≤ m
unfolding below
below_at m zs t i = leb→le (mag (get_or zs i (pos 0))) m (every_at (below m) zs (pos 0) t (le→leb 0 m (omega arith)) i)

tens_below : T (every (below 24) prefix_powers)
unfolding every below columns_compute
tens_below = tt

primes_below : T (every (below 28) unit_primes)
unfolding every below columns_compute
primes_below = tt

powers_below : T (every (below 4) unit_powers)
unfolding every below columns_compute
powers_below = tt

difference : (a b : ℕ) → mag (sub_ℕ a (suc b)) ≤ a + b + 1
difference a b = go (ltb a (suc b))
  where
    go : (x : Bool) → mag (cond x (negsuc (suc b - suc a)) (pos (a - suc b))) ≤ a + b + 1
    go true = omega arith
    go false = omega arith

mag_sum : (a b : ℤ) → mag (a +ℤ b) ≤ mag a + mag b + 1
mag_sum (pos a) (pos b) = omega arith
mag_sum (pos a) (negsuc b) = difference a b
mag_sum (negsuc a) (pos b) = omega (arith, difference b a)
mag_sum (negsuc a) (negsuc b) = omega arith

-- a small number is held as itself
pub byte_held : {z : ℤ} → mag z < 128 → to_z w8 (of_z w8 z) ≡ z
byte_held h = to_z-of_z {w = w8} (record { sfits = h })

pub small_fits : {z : ℤ} → mag z ≤ 53 → SFits w32 z
small_fits h = record { sfits = omega arith }

pub held : (z y : ℤ) → z ≡ y → mag y ≤ 53 → to_z w32 (of_z w32 z) ≡ y
held z y e h = rw e (to_z-of_z (small_fits h))

-- A slot's power is at most 4, up or down.
pub slot_small : (k : ℕ) → k < 4 → (y : Symbol) → mag (slot_in k y).power ≤ 4
unfolding slot_in
slot_small k h (known p u) = rw (← power_at u k h) (below_at 4 unit_powers powers_below (u * 4 + k))
slot_small k h (unknown p l) = omega arith

pub tens_small : (p : Option ℕ) → mag (power_of p).0 ≤ 24
tens_small none = omega arith
tens_small (some i) = rw (← tens_at i) (below_at 24 prefix_powers tens_below i)

pub in_tens_small : (k : ℕ) (p : Option ℕ) → mag (in_tens (prime_at k) (power_of p)) ≤ 24
in_tens_small k p = go (eqb (10 % prime_at k) 0)
  where
    go : (b : Bool) → mag (pick b (power_of p).0 (pos 0)) ≤ 24
    go true = tens_small p
    go false = omega arith

pub primes_small : (i : ℕ) → mag (get_or unit_primes i (pos 0)) ≤ 28
primes_small i = below_at 28 unit_primes primes_below i

-- The exponent of a prime in a symbol is at most 53, up or down.
pub prime_small : (k : ℕ) → k < 4 → (y : Symbol) → mag (prime_in (prime_at k) y) ≤ 53
unfolding prime_in
prime_small k h (known p u) =
    let b : mag (prime_slot k (unit_at u)) ≤ 28 = rw (← primes_at u k h) (primes_small (u * 4 + k)) in
    omega (arith, mag_sum (in_tens (prime_at k) (power_of p)) (prime_slot k (unit_at u)), in_tens_small k p)
prime_small k h (unknown p l) = omega (arith, in_tens_small k p)

-- THE SLOTS OF A SYMBOL HOLD ITS BASES

adds_unused : (b : ℕ) → adds b unused ≡ pos 0
adds_unused b = go (eqb b 0)
  where
    go : (x : Bool) → pick x (pos 0) (pos 0) ≡ pos 0
    go true = refl
    go false = refl

has_few : KnownUnit → Bool
has_few u = leb (length u.size.bases) 4

units_few : T (every has_few units)
unfolding every has_few columns_compute
units_few = tt

bases_few : (u : ℕ) → length (unit_at u).size.bases ≤ 4
unfolding has_few
bases_few u = leb→le (length (unit_at u).size.bases) 4 (every_at has_few units no_unit units_few tt u)

-- what four slots add to the power of base b
abbrev pub four_adds : ℕ → (ℕ → BasePower) → ℤ
four_adds b f = adds b (f 0) +ℤ (adds b (f 1) +ℤ (adds b (f 2) +ℤ adds b (f 3)))

slots_add : (b : ℕ) (xs : List BasePower) → length xs ≤ 4 → base_power b xs ≡ four_adds b (λ k. get_or xs k unused)
unfolding base_power
slots_add b [] h = rw (adds_unused b)
slots_add b (w ∷ []) h = rw (adds_unused b)
slots_add b (w ∷ x ∷ []) h = rw (adds_unused b)
slots_add b (w ∷ x ∷ y ∷ []) h = rw (adds_unused b)
slots_add b (w ∷ x ∷ y ∷ z ∷ []) h = rw (+ℤ_idr (adds b z))
slots_add b (v ∷ w ∷ x ∷ y ∷ z ∷ xs) h = absurd (omega arith)

-- The power of base b in a symbol is what its four slots add.
pub slots_are : (b : ℕ) (y : Symbol) → base_in b y ≡ four_adds b (λ k. slot_in k y)
unfolding base_in slot_in
slots_are b (known p u) = slots_add b (unit_at u).size.bases (bases_few u)
slots_are b (unknown p l) = rw (adds_unused b)
