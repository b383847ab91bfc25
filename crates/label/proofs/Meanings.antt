-- An accepted reading's verdicts, dimensions and scale are what document 01 says of its terms, and a refused reading is empty.
use Prim.Native.Nat.{ℕ, zero, suc, ◌<◌}
use native.Mathlib.Omega.{arith}
use mathlib.Core.Path.{◌≡◌, refl, sym, ap, ◌∙◌}
use mathlib.Core.Bool.{Bool, true, false}
use mathlib.Core.List.{List, [], ◌∷◌, map}
use mathlib.Core.Option.{Option, none, some}
use mathlib.Core.Logic.{◌↔◌, inl, inr}
use lib.IntN.{ℤ, pos, ◌+ℤ◌, ◌*ℤ◌, *ℤ_comm}
use lib.ListN.{get_or, length, length-map}
use Rattle.label.specs.declared.Exponent.{Exponent}
use Rattle.label.specs.declared.Tens.{Tens}
use Rattle.label.specs.Notations.{notation}
use Rattle.label.specs.Prefixes.{power_of}
use Rattle.label.specs.Units.{unit_at, multiplicity, in_tens, base_count}
use Rattle.label.specs.Symbols.{Symbol, known, unknown}
use Rattle.label.specs.Split.{one, Refused}
use Rattle.label.specs.Reading.{Term, every, is_known, is_lawful, is_recommended, base_in, prime_in, total, nothing, all_bases, dimensions_of, scale_of, Reading, refusal, reading_of, reading}
use Rattle.label.specs.Meaning.{◌∈◌, Named, Prefixable, unrecommended, Sum, BaseIn, dimension, prime_in_ten, PrimeIn, scale_exponent, Empty}
use Rattle.label.specs.Limits.{parts_of_one}
use Rattle.label.proofs.Basics.{false_true, and_left, and_right}
use Rattle.label.proofs.Listing.{up_to_length, up_to_map}
use Rattle.label.proofs.Tables.{lawful_prefixable, prefixable_lawful, recommended_unnamed, unnamed_recommended, row_power, row_product}
use Rattle.label.proofs.Refusals.{bounds}
use Rattle.label.proofs.Readings.{Answered, answer_of, accepted_reading, refused_reading, number_refused}

-- EVERY TERM

every_at : (f : Symbol → Bool) (ts : List Term) → every f ts ≡ true → (t : Term) → t ∈ ts → f t.symbol ≡ true
unfolding every
every_at f (x ∷ ts) e t (inl q) = rw q (and_left (f x.symbol) (every f ts) e)
every_at f (x ∷ ts) e t (inr h) = every_at f ts (and_right (f x.symbol) (every f ts) e) t h
every_at f [] e t h = elim h [ ]

at_every : (f : Symbol → Bool) (ts : List Term) → ((t : Term) → t ∈ ts → f t.symbol ≡ true) → every f ts ≡ true
unfolding every
at_every f [] h = refl
at_every f (x ∷ ts) h = rw (h x (inl refl), at_every f ts (λ t g. h t (inr g)))

-- the fields that come from the terms
record Fields (n : ℕ) (r : Reading) : Type 0 where
  pub notates : notation n ≡ true
  pub whole : r ≡ reading_of n r.k r.terms
  pub known : r.known ≡ every is_known r.terms
  pub lawful : r.lawful ≡ every (is_lawful n) r.terms
  pub recommended : r.recommended ≡ every is_recommended r.terms
  pub dimensions : r.dimensions ≡ dimensions_of r.terms
  pub scale : r.scale ≡ scale_of r.k r.terms

fields_of : (n : ℕ) (k : Tens) (ts : List Term) (r : Reading) → notation n ≡ true → r ≡ reading_of n k ts → Fields n r
unfolding reading_of
fields_of n k ts r h e = rw e (record { notates = h; whole = refl; known = refl; lawful = refl; recommended = refl; dimensions = refl; scale = refl })

fields : (n : ℕ) (s : List ℕ) → (reading n s).number ≡ 0 → Fields n (reading n s)
fields n s q = go (answer_of n s)
  where
    is_notation : (b : Bool) → notation n ≡ b → (notation n ≡ false → ⊥) → notation n ≡ true
    is_notation true e h = e
    is_notation false e h = absurd (h e)

    go : Answered n s → Fields n (reading n s)
    go (Answered.refusing i e d) =
        let l = (bounds d.holds).0 in
        absurd (omega (arith, l, (number_refused n s i l).1 d))
    go (Answered.accepting v a) = fields_of n v.k _ (reading n s) (is_notation (notation n) refl (λ e. a.clear 1 (one e))) (accepted_reading a)

pub of_its_terms : (n : ℕ) (s : List ℕ) → (reading n s).number ≡ 0 → reading n s ≡ reading_of n (reading n s).k (reading n s).terms
of_its_terms n s q = (fields n s q).whole

-- VERDICTS

-- a symbol of a known unit
abbrev IsKnown : Symbol → Type 0
IsKnown x = (p : Option ℕ) × (u : ℕ) × (x ≡ known p u)

known_to : (x : Symbol) → is_known x ≡ true → IsKnown x
unfolding is_known
known_to (known p u) e = (p, u, refl)
known_to (unknown p l) e = absurd (false_true e)

to_known : (x : Symbol) → IsKnown x → is_known x ≡ true
unfolding is_known
to_known x h = rw h.2

pub known_every : (n : ℕ) (s : List ℕ) → (reading n s).number ≡ 0
    → ((reading n s).known ≡ true) ↔ ((t : Term) → t ∈ (reading n s).terms → (p : Option ℕ) × (u : ℕ) × (t.symbol ≡ known p u))
known_every n s q =
    let f = fields n s q in (
      (λ e t h. known_to t.symbol (every_at is_known (reading n s).terms (sym f.known ∙ e) t h)),
      (λ g. f.known ∙ at_every is_known (reading n s).terms (λ t h. to_known t.symbol (g t h))),
    )

lawful_to : (n : ℕ) → notation n ≡ true → (x : Symbol) → is_lawful n x ≡ true → (p u : ℕ) → x ≡ known (some p) u → Prefixable n u
unfolding is_lawful
lawful_to n a x e p u q = lawful_prefixable n a u (rw q at e)

to_lawful : (n : ℕ) → notation n ≡ true → (x : Symbol) → ((p u : ℕ) → x ≡ known (some p) u → Prefixable n u) → is_lawful n x ≡ true
unfolding is_lawful
to_lawful n a (known none u) h = refl
to_lawful n a (known (some p) u) h = prefixable_lawful n a u (h p u refl)
to_lawful n a (unknown p l) h = refl

pub lawful_every : (n : ℕ) (s : List ℕ) → (reading n s).number ≡ 0
    → ((reading n s).lawful ≡ true) ↔ ((t : Term) (p u : ℕ) → t ∈ (reading n s).terms → t.symbol ≡ known (some p) u → Prefixable n u)
lawful_every n s q =
    let f = fields n s q in (
      (λ e t p u h g. lawful_to n f.notates t.symbol (every_at (is_lawful n) (reading n s).terms (sym f.lawful ∙ e) t h) p u g),
      (λ g. f.lawful ∙ at_every (is_lawful n) (reading n s).terms (λ t h. to_lawful n f.notates t.symbol (λ p u e. g t p u h e))),
    )

-- recommended: known, and by none of the names
recommended_known : (x : Symbol) → is_recommended x ≡ true → is_known x ≡ true
unfolding is_recommended is_known
recommended_known (known p u) e = refl
recommended_known (unknown p l) e = e

recommended_to : (x : Symbol) → is_recommended x ≡ true → (p : Option ℕ) (u : ℕ) → x ≡ known p u → Named u unrecommended → ⊥
unfolding is_recommended
recommended_to x e p u q h = recommended_unnamed u (rw q at e) h

to_recommended : (x : Symbol) → is_known x ≡ true → ((p : Option ℕ) (u : ℕ) → x ≡ known p u → Named u unrecommended → ⊥) → is_recommended x ≡ true
unfolding is_recommended is_known
to_recommended (known p u) e h = unnamed_recommended u (λ g. h p u refl g)
to_recommended (unknown p l) e h = e

pub recommended_every : (n : ℕ) (s : List ℕ) → (reading n s).number ≡ 0
    → ((reading n s).recommended ≡ true)
    ↔ (((reading n s).known ≡ true) × ((t : Term) (p : Option ℕ) (u : ℕ) → t ∈ (reading n s).terms → t.symbol ≡ known p u → Named u unrecommended → ⊥))
recommended_every n s q =
    let f = fields n s q in
    let ts = (reading n s).terms in (
      (λ e. (
        f.known ∙ at_every is_known ts (λ t h. recommended_known t.symbol (every_at is_recommended ts (sym f.recommended ∙ e) t h)),
        (λ t p u h g w. recommended_to t.symbol (every_at is_recommended ts (sym f.recommended ∙ e) t h) p u g w),
      )),
      (λ g. f.recommended ∙ at_every is_recommended ts (λ t h. to_recommended t.symbol (every_at is_known ts (sym f.known ∙ g.0) t h) (λ p u e w. g.1 t p u h e w))),
    )

-- DIMENSIONS AND SCALE

total_sum : (f : Symbol → ℤ) (Has : Symbol → ℤ → Type 0) → ((x : Symbol) → Has x (f x)) → (ts : List Term) → Sum Has ts (total f ts).0
unfolding total
total_sum f Has h [] = Sum.empty
total_sum f Has h (t ∷ ts) = Sum.added (h t.symbol) (total_sum f Has h ts)

base_has : (b : ℕ) (x : Symbol) → BaseIn b x (base_in b x)
unfolding base_in
base_has b (known p u) = BaseIn.by_size (row_power b u)
base_has b (unknown p l) = BaseIn.nowhere

dimensions_length : (ts : List Term) → length (dimensions_of ts) ≡ base_count
unfolding dimensions_of
dimensions_length ts = length-map all_bases (λ (b : ℕ). total (base_in b) ts) ∙ up_to_length base_count []

dimension_at : (b : ℕ) → b < base_count → (r : Reading) → r.dimensions ≡ dimensions_of r.terms → dimension b r ≡ (total (base_in b) r.terms).0
unfolding dimensions_of
dimension_at b h r e =
    ap (λ (es : List Exponent). (get_or es b nothing).0) e
    ∙ ap (λ (x : Exponent). x.0) (up_to_map base_count (λ (b : ℕ). total (base_in b) r.terms) nothing b h)

pub dimensions_sum : (n : ℕ) (s : List ℕ) → (reading n s).number ≡ 0
    → (length (reading n s).dimensions ≡ base_count) × ((b : ℕ) → b < base_count → Sum (BaseIn b) (reading n s).terms (dimension b (reading n s)))
dimensions_sum n s q =
    let f = fields n s q in (
      ap length f.dimensions ∙ dimensions_length (reading n s).terms,
      (λ b h. rw (dimension_at b h (reading n s) f.dimensions) (total_sum (base_in b) (BaseIn b) (base_has b) (reading n s).terms)),
    )

abbrev four_primes : List ℕ
four_primes = 2 ∷ 3 ∷ 5 ∷ 487 ∷ []

-- what holds at each of the four holds at all
at_primes : (P : ℕ → Type 0) → P 2 → P 3 → P 5 → P 487 → (p : ℕ) → p ∈ four_primes → P p
at_primes P a b c d p (inl e) = rw e a
at_primes P a b c d p (inr (inl e)) = rw e b
at_primes P a b c d p (inr (inr (inl e))) = rw e c
at_primes P a b c d p (inr (inr (inr (inl e)))) = rw e d
at_primes P a b c d p (inr (inr (inr (inr f)))) = elim f [ ]

in_tens_is : (p : ℕ) → p ∈ four_primes → (t : Tens) → in_tens p t ≡ prime_in_ten p t.0
in_tens_is p h t = at_primes (λ p. in_tens p t ≡ prime_in_ten p t.0) refl refl refl refl p h

prime_has : (p : ℕ) → p ∈ four_primes → (x : Symbol) → PrimeIn p x (prime_in p x)
unfolding prime_in
prime_has p h (known x u) = rw (in_tens_is p h (power_of x), in_tens_is p h (unit_at u).size.tens) (PrimeIn.with_size (λ p. multiplicity 64 p (unit_at u).size.count) (row_product u))
prime_has p h (unknown x l) = rw (in_tens_is p h (power_of x)) PrimeIn.prefix_only

scale_of_at : (k : Tens) (ts : List Term) (r : Reading) → r.scale ≡ scale_of k ts → (p : ℕ) → p ∈ four_primes
    → scale_exponent p r ≡ in_tens p k *ℤ pos parts_of_one +ℤ (total (prime_in p) ts).0
unfolding scale_of
scale_of_at k ts r q p h =
    at_primes (λ p. scale_exponent p r ≡ in_tens p k *ℤ pos parts_of_one +ℤ (total (prime_in p) ts).0) (rw q) (rw q) (rw q) (rw q) p h

pub scale_sum : (n : ℕ) (s : List ℕ) → (reading n s).number ≡ 0 → (p : ℕ) → p ∈ 2 ∷ 3 ∷ 5 ∷ 487 ∷ []
    → (z : ℤ) × Sum (PrimeIn p) (reading n s).terms z × (scale_exponent p (reading n s) ≡ pos parts_of_one *ℤ prime_in_ten p (reading n s).k.0 +ℤ z)
scale_sum n s q p h =
    let z = (total (prime_in p) (reading n s).terms).0 in (
      z,
      total_sum (prime_in p) (PrimeIn p) (prime_has p h) (reading n s).terms,
      scale_of_at (reading n s).k (reading n s).terms (reading n s) (fields n s q).scale p h
          ∙ ap (λ (y : ℤ). y *ℤ pos parts_of_one +ℤ z) (in_tens_is p h (reading n s).k)
          ∙ ap (λ (y : ℤ). y +ℤ z) (*ℤ_comm (prime_in_ten p (reading n s).k.0) (pos parts_of_one)),
    )

-- REFUSED READINGS

nothing_at : (xs : List ℕ) (i : ℕ) → get_or (map (λ (b : ℕ). nothing) xs) i nothing ≡ nothing
nothing_at [] i = refl
nothing_at (x ∷ xs) zero = refl
nothing_at (x ∷ xs) (suc i) = nothing_at xs i

refusal_scale : (i p : ℕ) → p ∈ four_primes → scale_exponent p (refusal i) ≡ pos 0
unfolding refusal
refusal_scale i p h = at_primes (λ p. scale_exponent p (refusal i) ≡ pos 0) refl refl refl refl p h

refusal_empty : (i : ℕ) → Empty (refusal i)
unfolding refusal
refusal_empty i = record {
  terms = refl;
  k = refl;
  dimensions = λ b. ap (λ (e : Exponent). e.0) (nothing_at all_bases b);
  scale = refusal_scale i;
  known = refl;
  lawful = refl;
  recommended = refl;
}

pub refused_empty : {i n : ℕ} {s : List ℕ} → Refused i n s → Empty (reading n s)
refused_empty {i} d = rw (refused_reading d) (refusal_empty i)
