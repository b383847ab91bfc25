-- Sums that are totals over terms: one term more, where they start, how large they are, and what they list.
use Prim.Native.Nat.{ℕ, zero, suc, ◌+◌, ◌*◌, ◌<◌, ◌≤◌, ◌^◌}
use native.Mathlib.Omega.{arith}
use mathlib.Core.Path.{◌≡◌, refl, sym, ap, ◌∙◌}
use mathlib.Core.List.{List, [], ◌∷◌, map}
use lib.IntN.{ℤ, pos, nat_abs, ◌+ℤ◌, ◌*ℤ◌, +ℤ_idl, +ℤ_idr, +ℤ_assoc}
use lib.ListN.{length, get_or, length-replicate}
use mir.Syntax.{w64}
use mir.Val.{to_z, of_z}
use mir.Facts.{to_z-of_z}
use Rattle.label.specs.declared.Exponent.{Exponent}
use Rattle.label.specs.declared.Tens.{Tens}
use Rattle.label.specs.Units.{base_count, in_tens}
use Rattle.label.specs.Reading as spec
use Rattle.label.specs.Reading.{exponent, sum, times, one, base_in, prime_in, total, dimensions_of, scale_of}
use Rattle.label.specs.Symbols.{Symbol}
use Rattle.label.specs.Limits.{most_terms}
use Rattle.symbols.specs.Slots.{prime_at}
use Rattle.symbols.specs.Views.{symbol_in}
use Rattle.symbols.specs.declared.SymbolAt.{SymbolAt}
use Rattle.descent.specs.declared.terms.Terms.{Terms}
use Rattle.descent.specs.Terms.{term_at}
use Rattle.content.specs.Views.{noted_symbol, symbol_at, term_in, terms_in, scale_in}
use Rattle.content.specs.Sums.{SumsWithin, Summable, Added, zero_sums}
use Rattle.content.specs.Totals.{SameExponents}
use Rattle.content.proofs.Integers.{wide_fits}
use Rattle.content.proofs.Listing.{listed}
use Rattle.content.proofs.Naming.{terms_more}
use Rattle.content.proofs.TermLaws.{total_more}

-- to each sum of xs the total over the terms has been added
pub record Totals (f : ℕ → Symbol → ℤ) (ts : List spec.Term) (xs ys : List ℤ) : Type 0 where
  pub room : length ys ≡ length xs
  pub sums : (b : ℕ) → b < length xs → get_or ys b (pos 0) ≡ get_or xs b (pos 0) +ℤ (total (f b) ts).0

pub no_totals : (f : ℕ → Symbol → ℤ) (xs : List ℤ) → Totals f [] xs xs
unfolding total
no_totals f xs = record { room = refl; sums = λ b h. sym (+ℤ_idr (get_or xs b (pos 0))) }

-- the terms with one more, term i, which has the symbol y and the exponent e
pub one_total : {f : ℕ → Symbol → ℤ} {xs ys zs : List ℤ} {y : SymbolAt} {e : Exponent} (s : List ℕ) (t : Terms) (x : List SymbolAt) (i : ℕ)
    → y ≡ noted_symbol x i → e ≡ (term_at t i).exponent → Totals f (terms_in s t x i) xs ys → Added (λ b. f b (symbol_in s y)) e ys zs
    → Totals f (terms_in s t x (i + 1)) xs zs
one_total {f} {xs} {ys} {zs} {y} {e} s t x i told same v a = record {
  room = a.room ∙ v.room;
  sums = λ b l.
      let z = f b (symbol_at s x i) *ℤ (term_at t i).exponent.0 in
      a.added b (omega (arith, v.room))
      ∙ ap (λ (w : SymbolAt). get_or ys b (pos 0) +ℤ f b (symbol_in s w) *ℤ e.0) told
      ∙ ap (λ (w : Exponent). get_or ys b (pos 0) +ℤ f b (symbol_at s x i) *ℤ w.0) same
      ∙ ap (λ (w : ℤ). w +ℤ z) (v.sums b l)
      ∙ +ℤ_assoc (get_or xs b (pos 0)) (total (f b) (terms_in s t x i)).0 z
      ∙ ap (λ (w : ℤ). get_or xs b (pos 0) +ℤ w) (sym (total_more (f b) (terms_in s t x i) (term_in s t x i)))
      ∙ ap (λ (us : List spec.Term). get_or xs b (pos 0) +ℤ (total (f b) us).0) (sym (terms_more s t x i));
}

-- a total reads the exponents and no place of a spelling
same_total : (f : Symbol → ℤ) (s : List ℕ) (t u : Terms) (x : List SymbolAt) (n : ℕ) → SameExponents t u n
    → (total f (terms_in s t x n)).0 ≡ (total f (terms_in s u x n)).0
unfolding terms_in
same_total f s t u x zero h = refl
same_total f s t u x (suc n) h =
    total_more f (terms_in s t x n) (term_in s t x n)
    ∙ ap (λ (z : ℤ). z +ℤ f (symbol_at s x n) *ℤ (term_at t n).exponent.0) (same_total f s t u x n (record { same = λ i l. h.same i (omega arith) }))
    ∙ ap (λ (e : Exponent). (total f (terms_in s u x n)).0 +ℤ f (symbol_at s x n) *ℤ e.0) (sym (h.same n (omega arith)))
    ∙ sym (total_more f (terms_in s u x n) (term_in s u x n))

pub same_totals : {f : ℕ → Symbol → ℤ} {xs ys : List ℤ} (s : List ℕ) (t u : Terms) (x : List SymbolAt) (n : ℕ) → SameExponents t u n
    → Totals f (terms_in s t x n) xs ys → Totals f (terms_in s u x n) xs ys
same_totals {f} {xs} {ys} s t u x n h v = record {
  room = v.room;
  sums = λ b l. v.sums b l ∙ ap (λ (z : ℤ). get_or xs b (pos 0) +ℤ z) (same_total (f b) s t u x n h);
}

-- WHERE THE SUMS START

-- the dimensions start at 0
zero_at : (n b : ℕ) → get_or (zero_sums n) b (pos 0) ≡ pos 0
zero_at zero b = refl
zero_at (suc n) zero = refl
zero_at (suc n) (suc b) = zero_at n b

pub zeros_within : (n m : ℕ) → SumsWithin m (zero_sums n)
zeros_within n m = record { within = λ b. rw (zero_at n b) (omega arith) }

-- the scale starts at the factor's tens: a number for 2 and for 5, and nothing for 3 and for 487
abbrev pub tens : ℤ → List ℤ
tens z = z ∷ pos 0 ∷ z ∷ pos 0 ∷ []

module _ (r : ℤ) (small : nat_abs r ≤ 2 ^ 37) where
  ten_held : to_z w64 (of_z w64 r) ≡ r
  ten_held = to_z-of_z (wide_fits (omega arith))

  pub tens_within : SumsWithin (2 ^ 37) (tens (to_z w64 (of_z w64 r)))
  tens_within = let h : nat_abs (to_z w64 (of_z w64 r)) ≤ 2 ^ 37 = rw ten_held (omega arith) in record { within = go (to_z w64 (of_z w64 r)) h }
    where
      go : (z : ℤ) → nat_abs z ≤ 2 ^ 37 → (b : ℕ) → nat_abs (get_or (tens z) b (pos 0)) ≤ 2 ^ 37
      go z h zero = h
      go z h (suc zero) = omega arith
      go z h (suc (suc zero)) = h
      go z h (suc (suc (suc zero))) = omega arith
      go z h (suc (suc (suc (suc b)))) = omega arith

  -- the number is sixty times the factor's power of ten
  module _ (k : Tens) (q : r ≡ k.0 *ℤ pos 60) where
    ten_is : to_z w64 (of_z w64 r) ≡ k.0 *ℤ pos 60
    ten_is = ten_held ∙ q

    pub tens_are : (b : ℕ) → b < 4 → get_or (tens (to_z w64 (of_z w64 r))) b (pos 0) ≡ in_tens (prime_at b) k *ℤ pos 60
    tens_are zero h = ten_is
    tens_are (suc zero) h = refl
    tens_are (suc (suc zero)) h = ten_is
    tens_are (suc (suc (suc zero))) h = refl
    tens_are (suc (suc (suc (suc b)))) h = absurd (omega arith)

-- SIZES

-- how large a sum is at most after i terms
abbrev pub bound : ℕ → ℕ
bound i = 2 ^ 37 + i * 2 ^ 39

pub summable : {n : ℕ} (i : ℕ) {ys : List ℤ} → length ys ≡ n → i < most_terms → SumsWithin (bound i) ys → Summable n ys
summable i e h w = record { room = e; small = record { within = λ b. omega (arith, w.within b) } }

pub bound_more : (i : ℕ) {power : ℕ → ℤ} {e : Exponent} {ys zs : List ℤ} → SumsWithin (bound i) ys → Added power e ys zs → SumsWithin (bound (i + 1)) zs
bound_more i w a = record { within = λ b. omega (arith, (a.growth (bound i) w).within b) }

-- DIMENSIONS AND SCALE

-- the dimensions, from sums that started at 0
pub dimensions_are : (ts : List spec.Term) (ys : List ℤ) → Totals base_in ts (zero_sums base_count) ys → map exponent ys ≡ dimensions_of ts
unfolding dimensions_of
dimensions_are ts ys v =
    listed base_count (λ b. total (base_in b) ts) ys (v.room ∙ length-replicate base_count (pos 0))
    (λ b h. ap exponent
    (v.sums b (omega (arith, length-replicate base_count (pos 0)))
    ∙ ap (λ (z : ℤ). z +ℤ (total (base_in b) ts).0) (zero_at base_count b)
    ∙ +ℤ_idl (total (base_in b) ts).0))

-- the scale, from sums that started at the factor's tens
pub scale_is : (k : Tens) (ts : List spec.Term) (xs ys : List ℤ) → length xs ≡ 4
    → ((b : ℕ) → b < 4 → get_or xs b (pos 0) ≡ in_tens (prime_at b) k *ℤ pos 60)
    → Totals (λ b. prime_in (prime_at b)) ts xs ys → scale_in ys ≡ scale_of k ts
unfolding scale_of
scale_is k ts xs ys e q v = λ i. record { of_2 = at 0 (omega arith) i; of_3 = at 1 (omega arith) i; of_5 = at 2 (omega arith) i; of_487 = at 3 (omega arith) i }
  where
    at : (b : ℕ) → b < 4 → exponent (get_or ys b (pos 0)) ≡ sum (times (in_tens (prime_at b) k) one) (total (prime_in (prime_at b)) ts)
    at b h = ap exponent (v.sums b (omega (arith, e)) ∙ ap (λ (z : ℤ). z +ℤ (total (prime_in (prime_at b)) ts).0) (q b h))
