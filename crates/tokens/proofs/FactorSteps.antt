-- Factors at a place of the text: one law for each way through the code.
use Prim.Native.Nat.{ℕ, zero, suc, ◌≤◌, ◌<◌, ◌+◌, ◌-◌}
use native.Mathlib.Omega.{arith}
use native.Mathlib.Decide.{dec_le, dec_lt}
use mathlib.Core.Path.{◌≡◌, refl, sym, ap, ◌∙◌}
use mathlib.Core.Bool.{Bool, true, false, ◌&&◌}
use mathlib.Core.List.{List, [], ◌∷◌}
use lib.Dec.{eqb, leb, leb-zero, leb-suc-zero, leb-suc-suc}
use lib.ListN.{length, take, drop, get_or, length-drop}
use lib.Pointwise.{pointwise}
use borrow.Author.Tests.{eq-eqb, ne_eqb, le-leb, lt-leb}
use Rattle.label.specs.declared.Rules.{Rules}
use Rattle.std.proofs.Common.{Option, Some}
use Rattle.label.specs.declared.SignedDigits.{SignedDigits}
use Rattle.label.specs.declared.WrittenFactor.{WrittenFactor}
use Rattle.label.specs.declared.WrittenFactor.TheVariants.{TenTo, Zeros}
use Rattle.label.specs.Bytes.{caret, digit_zero, digit_one, open_bracket, star, digit, run_on, run, all}
use Rattle.label.specs.Choice.{pick}
use Rattle.label.specs.Lexical.{Numeral, Factor, ten_to}
use Rattle.label.specs.Parse.{Found, none, mapped, closed, unsigned, sign, after_sign, integer, plain_digits, plain_factor, wrapped, starred_factor, ten_factor, ten, factor}
use Rattle.label.specs.Ranges.{between, numeral_in, factor_in, FactorInside}
use Rattle.scan.specs.Runs.{Run, is_zero}
use Rattle.tokens.specs.declared.At.{At}
use Rattle.tokens.specs.Answers.{As, ClosedAt, FoundInteger, ReadsFactor, ReadsInteger}
use Rattle.label.proofs.Between.{length_between, between_cons}
use Rattle.tokens.proofs.Numbers.{run_length}
use Rattle.tokens.proofs.Readers.{by_byte, none_closed, on_from, closed_read, integer_read}

-- ONE AND ZEROS

-- a beginning of k bytes passes the test exactly if the run is that long
all_take : (p : ℕ → Bool) (l : List ℕ) (k : ℕ) → k ≤ length l → all p (take k l) ≡ leb k (length (run p l))
unfolding all run
all_take p l zero h = sym (leb-zero (length (run p l)))
all_take p [] (suc k) h = absurd (omega arith)
all_take p (c ∷ l) (suc k) h = go (p c) (all_take p l k (omega arith))
  where
    go : (b : Bool) → all p (take k l) ≡ leb k (length (run p l)) → (b && all p (take k l)) ≡ leb (suc k) (length (run_on b c (run p l)))
    go true ih = ih ∙ sym (leb-suc-suc k (length (run p l)))
    go false ih = sym (leb-suc-zero k)

-- both sides less by as much
leb_less : (a e z : ℕ) → a ≤ e → a ≤ z → leb (e - a) (z - a) ≡ leb e z
leb_less a e z h g = go (dec_le e z)
  where
    go : Dec (e ≤ z) → leb (e - a) (z - a) ≡ leb e z
    go (yes l) = le-leb (e - a) (z - a) (omega arith) ∙ sym (le-leb e z l)
    go (no l) = lt-leb (e - a) (z - a) (omega arith) ∙ sym (lt-leb e z (omega arith))

all_between : (p : ℕ → Bool) (s : List ℕ) (a e z : ℕ) → a ≤ e → e ≤ length s → Run p s a z → all p (between s a e) ≡ leb e z
all_between p s a e z h g w =
    all_take p (drop a s) (e - a) (omega (arith, length-drop a s)) ∙ ap (λ (n : ℕ). leb (e - a) n) (run_length p s a z w) ∙ leb_less a e z h w.from

between_nothing : (s : List ℕ) (a e : ℕ) → e ≤ a → between s a e ≡ []
between_nothing s a e h = let z : e - a ≡ 0 = omega arith in rw z

module _ (s : List ℕ) (a e : ℕ) where
  pub plain_empty : e ≤ a → false ≡ plain_digits (between s a e)
  unfolding plain_digits
  plain_empty h = rw (between_nothing s a e h)

  pub plain_other : a < e → e ≤ length s → (get_or s a 0 ≡ digit_one → ⊥) → false ≡ plain_digits (between s a e)
  unfolding plain_digits
  plain_other h g n = rw (between_cons s a e h g, ne_eqb _ _ n)

  pub plain_run : (z : ℕ) → a < e → e ≤ length s → get_or s a 0 ≡ digit_one → Run is_zero s (a + 1) z → leb e z ≡ plain_digits (between s a e)
  unfolding plain_digits
  plain_run z h g n w = rw (between_cons s a e h g, n) (sym (all_between is_zero s (a + 1) e z (omega arith) g w))

  plain_nonempty : plain_digits (between s a e) ≡ true → a < e
  plain_nonempty p = go (dec_lt a e)
    where
      go : Dec (a < e) → a < e
      go (yes h) = h
      go (no h) = absurd (let z : ◌≡◌ {A = ℕ} 0 1 = cc (plain_empty (omega arith)) in omega arith)

-- the number of zeros can be counted
pub zeros_room : (s : List ℕ) (a e : ℕ) {y : Bool} → y ≡ plain_digits (between s a e) → y ≡ true → 1 ≤ e - a
zeros_room s a e q t = let h = plain_nonempty s a e (sym q ∙ t) in omega arith

module _ (r : Rules) (s : List ℕ) (start end : ℕ) where
  pub plain_read : end ≤ length s → plain_digits (between s start end) ≡ true → r.plain ≡ true
      → ReadsFactor (plain_factor r (between s start end) (drop end s)) s end (Some (record { value = Zeros (end - start - 1); next = end }))
  unfolding plain_factor
  plain_read g p q = record { is = rw (p, q, length_between s start end g); ahead = omega arith; within = g; inside = tt }

  pub plain_none : (plain_digits (between s start end) && r.plain) ≡ false → plain_factor r (between s start end) (drop end s) ≡ none
  unfolding plain_factor
  plain_none p = rw p

-- TEN TO AN INTEGER

-- an integer as a power of ten
tens_read : {x : Found Factor} (s : List ℕ) (at : ℕ) (i : Option SignedDigits) {o : Option (At WrittenFactor)} → x ≡ mapped ten_to (integer (drop at s)) → ReadsInteger (integer (drop at s)) s at i
    → As TenTo i o → ReadsFactor x s at o
tens_read s at i e w q = integer_read factor_in FactorInside s at TenTo ten_to (λ n. refl) (λ n j. j) _ i e w q

module _ (r : Rules) (s : List ℕ) (at : ℕ) where
  wrapped_is : wrapped r (drop at s)
      ≡ pick (eqb (get_or s at 0) open_bracket && r.wrapped) (closed ten_to (integer (drop (at + 1) s))) (mapped ten_to (integer (drop at s)))
  unfolding wrapped mapped integer after_sign unsigned
  wrapped_is =
      by_byte (wrapped r) (λ c w u. pick (eqb c open_bracket && r.wrapped) (closed ten_to (integer u)) (mapped ten_to (integer w))) (λ c u. refl) refl s at

  module _ (e : (eqb (get_or s at 0) open_bracket && r.wrapped) ≡ true) where
    pub wrapped_no_integer : integer (drop (at + 1) s) ≡ none → wrapped r (drop at s) ≡ none
    wrapped_no_integer w = wrapped_is ∙ rw e (ap (λ (x : Found Numeral). closed ten_to x) w ∙ none_closed ten_to)

    pub wrapped_bracket : {n : SignedDigits} (o : Option (At WrittenFactor)) → FoundInteger (integer (drop (at + 1) s)) s (at + 1) n
        → ClosedAt s n.digits.end (TenTo n) o → ReadsFactor (wrapped r (drop at s)) s at o
    wrapped_bracket {n} o w v =
        on_from factor_in FactorInside s at n.digits.end o
        (wrapped_is ∙ rw e (ap (λ (x : Found Numeral). closed ten_to x) w.is))
        (omega (arith, w.ahead, w.inside.forward)) (closed_read factor_in FactorInside s n.digits.end ten_to (numeral_in s n) (TenTo n) o refl w.inside v)

  pub wrapped_bare : (i : Option SignedDigits) {o : Option (At WrittenFactor)} → (eqb (get_or s at 0) open_bracket && r.wrapped) ≡ false → ReadsInteger (integer (drop at s)) s at i
      → As TenTo i o → ReadsFactor (wrapped r (drop at s)) s at o
  wrapped_bare i e w q = tens_read s at i (wrapped_is ∙ rw e) w q

  starred_is : starred_factor r (drop at s) ≡ pick (eqb (get_or s at 0) star) (wrapped r (drop (at + 1) s)) none
  unfolding starred_factor
  starred_is = by_byte (starred_factor r) (λ c w u. pick (eqb c star) (wrapped r u) none) (λ c u. refl) refl s at

  pub starred_factor_star : (o : Option (At WrittenFactor)) → get_or s at 0 ≡ star → ReadsFactor (wrapped r (drop (at + 1) s)) s (at + 1) o → ReadsFactor (starred_factor r (drop at s)) s at o
  starred_factor_star o e v = on_from factor_in FactorInside s at (at + 1) o (starred_is ∙ rw (eq-eqb _ _ e)) (omega arith) v

  pub starred_factor_none : (get_or s at 0 ≡ star → ⊥) → starred_factor r (drop at s) ≡ none
  starred_factor_none e = starred_is ∙ rw (ne_eqb _ _ e)

module _ (r : Rules) (s ds : List ℕ) (at : ℕ) where
  ten_is : ten_factor r ds (drop at s)
      ≡ pick (sign (get_or s at 0) && r.signed) (mapped ten_to (integer (drop at s)))
      (pick (eqb (get_or s at 0) caret && r.caret) (wrapped r (drop (at + 1) s))
      (pick (eqb (get_or s at 0) star) (starred_factor r (drop (at + 1) s))
      (plain_factor r ds (drop at s))))
  unfolding ten_factor
  ten_is =
      by_byte (ten_factor r ds)
      (λ c w u. pick (sign c && r.signed) (mapped ten_to (integer w))
      (pick (eqb c caret && r.caret) (wrapped r u) (pick (eqb c star) (starred_factor r u) (plain_factor r ds w))))
      (λ c u. refl) refl s at

  pub ten₁ : (i : Option SignedDigits) {o : Option (At WrittenFactor)} → (sign (get_or s at 0) && r.signed) ≡ true → ReadsInteger (integer (drop at s)) s at i
      → As TenTo i o → ReadsFactor (ten_factor r ds (drop at s)) s at o
  ten₁ i e w q = tens_read s at i (ten_is ∙ rw e) w q

  module _ (a : (sign (get_or s at 0) && r.signed) ≡ false) where
    pub ten₂ : (o : Option (At WrittenFactor)) → (eqb (get_or s at 0) caret && r.caret) ≡ true → ReadsFactor (wrapped r (drop (at + 1) s)) s (at + 1) o
        → ReadsFactor (ten_factor r ds (drop at s)) s at o
    ten₂ o e v = on_from factor_in FactorInside s at (at + 1) o (ten_is ∙ rw (a, e)) (omega arith) v

    module _ (b : (eqb (get_or s at 0) caret && r.caret) ≡ false) where
      pub ten₃ : (o : Option (At WrittenFactor)) → get_or s at 0 ≡ star → ReadsFactor (starred_factor r (drop (at + 1) s)) s (at + 1) o
          → ReadsFactor (ten_factor r ds (drop at s)) s at o
      ten₃ o e v = on_from factor_in FactorInside s at (at + 1) o (ten_is ∙ rw (a, b, eq-eqb _ _ e)) (omega arith) v

      pub ten₄ : (o : Option (At WrittenFactor)) → (get_or s at 0 ≡ star → ⊥) → ReadsFactor (plain_factor r ds (drop at s)) s at o → ReadsFactor (ten_factor r ds (drop at s)) s at o
      ten₄ o e v = on_from factor_in FactorInside s at at o (ten_is ∙ rw (a, b, ne_eqb _ _ e)) (omega arith) v

-- THE WHOLE FACTOR

-- comparing with the digits 10 tells what `ten` tells
pub is_ten : (l : List ℕ) → pointwise eqb l (digit_one ∷ digit_zero ∷ []) ≡ ten l
unfolding ten
is_ten [] = refl
is_ten (c ∷ []) = go (eqb c digit_one)
  where
    go : (a : Bool) → (a && false) ≡ false
    go true = refl
    go false = refl
is_ten (c ∷ d ∷ []) = go (eqb c digit_one) (eqb d digit_zero)
  where
    go : (a b : Bool) → (a && (b && true)) ≡ (a && b)
    go true true = refl
    go true false = refl
    go false b = refl
is_ten (c ∷ d ∷ e ∷ l) = go (eqb c digit_one) (eqb d digit_zero)
  where
    go : (a b : Bool) → (a && (b && false)) ≡ false
    go true true = refl
    go true false = refl
    go false b = refl

module _ (r : Rules) {s : List ℕ} {at end : ℕ} (w : Run digit s at end) {x : Bool} (q : x ≡ ten (between s at end)) (o : Option (At WrittenFactor)) where
  pub factor₁ : x ≡ true → ReadsFactor (ten_factor r (between s at end) (drop end s)) s end o → ReadsFactor (factor r (drop at s)) s at o
  unfolding factor
  factor₁ t v = on_from factor_in FactorInside s at end o (rw (← w.bytes, ← w.rest, sym q ∙ t)) w.from v

  pub factor₂ : x ≡ false → ReadsFactor (plain_factor r (between s at end) (drop end s)) s end o → ReadsFactor (factor r (drop at s)) s at o
  unfolding factor
  factor₂ t v = on_from factor_in FactorInside s at end o (rw (← w.bytes, ← w.rest, sym q ∙ t)) w.from v
