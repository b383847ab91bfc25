-- Digits and integers at a place of the text: one law for each way through the code.
use Prim.Native.Nat.{ℕ, ◌≤◌, ◌<◌, ◌+◌, ◌-◌}
use native.Mathlib.Omega.{arith}
use mathlib.Core.Path.{◌≡◌, refl, sym, ap, ◌∙◌}
use mathlib.Core.Bool.{Bool, true, false, ◌||◌}
use mathlib.Core.List.{List, [], ◌∷◌}
use lib.Dec.{eqb}
use lib.ListN.{length, drop, get_or, length-drop}
use lib.Seq.{length-take-le}
use Rattle.std.proofs.Common.{Option, Some, None}
use Rattle.std.specs.Option.{option_map}
use Rattle.label.specs.declared.DigitRange.{DigitRange}
use Rattle.label.specs.Bytes.{plus, minus, digit, nonzero, run_on, run, past_on, past}
use Rattle.label.specs.Choice.{pick}
use Rattle.label.specs.Parse.{Found, none, found, mapped, unsigned, digits, numeral, sign, after_sign, integer}
use Rattle.scan.specs.Runs.{Run}
use Rattle.label.proofs.Basics.{true→T, nonzero_digit}
use Rattle.tokens.specs.Answers.{sign_end, FoundDigits, ReadsDigits, ReadsInteger}
use Rattle.scan.proofs.Places.{by_byte}

-- RUNS OF DIGITS

pub run_length : (p : ℕ → Bool) (s : List ℕ) (a z : ℕ) → Run p s a z → length (run p (drop a s)) ≡ z - a
run_length p s a z w = ap length (sym w.bytes) ∙ length-take-le (z - a) (drop a s) (omega (arith, length-drop a s, w.from, w.within))

digits_of_run : (l : List ℕ) → 0 < length (run digit l) → digits l ≡ found (run digit l) (past digit l)
unfolding digits run past
digits_of_run [] h = absurd (omega arith)
digits_of_run (c ∷ l) h = go (digit c) h
  where
    go : (b : Bool) → 0 < length (run_on b c (run digit l))
        → pick b (found (c ∷ run digit l) (past digit l)) none ≡ found (run_on b c (run digit l)) (past_on b (past digit l) (c ∷ l))
    go true h = refl
    go false h = absurd (omega arith)

no_digits_of_run : (l : List ℕ) → length (run digit l) ≡ 0 → digits l ≡ none
unfolding digits run
no_digits_of_run [] h = refl
no_digits_of_run (c ∷ l) h = go (digit c) h
  where
    go : (b : Bool) → length (run_on b c (run digit l)) ≡ 0 → pick b (found (c ∷ run digit l) (past digit l)) none ≡ none
    go true h = absurd (omega arith)
    go false h = refl

module _ (s : List ℕ) (at : ℕ) where
  pub digits_read : {e : ℕ} → Run digit s at e → at < e → FoundDigits (digits (drop at s)) s at (record { start = at; end = e })
  digits_read {e} w h = record {
    is = digits_of_run (drop at s) (omega (arith, run_length digit s at e w)) ∙ rw (← w.bytes, ← w.rest);
    ahead = omega arith;
    inside = record { forward = w.from; within = w.within };
  }

  pub digits_none : {e : ℕ} → Run digit s at e → (at < e → ⊥) → digits (drop at s) ≡ none
  digits_none {e} w h = no_digits_of_run (drop at s) (omega (arith, h, run_length digit s at e w))

  unsigned_is : unsigned (drop at s) ≡ pick (nonzero (get_or s at 0)) (digits (drop at s)) none
  unfolding unsigned digits nonzero
  unsigned_is = by_byte unsigned (λ c w u. pick (nonzero c) (digits w) none) (λ c u. go c u (nonzero c) refl) refl s at
    where
      go : (c : ℕ) (u : List ℕ) (b : Bool) → b ≡ nonzero c
          → pick b (found (c ∷ run digit u) (past digit u)) none ≡ pick b (pick (digit c) (found (c ∷ run digit u) (past digit u)) none) none
      go c u true e = rw (nonzero_digit c (true→T (sym e)))
      go c u false e = refl

  -- digits whose first is 1 to 9
  pub unsigned_read : {b : Bool} (o : Option DigitRange) → b ≡ nonzero (get_or s at 0) → b ≡ true → ReadsDigits (digits (drop at s)) s at o → ReadsDigits (unsigned (drop at s)) s at o
  unsigned_read o e t w = rw (unsigned_is, ← e, t) w

  pub unsigned_none : {b : Bool} → b ≡ nonzero (get_or s at 0) → b ≡ false → unsigned (drop at s) ≡ none
  unsigned_none e t = rw (unsigned_is, ← e, t)

-- INTEGERS

module _ (s : List ℕ) (at : ℕ) where
  pub sign_end_ahead : at ≤ sign_end s at
  sign_end_ahead = go (sign (get_or s at 0))
    where
      go : (b : Bool) → at ≤ pick b (at + 1) at
      go true = omega arith
      go false = omega arith

  pub after_sign_is : {A : Type 0} (f : Bool → List ℕ → Found A) → after_sign f (drop at s) ≡ f (eqb (get_or s at 0) minus) (drop (sign_end s at) s)
  unfolding after_sign
  after_sign_is f =
      by_byte (after_sign f) (λ c w u. pick (eqb c minus) (f true u) (pick (eqb c plus) (f false u) (f false w))) (λ c u. refl) refl s at
      ∙ go (eqb (get_or s at 0) minus) (eqb (get_or s at 0) plus)
    where
      go : (x y : Bool) → pick x (f true (drop (at + 1) s)) (pick y (f false (drop (at + 1) s)) (f false (drop at s))) ≡ f x (drop (pick (y || x) (at + 1) at) s)
      go true true = refl
      go true false = refl
      go false true = refl
      go false false = refl

  integer_is : {b : Bool} {from : ℕ} → b ≡ eqb (get_or s at 0) minus → from ≡ sign_end s at → integer (drop at s) ≡ mapped (numeral b) (unsigned (drop from s))
  unfolding integer
  integer_is e f = rw (← f, ← e) at (after_sign_is (λ x t. mapped (numeral x) (unsigned t)))

  pub integer_after : {b : Bool} {from : ℕ} (d : Option DigitRange) → b ≡ eqb (get_or s at 0) minus → from ≡ sign_end s at
      → ReadsDigits (unsigned (drop from s)) s from d → ReadsInteger (integer (drop at s)) s at (option_map (λ (r : DigitRange). record { negative = b; digits = r }) d)
  unfolding integer mapped
  integer_after {b} {from} (Some d) e f w = record {
    is = integer_is e f ∙ ap (λ (x : Found (List ℕ)). mapped (numeral b) x) w.is;
    ahead = omega (arith, f, sign_end_ahead, w.ahead);
    inside = w.inside;
  }
  integer_after {b} {from} None e f w = integer_is e f ∙ ap (λ (x : Found (List ℕ)). mapped (numeral b) x) w
