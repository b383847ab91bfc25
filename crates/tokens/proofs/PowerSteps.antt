-- Powers at a place of the text: one law for each way through the code.
use Prim.Native.Nat.{ℕ, ◌≤◌, ◌<◌, ◌+◌}
use native.Mathlib.Omega.{arith}
use mathlib.Core.Path.{◌≡◌, refl, sym, ap, ◌∙◌}
use mathlib.Core.Bool.{Bool, true, false, ◌&&◌, ◌||◌}
use mathlib.Core.List.{List, [], ◌∷◌}
use lib.Dec.{eqb}
use lib.ListN.{length, drop, get_or}
use borrow.Author.Tests.{eq-eqb, ne_eqb}
use Rattle.std.proofs.Common.{Option, Some}
use Rattle.label.specs.declared.DigitRange.{DigitRange}
use Rattle.label.specs.declared.Rules.{Rules}
use Rattle.label.specs.declared.SignedDigits.{SignedDigits}
use Rattle.label.specs.declared.WrittenPower.{WrittenPower}
use Rattle.label.specs.declared.WrittenPower.TheVariants.{Unwritten, Whole, Decimal, Fraction}
use Rattle.label.specs.Bytes.{caret, close_bracket, digit_zero, minus, open_bracket, point, slash, star, digit}
use Rattle.label.specs.Choice.{pick}
use Rattle.label.specs.Lexical.{Written, unwritten, whole, decimal, fraction}
use Rattle.label.specs.Parse.{Found, none, found, then, mapped, byte, closed, unsigned, digits, sign, after_sign, integer, pointed, bracketed_on, below_one, bracketed_or, bracketed, power, starred, exponent}
use Rattle.label.specs.Ranges.{digits_in, numeral_in, written_in, Inside, PowerInside}
use Rattle.label.proofs.Between.{between_one}
use Rattle.tokens.specs.declared.At.{At}
use Rattle.tokens.specs.Answers.{As, sign_end, FoundDigits, FoundInteger, ReadsInteger, ClosedAt, ReadsPower}
use Rattle.tokens.proofs.Numbers.{sign_end_ahead, after_sign_is}
use Rattle.tokens.proofs.Readers.{by_byte, none_closed, on_from, closed_read, integer_read}

-- no power is written
abbrev pub unwritten_at : ℕ → At WrittenPower
unwritten_at at = record { value = Unwritten; next = at }

unwritten_read : {x : Found Written} (s : List ℕ) (at : ℕ) → at ≤ length s → x ≡ found unwritten (drop at s) → ReadsPower x s at (Some (unwritten_at at))
unwritten_read s at h e = record { is = e; ahead = omega arith; within = h; inside = tt }

-- an integer as a power
whole_read : {x : Found Written} (s : List ℕ) (at : ℕ) (i : Option SignedDigits) {o : Option (At WrittenPower)} → x ≡ mapped whole (integer (drop at s)) → ReadsInteger (integer (drop at s)) s at i
    → As Whole i o → ReadsPower x s at o
whole_read s at i e w q = integer_read written_in PowerInside s at Whole whole (λ n. refl) (λ n j. j) _ i e w q

-- POWERS IN BRACKETS

module _ (s : List ℕ) (n : SignedDigits) (at : ℕ) where
  -- after a point or a slash, digits and the closing bracket
  on_digits : (f : List ℕ → Written) {x : Found (List ℕ)} {y : Found Written} {d : DigitRange} (o : Option (At WrittenPower)) (p : WrittenPower) → f (digits_in s d) ≡ written_in s p
      → PowerInside s p → y ≡ closed f x → FoundDigits x s (at + 1) d → ClosedAt s d.end p o → ReadsPower y s at o
  on_digits f {x} {d = d} o p q i e w v =
      on_from written_in PowerInside s at d.end o
      (e ∙ ap (λ (y : Found (List ℕ)). closed f y) w.is)
      (omega (arith, w.ahead, w.inside.forward)) (closed_read written_in PowerInside s d.end f (digits_in s d) p o q i v)

  no_digits : (f : List ℕ → Written) {x : Found (List ℕ)} {y : Found Written} → y ≡ closed f x → x ≡ none → y ≡ none
  no_digits f e q = e ∙ ap (λ (x : Found (List ℕ)). closed f x) q ∙ none_closed f

  pointed_is : pointed (numeral_in s n) (drop at s) ≡ pick (eqb (get_or s at 0) point) (closed (decimal (numeral_in s n)) (digits (drop (at + 1) s))) none
  unfolding pointed
  pointed_is = by_byte (pointed (numeral_in s n)) (λ c w u. pick (eqb c point) (closed (decimal (numeral_in s n)) (digits u)) none) (λ c u. refl) refl s at

  pub pointed_no_point : (get_or s at 0 ≡ point → ⊥) → pointed (numeral_in s n) (drop at s) ≡ none
  pointed_no_point e = pointed_is ∙ rw (ne_eqb _ _ e)

  module _ (e : get_or s at 0 ≡ point) where
    pub pointed_no_digits : digits (drop (at + 1) s) ≡ none → pointed (numeral_in s n) (drop at s) ≡ none
    pointed_no_digits q = no_digits (decimal (numeral_in s n)) (pointed_is ∙ rw e) q

    pub pointed_digits : {d : DigitRange} (o : Option (At WrittenPower)) → Inside s n.digits → FoundDigits (digits (drop (at + 1) s)) s (at + 1) d
        → ClosedAt s d.end (Decimal n d) o → ReadsPower (pointed (numeral_in s n) (drop at s)) s at o
    pointed_digits {d} o i w v = on_digits (decimal (numeral_in s n)) o (Decimal n d) refl (i, w.inside) (pointed_is ∙ rw e) w v

  on_is : bracketed_on (numeral_in s n) (drop at s)
      ≡ pick (eqb (get_or s at 0) close_bracket) (found (whole (numeral_in s n)) (drop (at + 1) s))
      (pick (eqb (get_or s at 0) slash) (closed (fraction (numeral_in s n)) (unsigned (drop (at + 1) s))) (pointed (numeral_in s n) (drop at s)))
  unfolding bracketed_on pointed
  on_is =
      by_byte (bracketed_on (numeral_in s n))
      (λ c w u. pick (eqb c close_bracket) (found (whole (numeral_in s n)) u)
      (pick (eqb c slash) (closed (fraction (numeral_in s n)) (unsigned u)) (pointed (numeral_in s n) w)))
      (λ c u. refl) refl s at

  pub on_close : at < length s → get_or s at 0 ≡ close_bracket → Inside s n.digits
      → ReadsPower (bracketed_on (numeral_in s n) (drop at s)) s at (Some (record { value = Whole n; next = at + 1 }))
  on_close h e i = record { is = on_is ∙ rw (eq-eqb _ _ e); ahead = omega arith; within = omega arith; inside = i }

  module _ (e : get_or s at 0 ≡ slash) where
    pub on_slash_no_digits : unsigned (drop (at + 1) s) ≡ none → bracketed_on (numeral_in s n) (drop at s) ≡ none
    on_slash_no_digits q = no_digits (fraction (numeral_in s n)) (on_is ∙ rw e) q

    pub on_slash_digits : {d : DigitRange} (o : Option (At WrittenPower)) → Inside s n.digits → FoundDigits (unsigned (drop (at + 1) s)) s (at + 1) d
        → ClosedAt s d.end (Fraction n d) o → ReadsPower (bracketed_on (numeral_in s n) (drop at s)) s at o
    on_slash_digits {d} o i w v = on_digits (fraction (numeral_in s n)) o (Fraction n d) refl (i, w.inside) (on_is ∙ rw e) w v

  pub on_other : (o : Option (At WrittenPower)) → (get_or s at 0 ≡ close_bracket → ⊥) → (get_or s at 0 ≡ slash → ⊥)
      → ReadsPower (pointed (numeral_in s n) (drop at s)) s at o
      → ReadsPower (bracketed_on (numeral_in s n) (drop at s)) s at o
  on_other o a b v = on_from written_in PowerInside s at at o (on_is ∙ rw (ne_eqb _ _ a, ne_eqb _ _ b)) (omega arith) v

-- a single 0 at a place
module _ (s : List ℕ) (b : Bool) (at : ℕ) where
  abbrev nought : SignedDigits
  nought = record { negative = b; digits = record { start = at; end = at + 1 } }

  below_one_is : below_one b (drop at s) ≡ pick (eqb (get_or s at 0) digit_zero) (pointed (record { negative = b; digits = digit_zero ∷ [] }) (drop (at + 1) s)) none
  unfolding below_one then byte
  below_one_is =
      by_byte (below_one b) (λ c w u. pick (eqb c digit_zero) (pointed (record { negative = b; digits = digit_zero ∷ [] }) u) none) (λ c u. go c u (eqb c digit_zero)) refl s at
    where
      go : (c : ℕ) (u : List ℕ) (x : Bool) → then (pick x (found (record { negative = b; digits = digit_zero ∷ [] }) u) none) pointed ≡ pick x (pointed (record { negative = b; digits = digit_zero ∷ [] }) u) none
      go c u true = refl
      go c u false = refl

  pub below_one_no_zero : (get_or s at 0 ≡ digit_zero → ⊥) → below_one b (drop at s) ≡ none
  below_one_no_zero e = below_one_is ∙ rw (ne_eqb _ _ e)

  pub below_one_zero : (o : Option (At WrittenPower)) → at < length s → get_or s at 0 ≡ digit_zero → ReadsPower (pointed (numeral_in s nought) (drop (at + 1) s)) s (at + 1) o
      → ReadsPower (below_one b (drop at s)) s at o
  below_one_zero o h e v =
      on_from written_in PowerInside s at (at + 1) o
      (below_one_is ∙ rw e (ap (λ (ds : List ℕ). pointed (record { negative = b; digits = ds }) (drop (at + 1) s)) (sym (between_one s at h ∙ ap (λ (c : ℕ). c ∷ []) e)))) (omega arith) v

module _ (s : List ℕ) (at : ℕ) where
  pub bracketed_no_integer : {b : Bool} {from : ℕ} (o : Option (At WrittenPower)) → integer (drop at s) ≡ none → b ≡ eqb (get_or s at 0) minus → from ≡ sign_end s at
      → ReadsPower (below_one b (drop from s)) s from o → ReadsPower (bracketed (drop at s)) s at o
  unfolding bracketed bracketed_or
  bracketed_no_integer {from = from} o e f g v = on_from written_in PowerInside s at from o (rw e (rw (← g, ← f) at (after_sign_is s at below_one))) (omega (arith, g, sign_end_ahead s at)) v

  pub bracketed_integer : {n : SignedDigits} (o : Option (At WrittenPower)) → FoundInteger (integer (drop at s)) s at n
      → ReadsPower (bracketed_on (numeral_in s n) (drop n.digits.end s)) s n.digits.end o → ReadsPower (bracketed (drop at s)) s at o
  unfolding bracketed bracketed_or
  bracketed_integer {n} o w v = on_from written_in PowerInside s at n.digits.end o (rw w.is) (omega (arith, w.ahead, w.inside.forward)) v

-- POWERS

module _ (s : List ℕ) (at : ℕ) where
  power_is : power (drop at s) ≡ pick (eqb (get_or s at 0) open_bracket) (bracketed (drop (at + 1) s)) (mapped whole (integer (drop at s)))
  unfolding power mapped integer after_sign unsigned
  power_is = by_byte power (λ c w u. pick (eqb c open_bracket) (bracketed u) (mapped whole (integer w))) (λ c u. refl) refl s at

  pub power_bracket : (o : Option (At WrittenPower)) → get_or s at 0 ≡ open_bracket → ReadsPower (bracketed (drop (at + 1) s)) s (at + 1) o → ReadsPower (power (drop at s)) s at o
  power_bracket o e v = on_from written_in PowerInside s at (at + 1) o (power_is ∙ rw (eq-eqb _ _ e)) (omega arith) v

  pub power_integer : (i : Option SignedDigits) {o : Option (At WrittenPower)} → (get_or s at 0 ≡ open_bracket → ⊥) → ReadsInteger (integer (drop at s)) s at i → As Whole i o
      → ReadsPower (power (drop at s)) s at o
  power_integer i e w q = whole_read s at i (power_is ∙ rw (ne_eqb _ _ e)) w q

  -- AFTER A STAR

  starred_is : starred (drop at s) (drop (at + 1) s)
      ≡ pick (eqb (get_or s (at + 1) 0) star) (power (drop (at + 1 + 1) s)) (found unwritten (drop at s))
  unfolding starred
  starred_is = by_byte (starred (drop at s)) (λ c w u. pick (eqb c star) (power u) (found unwritten (drop at s))) (λ c u. refl) refl s (at + 1)

  pub starred_star : (o : Option (At WrittenPower)) → get_or s (at + 1) 0 ≡ star → ReadsPower (power (drop (at + 1 + 1) s)) s (at + 1 + 1) o
      → ReadsPower (starred (drop at s) (drop (at + 1) s)) s at o
  starred_star o e v = on_from written_in PowerInside s at (at + 1 + 1) o (starred_is ∙ rw (eq-eqb _ _ e)) (omega arith) v

  pub starred_other : at ≤ length s → (get_or s (at + 1) 0 ≡ star → ⊥) → ReadsPower (starred (drop at s) (drop (at + 1) s)) s at (Some (unwritten_at at))
  starred_other h e = unwritten_read s at h (starred_is ∙ rw (ne_eqb _ _ e))

-- THE POWER AFTER A SPELLING

module _ (r : Rules) (s : List ℕ) (at : ℕ) where
  exponent_is : exponent r (drop at s)
      ≡ pick ((sign (get_or s at 0) || digit (get_or s at 0)) && r.direct) (mapped whole (integer (drop at s)))
      (pick (eqb (get_or s at 0) open_bracket && r.brackets) (bracketed (drop (at + 1) s))
      (pick (eqb (get_or s at 0) caret && r.caret) (power (drop (at + 1) s))
      (pick (eqb (get_or s at 0) star && r.stars) (starred (drop at s) (drop (at + 1) s))
      (found unwritten (drop at s)))))
  unfolding exponent digit
  exponent_is =
      by_byte (exponent r)
      (λ c w u. pick ((sign c || digit c) && r.direct) (mapped whole (integer w))
      (pick (eqb c open_bracket && r.brackets) (bracketed u)
      (pick (eqb c caret && r.caret) (power u)
      (pick (eqb c star && r.stars) (starred w u)
      (found unwritten w)))))
      (λ c u. refl) refl s at

  pub after₁ : (i : Option SignedDigits) {o : Option (At WrittenPower)} → ((sign (get_or s at 0) || digit (get_or s at 0)) && r.direct) ≡ true → ReadsInteger (integer (drop at s)) s at i
      → As Whole i o → ReadsPower (exponent r (drop at s)) s at o
  after₁ i e w q = whole_read s at i (exponent_is ∙ rw e) w q

  module _ (a : ((sign (get_or s at 0) || digit (get_or s at 0)) && r.direct) ≡ false) where
    pub after₂ : (o : Option (At WrittenPower)) → (eqb (get_or s at 0) open_bracket && r.brackets) ≡ true → ReadsPower (bracketed (drop (at + 1) s)) s (at + 1) o
        → ReadsPower (exponent r (drop at s)) s at o
    after₂ o e v = on_from written_in PowerInside s at (at + 1) o (exponent_is ∙ rw (a, e)) (omega arith) v

    module _ (b : (eqb (get_or s at 0) open_bracket && r.brackets) ≡ false) where
      pub after₃ : (o : Option (At WrittenPower)) → (eqb (get_or s at 0) caret && r.caret) ≡ true → ReadsPower (power (drop (at + 1) s)) s (at + 1) o
          → ReadsPower (exponent r (drop at s)) s at o
      after₃ o e v = on_from written_in PowerInside s at (at + 1) o (exponent_is ∙ rw (a, b, e)) (omega arith) v

      module _ (c : (eqb (get_or s at 0) caret && r.caret) ≡ false) where
        pub after₄ : (o : Option (At WrittenPower)) → (eqb (get_or s at 0) star && r.stars) ≡ true → ReadsPower (starred (drop at s) (drop (at + 1) s)) s at o
            → ReadsPower (exponent r (drop at s)) s at o
        after₄ o e v = on_from written_in PowerInside s at at o (exponent_is ∙ rw (a, b, c, e)) (omega arith) v

        pub after₅ : at ≤ length s → (eqb (get_or s at 0) star && r.stars) ≡ false → ReadsPower (exponent r (drop at s)) s at (Some (unwritten_at at))
        after₅ h e = unwritten_read s at h (exponent_is ∙ rw (a, b, c, e))
