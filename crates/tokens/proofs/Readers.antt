-- Ways to combine readers, over what is read: by the byte at a place, closed by a bracket, and as an answer.
use Prim.Native.Nat.{ℕ, ◌≤◌, ◌<◌, ◌+◌}
use native.Mathlib.Omega.{arith}
use Rattle.std.proofs.Common.{Option, Some, None}
use Rattle.std.specs.Bool.{then_some}
use mathlib.Core.Path.{◌≡◌, refl, sym, ap, ◌∙◌}
use mathlib.Core.Bool.{Bool, true, false, ◌&&◌}
use mathlib.Core.List.{List}
use lib.Dec.{eqb}
use lib.ListN.{length, drop, get_or}
use borrow.Author.Tests.{eqb-true}
use Rattle.label.specs.Bytes.{close_bracket}
use Rattle.label.specs.Choice.{pick}
use Rattle.label.specs.declared.SignedDigits.{SignedDigits}
use Rattle.label.specs.Lexical.{Numeral}
use Rattle.label.specs.Ranges.{numeral_in, Inside}
use Rattle.label.specs.Parse.{Found, none, found, then, mapped, byte, closed}
use Rattle.label.proofs.Basics.{and_left}
pub use Rattle.scan.proofs.Places.{by_byte, byte_found}
use Rattle.tokens.specs.declared.At.{At}
use Rattle.tokens.specs.Answers.{As, ReadsBy, ReadsInteger, begins, ClosedAt}

-- BY THE BYTE AT A PLACE

pub byte_tested : (s : List ℕ) (at c : ℕ) (b : Bool) → 0 < c → (eqb (get_or s at 0) c && b) ≡ true → at < length s
byte_tested s at c b h e = byte_found s at c h (eqb-true _ _ (and_left (eqb (get_or s at 0) c) b e))

-- What tests of a byte x say of y, which it is: it is c, it is not c, it is c where the flag b is set, it is of the class p.
pub byte_is : {x y c : ℕ} → x ≡ y → x ≡ c → y ≡ c
byte_is e t = sym e ∙ t

pub byte_not : {x y c : ℕ} → x ≡ y → (x ≡ c → ⊥) → y ≡ c → ⊥
byte_not e n t = n (e ∙ t)

pub byte_and : (c : ℕ) (b : Bool) {x y : ℕ} {t v : Bool} → x ≡ y → t ≡ (eqb x c && b) → t ≡ v → (eqb y c && b) ≡ v
byte_and c b h e q = rw (← h) (sym e ∙ q)

-- a byte that is tested for, where the flag b is set, is in the text
pub tested_room : (s : List ℕ) (at c : ℕ) (b : Bool) {x : ℕ} {t : Bool} → x ≡ get_or s at 0 → t ≡ (eqb x c && b) → t ≡ true → 0 < c → at + 1 ≤ length s
tested_room s at c b h e q l = omega (arith, byte_tested s at c b l (byte_and c b h e q))

pub class_is : (p : ℕ → Bool) {x y : ℕ} {t : Bool} → x ≡ y → t ≡ p x → t ≡ p y
class_is p h e = rw (← h) e

-- CLOSED BY A BRACKET

module _ (s : List ℕ) (at : ℕ) where
  pub begins_close : begins close_bracket (drop at s) ≡ eqb (get_or s at 0) close_bracket
  unfolding begins
  begins_close = by_byte (begins close_bracket) (λ c w u. eqb c close_bracket) (λ c u. refl) refl s at

  pub begins_room : begins close_bracket (drop at s) ≡ true → at < length s
  begins_room e = byte_found s at close_bracket (omega arith) (eqb-true _ _ (sym begins_close ∙ e))

  byte_closes : {A : Type 0} (a : A) → byte close_bracket a (drop at s) ≡ pick (begins close_bracket (drop at s)) (found a (drop (at + 1) s)) none
  unfolding byte
  byte_closes a = rw begins_close (by_byte (byte close_bracket a) (λ c w u. pick (eqb c close_bracket) (found a u) none) (λ c u. refl) refl s at)

  pub close_found : {A : Type 0} (a : A) → begins close_bracket (drop at s) ≡ true → byte close_bracket a (drop at s) ≡ found a (drop (at + 1) s)
  close_found a e = rw e at (byte_closes a)

  pub byte_no_close : {A : Type 0} (a : A) → begins close_bracket (drop at s) ≡ false → byte close_bracket a (drop at s) ≡ none
  byte_no_close a e = rw e at (byte_closes a)

-- nothing is found, and nothing is closed
pub none_closed : {A B : Type 0} (f : A → B) → closed f none ≡ none
unfolding closed then
none_closed f = refl

-- ANSWERS

module _ {W A : Type 0} (means : List ℕ → W → A) (fits : List ℕ → W → Type 0) (s : List ℕ) (at : ℕ) where
  -- the same is read from here on
  pub on_from : {x y : Found A} (from : ℕ) (o : Option (At W)) → x ≡ y → at ≤ from → ReadsBy means fits y s from o → ReadsBy means fits x s at o
  on_from from (Some o) e l w = record { is = e ∙ w.is; ahead = omega (arith, w.ahead); within = w.within; inside = w.inside }
  on_from from None e l w = e ∙ w

  -- a value b and a closing bracket, where the ranges w stand for f of b
  pub closed_read : {B : Type 0} (f : B → A) (b : B) (w : W) (o : Option (At W)) → f b ≡ means s w → fits s w → ClosedAt s at w o → ReadsBy means fits (closed f (found b (drop at s))) s at o
  unfolding closed then
  closed_read f b w o e i h = rw h (go (begins close_bracket (drop at s)) refl)
    where
      go : (t : Bool) → t ≡ begins close_bracket (drop at s) → ReadsBy means fits (byte close_bracket (f b) (drop at s)) s at (then_some t (record { value = w; next = at + 1 }))
      go true h = record { is = close_found s at (f b) (sym h) ∙ rw e; ahead = omega arith; within = omega (arith, begins_room s at (sym h)); inside = i }
      go false h = byte_no_close s at (f b) (sym h)

  -- an integer as m of it, which stands for g of its numeral
  pub integer_read : (m : SignedDigits → W) (g : Numeral → A) → ((n : SignedDigits) → g (numeral_in s n) ≡ means s (m n)) → ((n : SignedDigits) → Inside s n.digits → fits s (m n))
      → {x : Found A} (y : Found Numeral) (i : Option SignedDigits) {o : Option (At W)} → x ≡ mapped g y → ReadsInteger y s at i → As m i o → ReadsBy means fits x s at o
  unfolding mapped
  integer_read m g p j y (Some i) e r q = rw q (record {
    is = e ∙ ap (λ (x : Found Numeral). mapped g x) r.is ∙ rw (p i);
    ahead = omega (arith, r.ahead, r.inside.forward);
    within = r.inside.within;
    inside = j i r.inside;
  })
  integer_read m g p j y None e r q = rw q (e ∙ ap (λ (x : Found Numeral). mapped g x) r)
