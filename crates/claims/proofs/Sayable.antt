-- All that an accepted reading says is audible: its units and prefixes are in the tables, and its numbers are from 1 to 9,999.
use Prim.Native.Nat.{ℕ, ◌*◌, ◌≤◌, ◌<◌}
use native.Mathlib.Omega.{arith}
use native.Mathlib.Decide.{dec_lt}
use native.Mathlib.Nat.{mul-le-mul}
use mathlib.Core.Path.{◌≡◌, refl, ap, sym, ◌∙◌}
use mathlib.Core.Bool.{Bool, true, false}
use mathlib.Core.List.{List, [], ◌∷◌, map}
use mathlib.Core.Option.{Option, none, some}
use lib.Dec.{T, eqb}
use lib.IntN.{ℤ, pos, negsuc, nat_abs}
use lib.ListN.{length, get_or, get_or-eq_default}
use borrow.Author.Tests.{eqb-false}
use Rattle.label.specs.declared.Rules.{Rules}
use Rattle.label.specs.declared.Exponent.{Exponent}
use Rattle.label.specs.declared.Tens.{Tens}
use Rattle.label.specs.Bytes.{letter, all}
use Rattle.label.specs.Lexical.{Part}
use Rattle.label.specs.Letters.{prefix_letters}
use Rattle.label.specs.Prefixes.{Prefix, prefix, prefixes, prefix_named}
use Rattle.label.specs.Units.{KnownUnit, bare, ten_to, units}
use Rattle.label.specs.Symbols.{Symbol, has_name, unit_named}
use Rattle.label.specs.Limits.{parts_of_one, most_sixtieths, largest_k, lowest_terms}
use Rattle.label.specs.Split.{Placed, Valued}
use Rattle.label.specs.Reading.{term, Reading, reading_of, reading}
use Rattle.label.specs.Agreement.{Raised, raised_term}
use Rattle.label.specs.Conversion.{same_whole}
use Rattle.label.specs.Writing.{writable}
use Rattle.label.proofs.Basics.{false_true, none_some, both}
use Rattle.label.proofs.Computing.{symbols_compute}
use Rattle.label.proofs.Owned.{unit_owned, letters_all}
use Rattle.label.proofs.Figures.{Lowered, lowered}
use Rattle.label.proofs.Spelled.{WithinBounds}
use Rattle.label.proofs.Rewritten.{AllReady}
use Rattle.label.proofs.Parts.{AllParts, label_parts}
use Rattle.label.proofs.Ruled.{RuledBy, derives_by}
use Rattle.label.proofs.Refusals.{bounds, Values, valued_values}
use Rattle.label.proofs.Readings.{Accepted, Answered, answer_of, accepted_reading, number_refused}
use Rattle.label.proofs.Sources.{accepted_kept}
use Rattle.claims.proofs.SpokenSymbols.{Speakable, spelling_speakable}
use Rattle.claims.proofs.Heard.{Said, AllAudible, reserved_audible, prefix_audible, unit_audible, letter_audible, number_audible}
use Rattle.claims.proofs.Saying.{say_prefix, say_letters, say_symbol, say_whole, say_over, say_fraction, say_power, say_exponent, say_terms, say_ten, say_label}

-- PLACES IN THE TABLES

-- a place where something else is than past the end
below_length : {A : Type 0} (l : List A) (d : A) (i : ℕ) → (get_or l i d ≡ d → ⊥) → i < length l
below_length l d i f = go (dec_lt i (length l))
  where
    go : Dec (i < length l) → i < length l
    go (yes h) = h
    go (no h) = absurd (f (get_or-eq_default l d (omega arith)))

prefix_below : (i : ℕ) → prefix_named (prefix_letters (some i)) ≡ some i → i < length prefixes
unfolding symbols_compute
prefix_below i e = below_length prefixes (prefix "" (pos 0)) i (λ q. none_some (sym (ap (λ (p : Prefix). prefix_named p.name) q) ∙ e))

unit_below : (n : ℕ) (l : List ℕ) (u : ℕ) → unit_named n l ≡ some u → u < length units
unfolding units has_name
unit_below n l u e =
    below_length units (bare [] (ten_to (pos 0) [])) u (λ q. false_true (sym (ap (λ (x : KnownUnit). has_name n l x.names) q) ∙ unit_owned n l u e))

-- WHAT IS SAID IS AUDIBLE

reserved_all : (i : ℕ) {w : List Said} → i < 7 → AllAudible w → AllAudible (Said.reserved i ∷ w)
reserved_all i h a = AllAudible.also (reserved_audible i h) a

prefix_all : (p : Option ℕ) {w : List Said} → prefix_named (prefix_letters p) ≡ p → AllAudible w → AllAudible (say_prefix p w)
unfolding say_prefix
prefix_all none e a = a
prefix_all (some i) e a = AllAudible.also (prefix_audible i (prefix_below i e)) a

letters_said : (l : List ℕ) {w : List Said} → T (all letter l) → AllAudible w → AllAudible (say_letters l w)
unfolding say_letters all
letters_said [] t a = reserved_all 1 (omega arith) a
letters_said (c ∷ l) t a = let u = both (letter c) (all letter l) t in AllAudible.also (letter_audible c u.0) (letters_said l u.1 a)

symbol_all : {n size : ℕ} {x : Symbol} {w : List Said} → Speakable n size x → AllAudible w → AllAudible (say_symbol x w)
unfolding say_symbol
symbol_all {n} (Speakable.a_unit {p = p} {u = u} l e f h) a = prefix_all p e (AllAudible.also (unit_audible u (unit_below n l u f)) a)
symbol_all (Speakable.letters {p = p} {l = l} e d h) a = prefix_all p e (reserved_all 0 (omega arith) (letters_said l (letters_all d) a))

whole_all : (z : ℤ) {w : List Said} → 1 ≤ nat_abs z → nat_abs z < 10_000 → AllAudible w → AllAudible (say_whole z w)
unfolding say_whole
whole_all (pos n) h g a = AllAudible.also (number_audible n h g) a
whole_all (negsuc n) h g a = reserved_all 6 (omega arith) (AllAudible.also (number_audible _ h g) a)

over_all : (b : Bool) (d : ℕ) {w : List Said} → 1 ≤ d → d < 10_000 → AllAudible w → AllAudible (say_over b d w)
unfolding say_over
over_all true d h g a = a
over_all false d h g a = reserved_all 5 (omega arith) (AllAudible.also (number_audible d h g) a)

-- the size of a numerator
module _ {e p q : ℕ} (v : Lowered e p q) (low : 1 ≤ e) (high : e ≤ most_sixtieths) where
  pub numerator_low : 1 ≤ p
  numerator_low = let product : 1 ≤ e * q = mul-le-mul low v.positive in omega (arith, v.equal)

  numerator_high : p < 10_000
  numerator_high = let most : e * q ≤ most_sixtieths * parts_of_one = mul-le-mul high v.within in omega (arith, v.equal)

exponent_all : (e : Exponent) {w : List Said} → WithinBounds e → AllAudible w → AllAudible (say_exponent e w)
unfolding say_exponent say_power say_fraction
exponent_all e {w} b a = go (same_whole e.0 (pos parts_of_one))
  where
    go : (x : Bool) → AllAudible (say_power x (lowest_terms e) w)
    go true = a
    go false =
        let v = lowered e in
        reserved_all 3 (omega arith) (reserved_all 4 (omega arith) (
        whole_all (lowest_terms e).numerator (numerator_low v b.low b.high) (numerator_high v b.low b.high) (
        over_all (eqb (lowest_terms e).denominator 1) (lowest_terms e).denominator v.positive (omega (arith, v.within)) a)))

-- terms that can be said
pub data AllSayable (n : ℕ) : List Raised → Type 0 where
  done : AllSayable n []
  also : {size : ℕ} {x : Raised} {xs : List Raised} → Speakable n size x.symbol → WithinBounds x.exponent → AllSayable n xs → AllSayable n (x ∷ xs)

terms_all : {n : ℕ} {xs : List Raised} → AllSayable n xs → AllAudible (say_terms xs)
unfolding say_terms
terms_all AllSayable.done = AllAudible.done
terms_all (AllSayable.also {x = x} s b ss) = symbol_all s (exponent_all x.exponent b (terms_all ss))

pub label_all : {n : ℕ} (k : Tens) {xs : List Raised} → nat_abs k.0 ≤ largest_k → AllSayable n xs → AllAudible (say_label k xs)
unfolding say_label say_ten
label_all k {xs} h s = go (eqb (nat_abs k.0) 0) refl
  where
    go : (b : Bool) → eqb (nat_abs k.0) 0 ≡ b → AllAudible (say_ten b k.0 (say_terms xs))
    go true e = terms_all s
    go false e =
        reserved_all 2 (omega arith) (reserved_all 3 (omega arith) (reserved_all 4 (omega arith) (
        whole_all k.0 (omega (arith, eqb-false (nat_abs k.0) 0 e)) (omega arith) (terms_all s))))

-- ACCEPTED READINGS

units_sayable : {n : ℕ} {r : Rules} {ps : List Part} {us : List Placed} (s : List ℕ) → RuledBy n r → AllParts r ps → Values ps us
    → AllReady (map (writable s) (map (term n (length s)) us)) → AllSayable n (map raised_term (map (term n (length s)) us))
unfolding writable term
units_sayable s o AllParts.done Values.no_values AllReady.done = AllSayable.done
units_sayable s o (AllParts.also d ds) (Values.value e v) (AllReady.also i is) = AllSayable.also (spelling_speakable o d.spelled) i.within (units_sayable s o ds v is)

-- a reading that can be said
pub record Sayable (n : ℕ) (r : Reading) : Type 0 where
  pub terms : AllSayable n (map raised_term r.terms)
  pub high : nat_abs r.k.0 ≤ largest_k

accepted_sayable : {n : ℕ} {s : List ℕ} {v : Valued} → Accepted n s v → (r : Reading) → r ≡ reading_of n v.k (map (term n (length s)) v.units) → Sayable n r
unfolding reading_of
accepted_sayable {n} {s} {v} a r e =
    let d = derives_by a.derived in
    let u = valued_values a.factor a.parts v a.within in
    let k = accepted_kept a in
    rw e (record { terms = units_sayable s d.1 (label_parts d.2) u k.ready; high = k.high })

pub reading_sayable : (n : ℕ) (s : List ℕ) → (reading n s).number ≡ 0 → Sayable n (reading n s)
reading_sayable n s z = go (answer_of n s)
  where
    go : Answered n s → Sayable n (reading n s)
    go (Answered.refusing i e d) = absurd (omega (arith, bounds d.holds, z, (number_refused n s i (bounds d.holds).0).1 d))
    go (Answered.accepting v a) = accepted_sayable a (reading n s) (accepted_reading a)
