-- Two accepted readings that are spoken alike have the same k and the same terms: what is said comes apart in order.
use Prim.Native.Nat.{ℕ, suc, ◌+◌, ◌≤◌}
use native.Mathlib.Omega.{arith}
use native.Mathlib.Nat.{eq_of_mul-eq-mul_right}
use mathlib.Core.Path.{◌≡◌, refl, ap, sym, ◌∙◌}
use mathlib.Core.Bool.{Bool, true, false}
use mathlib.Core.List.{List, [], ◌∷◌, map}
use mathlib.Core.Option.{Option, none, some}
use mathlib.Core.Logic.{◌↔◌}
use lib.Dec.{eqb}
use lib.IntN.{ℤ, pos, negsuc, nat_abs}
use borrow.Author.Tests.{eqb-true}
use Rattle.label.specs.declared.Exponent.{Exponent}
use Rattle.label.specs.declared.Tens.{Tens}
use Rattle.label.specs.Symbols.{Symbol, known, unknown}
use Rattle.label.specs.Limits.{parts_of_one, signed, negative, lowest_terms}
use Rattle.label.specs.Meaning.{◌∈◌}
use Rattle.label.specs.Reading.{Reading, reading}
use Rattle.label.specs.Agreement.{Raised, raised_term}
use Rattle.label.specs.Conversion.{same_whole}
use Rattle.label.specs.Words.{Word, words, joined_words, spoken}
use Rattle.label.specs.Writing.{SameContent}
use Rattle.label.proofs.Figures.{Lowered, lowered, signed_size, size_signed}
use Rattle.label.proofs.Spelled.{WithinBounds}
use Rattle.label.proofs.Rewritten.{no_tens}
use Rattle.claims.specs.Claims.{PlainWord}
use Rattle.claims.proofs.WholeLaws.{unlike}
use Rattle.claims.proofs.Conversions.{same_whole_true}
use Rattle.claims.proofs.Heard.{Said, reserved, prefix_said, unit_said, letter_said, number_said, spell, joined_apart, all_plain}
use Rattle.claims.proofs.Saying.{says_unit, say_prefix, say_letters, say_symbol, say_whole, say_over, say_fraction, say_power, say_exponent, say_terms, say_ten, say_label, words_spelled}
use Rattle.claims.proofs.Sayable.{AllSayable, Sayable, numerator_low, label_all, reading_sayable}

-- WHAT COMES FIRST

-- the kind of what is said first, by a number
first_mark : List Said → ℕ
first_mark [] = 0
first_mark (prefix_said i ∷ w) = 1
first_mark (unit_said u ∷ w) = 2
first_mark (letter_said c ∷ w) = 3
first_mark (number_said n ∷ w) = 4
first_mark (reserved i ∷ w) = 5 + i

-- a term begins with a prefix, a unit or "unit"
symbol_marked : (x : Symbol) (w : List Said) → (1 ≤ first_mark (say_symbol x w)) × (first_mark (say_symbol x w) ≤ 5)
unfolding first_mark say_symbol say_prefix
symbol_marked (known none u) w = omega arith
symbol_marked (known (some i) u) w = omega arith
symbol_marked (unknown none l) w = omega arith
symbol_marked (unknown (some i) l) w = omega arith

symbol_some : (x : Symbol) (w : List Said) → [] ≡ say_symbol x w → ⊥
unfolding first_mark
symbol_some x w e = omega (arith, ap first_mark e, symbol_marked x w)

terms_marked : (xs : List Raised) → first_mark (say_terms xs) ≤ 5
unfolding first_mark say_terms
terms_marked [] = omega arith
terms_marked (x ∷ xs) = (symbol_marked x.symbol _).1

-- SYMBOLS

prefix_apart : (p q : Option ℕ) (w v : List Said) → (first_mark w ≡ 1 → ⊥) → (first_mark v ≡ 1 → ⊥) → say_prefix p w ≡ say_prefix q v → (p ≡ q) × (w ≡ v)
unfolding first_mark say_prefix
prefix_apart none none w v f g e = (refl, e)
prefix_apart none (some i) w v f g e = absurd (f (ap first_mark e))
prefix_apart (some i) none w v f g e = absurd (g (ap first_mark (sym e)))
prefix_apart (some i) (some j) w v f g e = ((cc), (cc))

letters_apart : (l m : List ℕ) (w v : List Said) → say_letters l w ≡ say_letters m v → (l ≡ m) × (w ≡ v)
unfolding first_mark say_letters
letters_apart [] [] w v e = (refl, (cc))
letters_apart [] (c ∷ m) w v e = absurd (omega (arith, ap first_mark e))
letters_apart (c ∷ l) [] w v e = absurd (omega (arith, ap first_mark e))
letters_apart (c ∷ l) (d ∷ m) w v e =
    let h = letters_apart l m w v (cc) in
    let f : c ≡ d = cc in
    (cc h.0, h.1)

symbol_apart : (x y : Symbol) (w v : List Said) → say_symbol x w ≡ say_symbol y v → (x ≡ y) × (w ≡ v)
unfolding first_mark say_symbol
symbol_apart (known p u) (known q t) w v e =
    let h = prefix_apart p q (unit_said u ∷ w) (unit_said t ∷ v) (λ z. omega arith) (λ z. omega arith) e in
    (cc (h.0, h.1), (cc h.1))
symbol_apart (known p u) (unknown q m) w v e =
    let h = prefix_apart p q (unit_said u ∷ w) (says_unit ∷ say_letters m v) (λ z. omega arith) (λ z. omega arith) e in
    absurd (omega (arith, ap first_mark h.1))
symbol_apart (unknown p l) (known q t) w v e =
    let h = prefix_apart p q (says_unit ∷ say_letters l w) (unit_said t ∷ v) (λ z. omega arith) (λ z. omega arith) e in
    absurd (omega (arith, ap first_mark h.1))
symbol_apart (unknown p l) (unknown q m) w v e =
    let h = prefix_apart p q (says_unit ∷ say_letters l w) (says_unit ∷ say_letters m v) (λ z. omega arith) (λ z. omega arith) e in
    let k = letters_apart l m w v (cc h.1) in
    (cc (h.0, k.0), k.1)

-- NUMBERS

whole_apart : (y z : ℤ) (w v : List Said) → say_whole y w ≡ say_whole z v → (y ≡ z) × (w ≡ v)
unfolding first_mark say_whole
whole_apart (pos m) (pos n) w v e = ((cc), (cc))
whole_apart (pos m) (negsuc n) w v e = absurd (omega (arith, ap first_mark e))
whole_apart (negsuc m) (pos n) w v e = absurd (omega (arith, ap first_mark e))
whole_apart (negsuc m) (negsuc n) w v e = let h : suc m ≡ suc n = cc in (ap negsuc (omega arith), (cc))

over_apart : (c d : ℕ) (w v : List Said) → first_mark w ≤ 5 → first_mark v ≤ 5 → say_over (eqb c 1) c w ≡ say_over (eqb d 1) d v → (c ≡ d) × (w ≡ v)
unfolding first_mark say_over
over_apart c d w v f g e = go (eqb c 1) (eqb d 1) refl refl e
  where
    go : (a b : Bool) → eqb c 1 ≡ a → eqb d 1 ≡ b → say_over a c w ≡ say_over b d v → (c ≡ d) × (w ≡ v)
    go true true p q e = (eqb-true c 1 p ∙ sym (eqb-true d 1 q), e)
    go true false p q e = absurd (omega (arith, ap first_mark e))
    go false true p q e = absurd (omega (arith, ap first_mark e))
    go false false p q e = ((cc), (cc))

-- EXPONENTS

signed_once : (b c : Bool) (m n : ℕ) → 1 ≤ m → signed b m ≡ signed c n → b ≡ c
signed_once true true m n h e = refl
signed_once true false m n h e = absurd (unlike n m h (sym e))
signed_once false true m n h e = absurd (unlike m n (omega (arith, ap nat_abs e, size_signed true n)) e)
signed_once false false m n h e = refl

lowest_sign : (e : Exponent) → (lowest_terms e).numerator ≡ signed (negative e.0) (nat_abs (lowest_terms e).numerator)
unfolding lowest_terms
lowest_sign e = ap (signed (negative e.0)) (sym (size_signed (negative e.0) _))

-- lowest terms are those of one exponent
lowest_once : (e f : Exponent) → WithinBounds e → (lowest_terms e).numerator ≡ (lowest_terms f).numerator → (lowest_terms e).denominator ≡ (lowest_terms f).denominator → e ≡ f
lowest_once e f b n d =
    let v = lowered e in
    let u : Lowered (nat_abs f.0) (nat_abs (lowest_terms e).numerator) (lowest_terms e).denominator = rw (n, d) (lowered f) in
    let s = signed_once (negative e.0) (negative f.0) _ _ (numerator_low v b.low b.high) (sym (lowest_sign e) ∙ n ∙ lowest_sign f) in
    let a = eq_of_mul-eq-mul_right (lowest_terms e).denominator v.positive (nat_abs e.0) (nat_abs f.0) (sym v.equal ∙ u.equal) in
    ap (λ (z : ℤ). record { 0 = z }) (sym (signed_size e.0) ∙ ap (λ (x : Bool). signed x (nat_abs e.0)) s ∙ ap (signed (negative f.0)) a ∙ signed_size f.0)

exponent_apart : (e f : Exponent) (w v : List Said) → WithinBounds e → first_mark w ≤ 5 → first_mark v ≤ 5 → say_exponent e w ≡ say_exponent f v → (e ≡ f) × (w ≡ v)
unfolding first_mark say_exponent say_power say_fraction
exponent_apart e f w v c g h q = go (same_whole e.0 (pos parts_of_one)) (same_whole f.0 (pos parts_of_one)) refl refl q
  where
    go : (a b : Bool) → same_whole e.0 (pos parts_of_one) ≡ a → same_whole f.0 (pos parts_of_one) ≡ b
        → say_power a (lowest_terms e) w ≡ say_power b (lowest_terms f) v → (e ≡ f) × (w ≡ v)
    go true true m n q = (ap (λ (z : ℤ). record { 0 = z }) (same_whole_true e.0 (pos parts_of_one) m ∙ sym (same_whole_true f.0 (pos parts_of_one) n)), q)
    go true false m n q = absurd (omega (arith, ap first_mark q))
    go false true m n q = absurd (omega (arith, ap first_mark q))
    go false false m n q =
        let p : say_fraction (lowest_terms e) w ≡ say_fraction (lowest_terms f) v = cc in
        let x = whole_apart _ _ _ _ p in
        let y = over_apart _ _ w v g h x.1 in
        (lowest_once e f c x.0 y.0, y.1)

-- LABELS

terms_apart : {n m : ℕ} {xs ys : List Raised} → AllSayable n xs → AllSayable m ys → say_terms xs ≡ say_terms ys → xs ≡ ys
unfolding say_terms
terms_apart AllSayable.done AllSayable.done e = refl
terms_apart AllSayable.done (AllSayable.also {x = y} t c ts) e = absurd (symbol_some y.symbol _ e)
terms_apart (AllSayable.also {x = x} s b ss) AllSayable.done e = absurd (symbol_some x.symbol _ (sym e))
terms_apart (AllSayable.also {x = x} {xs = xs} s b ss) (AllSayable.also {x = y} {xs = ys} t c ts) e =
    let h = symbol_apart x.symbol y.symbol _ _ e in
    let k = exponent_apart x.exponent y.exponent _ _ b (terms_marked xs) (terms_marked ys) h.1 in
    let q : x ≡ y =
    ap (λ (z : Symbol). record { symbol = z; exponent = x.exponent }) h.0 ∙ ap (λ (z : Exponent). record { symbol = y.symbol; exponent = z }) k.0 in
    cc (q, terms_apart ss ts k.1)

label_apart : {n m : ℕ} (k l : Tens) {xs ys : List Raised} → AllSayable n xs → AllSayable m ys → say_label k xs ≡ say_label l ys → (k ≡ l) × (xs ≡ ys)
unfolding first_mark say_label say_ten
label_apart k l {xs} {ys} s t e = go (eqb (nat_abs k.0) 0) (eqb (nat_abs l.0) 0) refl refl e
  where
    go : (a b : Bool) → eqb (nat_abs k.0) 0 ≡ a → eqb (nat_abs l.0) 0 ≡ b → say_ten a k.0 (say_terms xs) ≡ say_ten b l.0 (say_terms ys) → (k ≡ l) × (xs ≡ ys)
    go true true m n q = (no_tens k (eqb-true (nat_abs k.0) 0 m) ∙ sym (no_tens l (eqb-true (nat_abs l.0) 0 n)), terms_apart s t q)
    go true false m n q = absurd (omega (arith, ap first_mark q, terms_marked xs))
    go false true m n q = absurd (omega (arith, ap first_mark q, terms_marked ys))
    go false false m n q =
        let p : say_whole k.0 (say_terms xs) ≡ say_whole l.0 (say_terms ys) = cc in
        let x = whole_apart k.0 l.0 _ _ p in
        (ap (λ (z : ℤ). record { 0 = z }) x.0, terms_apart s t x.1)

-- READINGS

spoken_apart : {n m : ℕ} (r q : Reading) → Sayable n r → Sayable m q → q.number ≡ 0 → spoken r ≡ spoken q → SameContent r q
unfolding spoken
spoken_apart r q a b z e =
    let p = joined_apart (label_all r.k a.high a.terms) (label_all q.k b.high b.terms) (ap joined_words (sym (words_spelled r)) ∙ e ∙ ap joined_words (words_spelled q)) in
    let w = label_apart r.k q.k a.terms b.terms p in
    record { answers = z; k = sym w.0; terms = sym w.1 }

content_spoken : (r q : Reading) → SameContent r q → spoken r ≡ spoken q
unfolding spoken
content_spoken r q w =
    ap joined_words (words_spelled r ∙ ap (λ (k : Tens). map spell (say_label k (map raised_term r.terms))) (sym w.k)
    ∙ ap (λ (xs : List Raised). map spell (say_label q.k xs)) (sym w.terms) ∙ sym (words_spelled q))

pub told_apart : (n m : ℕ) (s t : List ℕ) → (reading n s).number ≡ 0 → (reading m t).number ≡ 0
    → (spoken (reading n s) ≡ spoken (reading m t)) ↔ SameContent (reading n s) (reading m t)
told_apart n m s t a b =
    ((λ e. spoken_apart (reading n s) (reading m t) (reading_sayable n s a) (reading_sayable m t b) b e), (λ w. content_spoken (reading n s) (reading m t) w))

pub plain_words : (n : ℕ) (s : List ℕ) → (reading n s).number ≡ 0 → (w : Word) → w ∈ words (reading n s) → PlainWord w
plain_words n s z w h =
    let a = reading_sayable n s z in
    all_plain (label_all (reading n s).k a.high a.terms) w (rw (words_spelled (reading n s)) at h)
