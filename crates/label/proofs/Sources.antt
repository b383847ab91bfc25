-- What an accepted label's reading keeps of the limits: exponents from one sixtieth to 99, k, and the number of terms.
use Prim.Native.Nat.{ℕ, zero, suc, ◌*◌, ◌-◌, ◌/◌, ◌%◌, ◌≤◌, ◌<◌}
use native.Mathlib.Omega.{arith}
use native.Mathlib.Decide.{dec_lt}
use native.Mathlib.Nat.{div-add-mod'}
use mathlib.Core.Path.{◌≡◌, refl, sym, ap, ◌∙◌}
use mathlib.Core.Bool.{Bool, true, false, ◌&&◌}
use mathlib.Core.List.{List, [], ◌∷◌, ◌++◌, map}
use mathlib.Core.Option.{Option, none, some}
use lib.Dec.{eqb, leb}
use lib.IntN.{pos, nat_abs}
use lib.ListN.{length, take, drop, length-map}
use borrow.Author.Tests.{eqb-true, eqb-false, eq-eqb, leb-true, le-leb}
use Rattle.label.specs.declared.Rules.{Rules}
use Rattle.label.specs.declared.Exponent.{Exponent}
use Rattle.label.specs.declared.Tens.{Tens}
use Rattle.label.specs.Choice.{pick}
use Rattle.label.specs.Notations.{notation}
use Rattle.label.specs.Lexical.{Written, Factor, no_factor, ten_to, zeros, Part, turned_all, Kind, item, more, product, quotient}
use Rattle.label.specs.Symbols.{symbol}
use Rattle.label.specs.Limits.{number, signed, exclusive_or, ratio, sixtieths, exponent_of, short, tens, k_of, most_bytes, most_terms, parts_of_one, largest_k}
use Rattle.label.specs.Split.{Placed, Valued, valued_units, valued_with, valued, Condition}
use Rattle.label.specs.Reading.{Term, term, Reading, refusal, reading_of, reading}
use Rattle.label.specs.Parse.{inside}
use Rattle.label.specs.Agreement.{Raised, raised_term}
use Rattle.label.specs.Writing.{Writable, own_letters, writable, written_reading, SameContent, unless, sized, rewriting}
use Rattle.label.proofs.Basics.{none_some, false_true, and_right}
use Rattle.label.proofs.General.{G, LabelBy}
use Rattle.label.proofs.Parts.{PartBy, AllParts, label_parts}
use Rattle.label.proofs.Places.{Located, AllLocated, label_located, located_there}
use Rattle.label.proofs.Owned.{spelling_sourced}
use Rattle.label.proofs.Ruled.{RuledBy, derives_by}
use Rattle.label.proofs.Refusals.{bounds, Values, valued_values, values_length}
use Rattle.label.proofs.Readings.{Accepted, Answered, answer_of, refused_reading, accepted_reading}
use Rattle.label.proofs.Exponents.{exponent_kept}
use Rattle.label.proofs.Figures.{size_signed}
use Rattle.label.proofs.Spelled.{WithinBounds}
use Rattle.label.proofs.Rewritten.{ReadyToWrite, AllReady, raised, TextReadBack, written_back}

-- EXPONENTS

quotient_low : (n d : ℕ) → 1 ≤ n → parts_of_one * n % d ≡ 0 → 1 ≤ parts_of_one * n / d
quotient_low n d h e = go (parts_of_one * n / d) refl
  where
    go : (q : ℕ) → parts_of_one * n / d ≡ q → 1 ≤ q
    go zero f = absurd (omega (arith, div-add-mod' (parts_of_one * n) d, ap (λ (x : ℕ). x * d) f))
    go (suc q) f = omega arith

exponent_within : (b : Bool) (w : Written) (e : Exponent) → exponent_of b w ≡ some e → WithinBounds e
unfolding exponent_of
exponent_within b w e g =
    let k = exponent_kept b (ratio w) e g in
    let z = size_signed (exclusive_or b (ratio w).negative) (sixtieths (ratio w)) in
    let m = eqb-true (parts_of_one * (ratio w).numerator % (ratio w).denominator) 0 k.whole in
    record { low = rw (← k.is, z) (quotient_low (ratio w).numerator (ratio w).denominator k.not_zero m); high = rw (← k.is, z) k.small }

-- a unit of the label s as it is to be written
abbrev pub writable_at : ℕ → List ℕ → Part → Exponent → Writable
writable_at n s p e = record {
  own = own_letters (symbol n p.spelling) (take (length p.spelling) (drop (length s - p.left) s));
  symbol = symbol n p.spelling;
  exponent = e;
}

module _ {n : ℕ} {r : Rules} (o : RuledBy n r) (s : List ℕ) where
  part_ready : {p : Part} (e : Exponent) → PartBy r p → Located s p → exponent_of p.turned p.power ≡ some e → ReadyToWrite (writable_at n s p e)
  part_ready {p} e d w h = record {
    within = exponent_within p.turned p.power e h;
    sourced = rw (located_there w) (spelling_sourced o d.spelled);
  }

  units_ready : {ps : List Part} {us : List Placed} → AllParts r ps → AllLocated s ps → Values ps us → AllReady (map (writable s) (map (term n (length s)) us))
  unfolding writable term
  units_ready AllParts.done AllLocated.none Values.no_values = AllReady.done
  units_ready (AllParts.also d ds) (AllLocated.some w ws) (Values.value {e = e} h v) = AllReady.also (part_ready e d w h) (units_ready ds ws v)

-- K

tens_within : (a b : Bool) (n : ℕ) (k : Tens) → tens a b n ≡ some k → nat_abs k.0 ≤ largest_k
tens_within a b n k h = go (a && leb n largest_k) refl h
  where
    go : (x : Bool) → (a && leb n largest_k) ≡ x → pick x (some (record { 0 = signed b n })) none ≡ some k → nat_abs k.0 ≤ largest_k
    go true p g =
        let w : record { 0 = signed b n } ≡ k = cc in
        rw (← w, size_signed b n) (leb-true n largest_k (and_right a (leb n largest_k) p))
    go false p g = absurd (none_some g)

k_within : (f : Factor) (k : Tens) → k_of f ≡ some k → nat_abs k.0 ≤ largest_k
unfolding k_of
k_within no_factor k h = let w : record { 0 = pos 0 } ≡ k = cc in rw (← w) (omega arith)
k_within (ten_to n) k h = tens_within (short n.digits) n.negative (number n.digits) k h
k_within (zeros z) k h = tens_within true false z k h

-- "at least one unit follows it"
data Filled : List Part → Type 0 where
  filled : {p : Part} {ps : List Part} → Filled (p ∷ ps)

filled_append : {ps : List Part} → Filled ps → (qs : List Part) → Filled (ps ++ qs)
filled_append Filled.filled qs = Filled.filled

filled_turned : {ps : List Part} → Filled ps → Filled (turned_all ps)
filled_turned Filled.filled = Filled.filled

filled_length : {ps : List Part} → Filled ps → 1 ≤ length ps
filled_length Filled.filled = omega arith

-- of the kinds, only what follows an item may be without units
firm : Kind → Bool
firm item = true
firm more = false
firm product = true
firm quotient = true

inside_firm : (r : Rules) → firm (inside r) ≡ true
unfolding firm
inside_firm r = go r.within
  where
    go : (b : Bool) → firm (pick b quotient product) ≡ true
    go true = refl
    go false = refl

parts_filled : {r : Rules} {x : Kind} {s t : List ℕ} {ps : List Part} → G r x s t ps → firm x ≡ true → Filled ps
unfolding firm
parts_filled (G.unit d x) h = Filled.filled
parts_filled {r} (G.group d) h = parts_filled d (inside_firm r)
parts_filled (G.first {qs = qs} d m) h = filled_append (parts_filled d refl) qs
parts_filled (G.under {qs = qs} o d m) h = filled_append (filled_turned (parts_filled d refl)) qs
parts_filled G.done h = absurd (false_true h)
parts_filled (G.times o d m) h = absurd (false_true h)
parts_filled (G.over o d m) h = absurd (false_true h)
parts_filled (G.plain d) h = parts_filled d refl
parts_filled (G.divided {qs = qs} f d i) h = filled_append (parts_filled d refl) (turned_all qs)

k_headed : {r : Rules} {s : List ℕ} {f : Factor} {ps : List Part} → LabelBy r s f ps → (k : Tens) → k_of f ≡ some k → length ps ≡ 0 → k ≡ record { 0 = pos 0 }
unfolding k_of firm
k_headed LabelBy.empty k h e = cc
k_headed (LabelBy.plain u d) k h e = cc
k_headed (LabelBy.under f d) k h e = cc
k_headed (LabelBy.factored l f w d) k h e = absurd (omega (arith, filled_length (parts_filled d refl)))

-- k is 0 where no factor may lead
pub unled_k : {r : Rules} {s : List ℕ} {f : Factor} {ps : List Part} → LabelBy r s f ps → (k : Tens) → k_of f ≡ some k → r.factor ≡ false → k ≡ record { 0 = pos 0 }
unfolding k_of
unled_k LabelBy.empty k h e = cc
unled_k (LabelBy.plain u d) k h e = cc
unled_k (LabelBy.under f d) k h e = cc
unled_k (LabelBy.factored l f w d) k h e = absurd (rw e at l)

-- THE SOURCE

pub valued_k : (f : Factor) (ps : List Part) (v : Valued) → valued f ps ≡ some v → k_of f ≡ some v.k
unfolding valued valued_with
valued_k f ps v h = go (k_of f) (valued_units ps) refl h
  where
    go : (o : Option Tens) (us : Option (List Placed)) → k_of f ≡ o → valued_with o us ≡ some v → k_of f ≡ some v.k
    go none us q h = absurd (none_some h)
    go (some k) none q h = absurd (none_some h)
    go (some k) (some us) q h = q ∙ ap (λ (x : Tens). some x) (cc)

-- an accepted label's values keep the limits
pub record Kept (k : Tens) (ws : List Writable) : Type 0 where
  pub ready : AllReady ws
  pub high : nat_abs k.0 ≤ largest_k
  pub headed : ws ≡ [] → k ≡ record { 0 = pos 0 }
  pub few : length ws ≤ most_terms

pub accepted_kept : {n : ℕ} {s : List ℕ} {v : Valued} → Accepted n s v → Kept v.k (map (writable s) (map (term n (length s)) v.units))
accepted_kept {n} {s} {v} a =
    let d = (derives_by a.derived).2 in
    let u = valued_values a.factor a.parts v a.within in
    let k = valued_k a.factor a.parts v a.within in
    let c = length-map (map (term n (length s)) v.units) (writable s) ∙ length-map v.units (term n (length s)) ∙ values_length u in
    record {
      ready = units_ready (derives_by a.derived).1 s (label_parts d) (label_located d) u;
      high = k_within a.factor v.k k;
      headed = λ e. k_headed d v.k k (sym c ∙ ap length e);
      few = rw c few;
    }
  where
    few : length a.parts ≤ most_terms
    few = go (dec_lt most_terms (length a.parts))
      where
        go : Dec (most_terms < length a.parts) → length a.parts ≤ most_terms
        go (yes h) = absurd (a.clear 7 (Condition.seven (a.factor, a.parts, a.derived, h)))
        go (no h) = omega arith

-- THE THEOREM

raised_writable : (s : List ℕ) (ts : List Term) → map raised (map (writable s) ts) ≡ map raised_term ts
unfolding writable
raised_writable s [] = refl
raised_writable s (t ∷ ts) = ap (λ (l : List Raised). raised_term t ∷ l) (raised_writable s ts)

-- what reading the text t gives, beside the reading a that it was written for
record Rereads (m : ℕ) (a : Reading) (t : List ℕ) (b : Reading) : Type 0 where
  content : SameContent a b
  again : written_reading m t b ≡ some t

rereads : (m : ℕ) (s t : List ℕ) (a b : Reading) → written_reading m s a ≡ some t → TextReadBack m a.k (map (writable s) a.terms) t b → Rereads m a t b
rereads m s t a b h w = record {
  content = record { answers = w.answers; k = w.power; terms = w.terms ∙ raised_writable s a.terms };
  again = w.again ∙ h;
}

accepted_rereads : {n : ℕ} {s : List ℕ} {v : Valued} → Accepted n s v → (m : ℕ) (t : List ℕ) (a : Reading) → a ≡ reading_of n v.k (map (term n (length s)) v.units)
    → written_reading m s a ≡ some t → length t ≤ most_bytes → Rereads m a t (reading m t)
unfolding reading_of
accepted_rereads {n} {s} {v} w m t a e h short =
    let q = accepted_kept w in
    rw e (rereads m s t (reading_of n v.k (map (term n (length s)) v.units)) (reading m t) (rw e at h)
    (written_back m v.k q.ready q.high q.headed q.few t short (rw e at h)))

refusal_number : (i : ℕ) → (refusal i).number ≡ i
unfolding refusal
refusal_number i = refl

module _ (n : ℕ) (s : List ℕ) (m : ℕ) (t : List ℕ) (z : (reading n s).number ≡ 0) (h : written_reading m s (reading n s) ≡ some t) (short : length t ≤ most_bytes) where
  written_rereads : Rereads m (reading n s) t (reading m t)
  written_rereads = go (answer_of n s)
    where
      go : Answered n s → Rereads m (reading n s) t (reading m t)
      go (Answered.refusing i e d) = absurd (omega (arith, bounds d.holds, z, ap (λ (r : Reading). r.number) (refused_reading d), refusal_number i))
      go (Answered.accepting v w) = accepted_rereads w m t (reading n s) (accepted_reading w) h short

  -- A text that is written for an accepted label and has at most 255 bytes reads, in its notation, as the same.
  pub written_content : SameContent (reading n s) (reading m t)
  written_content = written_rereads.content

  -- Written once more in that notation, it is the same text.
  pub written_again : written_reading m t (reading m t) ≡ some t
  written_again = written_rereads.again

-- REWRITING

-- a rewriting that answers 0 passed every test, and its text was written
pub record Succeeds (n : ℕ) (s : List ℕ) (m : ℕ) (t : List ℕ) : Type 0 where
  pub read : (reading n s).number ≡ 0
  pub target : notation m ≡ true
  pub writes : written_reading m s (reading n s) ≡ some t
  pub short : length t ≤ most_bytes

pub rewriting_succeeds : (n : ℕ) (s : List ℕ) (m : ℕ) → (rewriting n s m).number ≡ 0 → Succeeds n s m (rewriting n s m).text
unfolding rewriting unless sized
rewriting_succeeds n s m h = go (eqb (reading n s).number 0) (notation m) (written_reading m s (reading n s)) refl refl refl h
  where
    last : (t : List ℕ) (b : Bool) → leb (length t) most_bytes ≡ b → eqb (reading n s).number 0 ≡ true → notation m ≡ true → written_reading m s (reading n s) ≡ some t
        → (unless b 13 (record { number = 0; text = t })).number ≡ 0 → Succeeds n s m (unless b 13 (record { number = 0; text = t })).text
    last t true f p q o h = record { read = eqb-true (reading n s).number 0 p; target = q; writes = o; short = leb-true (length t) most_bytes f }
    last t false f p q o h = absurd (omega arith)

    go : (a b : Bool) (o : Option (List ℕ)) → eqb (reading n s).number 0 ≡ a → notation m ≡ b → written_reading m s (reading n s) ≡ o
        → (unless a (reading n s).number (unless b 1 (sized o))).number ≡ 0 → Succeeds n s m (unless a (reading n s).number (unless b 1 (sized o))).text
    go false b o p q e h = absurd (eqb-false (reading n s).number 0 p h)
    go true false o p q e h = absurd (omega arith)
    go true true none p q e h = absurd (omega arith)
    go true true (some t) p q e h = last t (leb (length t) most_bytes) refl p q e h

passes : (n : ℕ) (s : List ℕ) (m : ℕ) (t : List ℕ) → (reading n s).number ≡ 0 → notation m ≡ true → written_reading m s (reading n s) ≡ some t → length t ≤ most_bytes
    → rewriting n s m ≡ record { number = 0; text = t }
unfolding rewriting unless sized
passes n s m t z e h short = rw (eq-eqb (reading n s).number 0 z, e, h, le-leb (length t) most_bytes short)

-- Demand 2: "A rewritten label, read in its new notation, gives the same units, prefixes, exponents and power of ten."
pub rewriting_content : (n : ℕ) (s : List ℕ) (m : ℕ) → (rewriting n s m).number ≡ 0 → SameContent (reading n s) (reading m (rewriting n s m).text)
rewriting_content n s m h = let w = rewriting_succeeds n s m h in written_content n s m (rewriting n s m).text w.read w.writes w.short

-- Rewritten once more into the notation that it is in, a rewritten label has the same bytes.
pub rewriting_again : (n : ℕ) (s : List ℕ) (m : ℕ) → (rewriting n s m).number ≡ 0
    → rewriting m (rewriting n s m).text m ≡ record { number = 0; text = (rewriting n s m).text }
rewriting_again n s m h = go (rewriting n s m).text (rewriting_succeeds n s m h) (rewriting_content n s m h).answers
  where
    go : (t : List ℕ) → Succeeds n s m t → (reading m t).number ≡ 0 → rewriting m t m ≡ record { number = 0; text = t }
    go t w z = passes m t m t z w.target (written_again n s m t w.read w.writes w.short) w.short
