-- What reading answers, from the conditions and the derivations: its number, and what an accepted label's answer holds.
use Prim.Native.Nat.{ℕ, ◌≤◌, ◌<◌}
use native.Mathlib.Omega.{arith}
use native.Mathlib.Decide.{dec_lt}
use mathlib.Core.Path.{◌≡◌, refl, ap, sym, ◌∙◌}
use mathlib.Core.List.{List, [], ◌∷◌, map}
use mathlib.Core.Option.{some}
use mathlib.Core.Logic.{◌↔◌}
use lib.ListN.{length}
use Rattle.label.specs.declared.Tens.{Tens}
use Rattle.label.specs.Lexical.{Factor, Part}
use Rattle.label.specs.Grammar.{Derives}
use Rattle.label.specs.Split.{Spelled, Split, Placed, Valued, valued, spelled, split_of, Condition, Refused, Accepts}
use Rattle.label.specs.Reading.{Term, term, Reading, refusal, reading_of, Checked, refuse, accept, checked, answered, reading}
use Rattle.label.specs.Agreement.{Raised, raised_in, raised_term, bytes_at, Gives}
use Rattle.label.proofs.Ruled.{derives_by}
use Rattle.label.proofs.Derivations.{same_derivation}
use Rattle.label.proofs.Refusals.{bounds, Values, valued_values, Outcome, outcome}
use Rattle.label.proofs.Places.{AllLocated, label_located, located_there}

-- ONE REFUSAL OR ACCEPTANCE

-- two refusals that are due are the same
one_refusal : {i j n : ℕ} {s : List ℕ} → Refused i n s → Refused j n s → i ≡ j
one_refusal {i} {j} a b = go (dec_lt i j) (dec_lt j i)
  where
    go : Dec (i < j) → Dec (j < i) → i ≡ j
    go (yes l) y = absurd (b.earliest i l a.holds)
    go (no l) (yes y) = absurd (a.earliest j y b.holds)
    go (no l) (no y) = omega arith

-- an accepted label's values
pub record Accepted (n : ℕ) (s : List ℕ) (v : Valued) : Type 0 where
  pub checks : checked n s ≡ accept v
  pub clear : (i : ℕ) → Condition i n s → ⊥
  pub factor : Factor
  pub parts : List Part
  pub derived : Derives n s factor parts
  pub within : valued factor parts ≡ some v

-- what is refused is due, and what is due is refused
pub data Answered (n : ℕ) (s : List ℕ) : Type 0 where
  refusing : (i : ℕ) → checked n s ≡ refuse i → Refused i n s → Answered n s
  accepting : (v : Valued) → Accepted n s v → Answered n s

pub answer_of : (n : ℕ) (s : List ℕ) → Answered n s
answer_of n s = go (checked n s) refl (outcome n s)
  where
    go : (c : Checked) → checked n s ≡ c → Outcome n s c → Answered n s
    go (refuse i) e (Outcome.refusing d) = Answered.refusing i e d
    go (accept v) e (Outcome.accepting c f ps d w) = Answered.accepting v (record { checks = e; clear = c; factor = f; parts = ps; derived = d; within = w })

pub refused_checks : {i n : ℕ} {s : List ℕ} → Refused i n s → checked n s ≡ refuse i
refused_checks {i} {n} {s} d = go (answer_of n s)
  where
    go : Answered n s → checked n s ≡ refuse i
    go (Answered.refusing j e b) = e ∙ ap refuse (one_refusal b d)
    go (Answered.accepting v a) = absurd (a.clear i d.holds)

-- THE NUMBER

pub refused_reading : {i n : ℕ} {s : List ℕ} → Refused i n s → reading n s ≡ refusal i
unfolding reading answered
refused_reading d = rw (refused_checks d)

refusal_number : (i : ℕ) → (refusal i).number ≡ i
unfolding refusal
refusal_number i = refl

pub accepted_reading : {n : ℕ} {s : List ℕ} {v : Valued} → Accepted n s v → reading n s ≡ reading_of n v.k (map (term n (length s)) v.units)
unfolding reading answered
accepted_reading a = rw a.checks

reading_number : (n : ℕ) (k : Tens) (ts : List Term) → (reading_of n k ts).number ≡ 0
unfolding reading_of
reading_number n k ts = refl

pub accepted_number : {n : ℕ} {s : List ℕ} {v : Valued} → Accepted n s v → (reading n s).number ≡ 0
accepted_number {n} {s} {v} a = ap (λ (r : Reading). r.number) (accepted_reading a) ∙ reading_number n v.k _

refused_number : {i n : ℕ} {s : List ℕ} → Refused i n s → (reading n s).number ≡ i
refused_number {i} d = ap (λ (r : Reading). r.number) (refused_reading d) ∙ refusal_number i

pub number_refused : (n : ℕ) (s : List ℕ) (i : ℕ) → 1 ≤ i → ((reading n s).number ≡ i) ↔ Refused i n s
number_refused n s i l = (back (answer_of n s), (λ d. refused_number d))
  where
    back : Answered n s → (reading n s).number ≡ i → Refused i n s
    back (Answered.refusing j e d) q = rw (sym (refused_number d) ∙ q) at d
    back (Answered.accepting v a) q = absurd (omega (arith, accepted_number a))

-- ACCEPTANCE

-- an accepted label's values are those of the acceptance
accepts_these : {n : ℕ} {s : List ℕ} {x : Split} {v : Valued} (w : Accepts n s x) → Accepted n s v → w.values ≡ v
accepts_these {v = v} w a =
    let q = same_derivation w.derived a.derived in
    let e : some w.values ≡ some v = sym w.within ∙ ap (λ (f : Factor). valued f w.parts) q.0 ∙ ap (λ (ps : List Part). valued a.factor ps) q.1 ∙ a.within in
    cc

accepts_values : {n : ℕ} {s : List ℕ} {x : Split} → Accepts n s x → (v : Valued) × Accepted n s v × (x ≡ split_of v)
accepts_values {n} {s} {x} w = go (answer_of n s)
  where
    go : Answered n s → (v : Valued) × Accepted n s v × (x ≡ split_of v)
    go (Answered.refusing i e d) = absurd (w.none_applies i d.holds)
    go (Answered.accepting v a) = (v, a, w.is ∙ ap split_of (accepts_these w a))

pub accepts_terms : {n : ℕ} {s : List ℕ} {x : Split} (w : Accepts n s x) → (reading n s).terms ≡ map (term n (length s)) w.values.units
unfolding reading_of
accepts_terms {n} {s} w = go (answer_of n s)
  where
    go : Answered n s → (reading n s).terms ≡ map (term n (length s)) w.values.units
    go (Answered.refusing i e d) = absurd (w.none_applies i d.holds)
    go (Answered.accepting v a) =
        ap (λ (r : Reading). r.terms) (accepted_reading a) ∙ ap (λ (y : Valued). map (term n (length s)) y.units) (sym (accepts_these w a))

accepted_accepts : {n : ℕ} {s : List ℕ} {v : Valued} → Accepted n s v → Accepts n s (split_of v)
accepted_accepts {v = v} a = record { none_applies = a.clear; factor = a.factor; parts = a.parts; derived = a.derived; values = v; within = a.within; is = refl }

pub number_accepted : (n : ℕ) (s : List ℕ) → ((reading n s).number ≡ 0) ↔ ((x : Split) × Accepts n s x)
number_accepted n s = (there (answer_of n s), (λ w. accepted_number (accepts_values w.1).1))
  where
    positive : {i : ℕ} → Condition i n s → 1 ≤ i
    positive c = (bounds c).0

    there : Answered n s → (reading n s).number ≡ 0 → (x : Split) × Accepts n s x
    there (Answered.refusing j e d) q = absurd (omega (arith, positive d.holds, refused_number d))
    there (Answered.accepting v a) q = (split_of v, accepted_accepts a)

-- WHAT AN ACCEPTED LABEL GIVES

terms_raised : (n b : ℕ) (us : List Placed) → map raised_term (map (term n b) us) ≡ map (raised_in n) (map spelled us)
unfolding term
terms_raised n b [] = refl
terms_raised n b (u ∷ us) = ap (λ (l : List Raised). raised_in n (spelled u) ∷ l) (terms_raised n b us)

terms_placed : (n : ℕ) (s : List ℕ) {ps : List Part} {us : List Placed} → Values ps us → AllLocated s ps
    → map (bytes_at s) (map (term n (length s)) us) ≡ map (λ (y : Spelled). y.spelling) (map spelled us)
unfolding term
terms_placed n s Values.no_values AllLocated.none = refl
terms_placed n s (Values.value {p = p} e vs) (AllLocated.some d ds) = rw (located_there d, terms_placed n s vs ds)

gives : {n : ℕ} {s : List ℕ} {v : Valued} → Accepted n s v → (r : Reading) → r ≡ reading_of n v.k (map (term n (length s)) v.units) → Gives n s (split_of v) r
unfolding reading_of
gives {n} {s} {v} a r e = rw e (record {
  answers = refl;
  k = refl;
  terms = terms_raised n (length s) v.units;
  places = terms_placed n s (valued_values a.factor a.parts v a.within) (label_located (derives_by a.derived).2);
})

pub accepted_gives : {n : ℕ} {s : List ℕ} {x : Split} → Accepts n s x → Gives n s x (reading n s)
accepted_gives {n} {s} w =
    let u = accepts_values w in
    rw u.2 (gives u.1 (reading n s) (accepted_reading u.1))

-- both accept: the values are equal, and so are the splits
pub same_values : {n m : ℕ} {s : List ℕ} {v w : Valued} → Accepted n s v → Accepted m s w → v ≡ w
same_values {v = v} {w = w} a b =
    let q = same_derivation a.derived b.derived in
    let e : some v ≡ some w = sym a.within ∙ ap (λ (f : Factor). valued f a.parts) q.0 ∙ ap (λ (ps : List Part). valued b.factor ps) q.1 ∙ b.within in
    cc

pub same_split : {n m : ℕ} {s : List ℕ} {x y : Split} → Accepts n s x → Accepts m s y → x ≡ y
same_split a b =
    let v = accepts_values a in
    let w = accepts_values b in
    v.2 ∙ ap split_of (same_values v.1 w.1) ∙ sym w.2
