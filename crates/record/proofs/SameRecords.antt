-- Two accepted readings of one label that have the same record are the same.
use Prim.Native.Nat.{ℕ, ◌<◌, ◌^◌}
use native.Mathlib.Omega.{arith}
use mathlib.Core.Path.{◌≡◌, refl, sym, ap, ◌∙◌}
use mathlib.Core.Bool.{Bool, true, false}
use mathlib.Core.List.{List, [], ◌∷◌, ◌++◌, map, append_assoc}
use lib.IntN.{ℤ, pos, nat_abs}
use lib.ListN.{length, take, drop}
use lib.Seq.{take_at, drop_at}
use Rattle.label.specs.declared.Tens.{Tens}
use Rattle.label.specs.Split.{Placed, Refused}
use Rattle.label.specs.Reading.{Term, term, Reading, every, is_known, is_lawful, is_recommended, dimensions_of, scale_of, reading_of, reading}
use Rattle.label.proofs.Refusals.{bounds}
use Rattle.label.proofs.Lettering.{letters_there}
use Rattle.label.proofs.Readings.{Answered, answer_of, accepted_reading, number_refused, same_values}
use Rattle.record.specs.Record.{digits, eight, value, signed, encoded, flag, prefix_code, unit_code, term_fields, terms_fields, head_fields, fields, record_of, SameRecordSameReading, LettersInLabel}
use Rattle.record.proofs.ReadingBack.{read_back}
use Rattle.record.proofs.Codes.{symbol_small, symbols_same}

-- NUMBERS

eight_length : (z : ℤ) → length (eight z) ≡ 8
unfolding eight digits
eight_length z = refl

-- the bytes of the first number, and those of the numbers after it
encoded_first : (x y : ℤ) (xs ys : List ℤ) → encoded (x ∷ xs) ≡ encoded (y ∷ ys) → (eight x ≡ eight y) × (encoded xs ≡ encoded ys)
unfolding encoded
encoded_first x y xs ys e = (
  sym (take_at (eight x) (encoded xs) 8 (eight_length x)) ∙ ap (take 8) e ∙ take_at (eight y) (encoded ys) 8 (eight_length y),
  sym (drop_at (eight x) (encoded xs) 8 (eight_length x)) ∙ ap (drop 8) e ∙ drop_at (eight y) (encoded ys) 8 (eight_length y),
)

same_number : (a b : ℕ) → a < 2 ^ 63 → b < 2 ^ 63 → eight (pos a) ≡ eight (pos b) → a ≡ b
same_number a b h g e =
    ap nat_abs (sym (read_back (pos a) h) ∙ ap (λ (l : List ℕ). signed (value l)) e ∙ read_back (pos b) g)

same_flag : (a b : Bool) → eight (flag a) ≡ eight (flag b) → a ≡ b
same_flag true true e = refl
same_flag true false e = let z : ◌≡◌ {A = ℕ} 1 0 = same_number 1 0 (omega arith) (omega arith) e in absurd (omega arith)
same_flag false true e = let z : ◌≡◌ {A = ℕ} 0 1 = same_number 0 1 (omega arith) (omega arith) e in absurd (omega arith)
same_flag false false e = refl

-- TERMS

module _ (n m b : ℕ) where
  same_term : (u : Placed) → eight (pos (prefix_code (term n b u).symbol)) ≡ eight (pos (prefix_code (term m b u).symbol))
      → eight (pos (unit_code (term n b u).symbol)) ≡ eight (pos (unit_code (term m b u).symbol)) → term n b u ≡ term m b u
  unfolding term
  same_term u p q =
      let x = symbol_small n u.spelling in
      let y = symbol_small m u.spelling in
      rw (symbols_same n m u.spelling
      (same_number _ _ (omega (arith, x.prefix)) (omega (arith, y.prefix)) p)
      (same_number _ _ (omega (arith, x.unit)) (omega (arith, y.unit)) q))

  -- the two numbers of a term that are not the same in all notations, and what comes after the term
  first_term : (t u : Term) (xs ys : List ℤ) → encoded (term_fields t ++ xs) ≡ encoded (term_fields u ++ ys)
      → (eight (pos (prefix_code t.symbol)) ≡ eight (pos (prefix_code u.symbol)))
      × ((eight (pos (unit_code t.symbol)) ≡ eight (pos (unit_code u.symbol))) × (encoded xs ≡ encoded ys))
  unfolding term_fields
  first_term t u xs ys e =
      let e₁ = encoded_first _ _ _ _ e in
      let e₂ = encoded_first _ _ _ _ e₁.1 in
      let e₃ = encoded_first _ _ _ _ e₂.1 in
      let e₄ = encoded_first _ _ _ _ e₃.1 in
      let e₅ = encoded_first _ _ _ _ e₄.1 in
      let e₆ = encoded_first _ _ _ _ e₅.1 in
      let e₇ = encoded_first _ _ xs ys e₆.1 in
      (e₁.0, (e₂.0, e₇.1))

  same_terms : (us : List Placed) (xs ys : List ℤ) → encoded (terms_fields (map (term n b) us) ++ xs) ≡ encoded (terms_fields (map (term m b) us) ++ ys)
      → map (term n b) us ≡ map (term m b) us
  unfolding terms_fields
  same_terms [] xs ys e = refl
  same_terms (u ∷ us) xs ys e =
      let w = first_term (term n b u) (term m b u) (terms_fields (map (term n b) us) ++ xs) (terms_fields (map (term m b) us) ++ ys) (regroup e) in
      rw (same_term u w.0 w.1.0, same_terms us xs ys w.1.1)
    where
      regroup : encoded ((term_fields (term n b u) ++ terms_fields (map (term n b) us)) ++ xs) ≡ encoded ((term_fields (term m b u) ++ terms_fields (map (term m b) us)) ++ ys)
          → encoded (term_fields (term n b u) ++ (terms_fields (map (term n b) us) ++ xs)) ≡ encoded (term_fields (term m b u) ++ (terms_fields (map (term m b) us) ++ ys))
      regroup e =
          rw
          (← append_assoc (term_fields (term n b u)) (terms_fields (map (term n b) us)) xs, ← append_assoc (term_fields (term m b u)) (terms_fields (map (term m b) us)) ys)
          e

-- READINGS

-- an accepted reading: only its terms and whether it is lawful are the notation's
made : Tens → List Term → Bool → Reading
made k ts lawful = record {
  number = 0;
  k = k;
  terms = ts;
  known = every is_known ts;
  lawful = lawful;
  recommended = every is_recommended ts;
  dimensions = dimensions_of ts;
  scale = scale_of k ts;
}

reading_made : (n : ℕ) (k : Tens) (ts : List Term) → reading_of n k ts ≡ made k ts (every (is_lawful n) ts)
unfolding reading_of made
reading_made n k ts = refl

-- the verdict in the record's head, and what comes after the head
head_same : (r q : Reading) → record_of r ≡ record_of q → (r.lawful ≡ q.lawful) × ((xs ys : List ℤ) × (encoded (terms_fields r.terms ++ xs) ≡ encoded (terms_fields q.terms ++ ys)))
unfolding record_of fields head_fields
head_same r q e =
    let e₁ = encoded_first _ _ _ _ e in
    let e₂ = encoded_first _ _ _ _ e₁.1 in
    let e₃ = encoded_first _ _ _ _ e₂.1 in
    let e₄ = encoded_first _ _ _ _ e₃.1 in
    let e₅ = encoded_first _ _ _ _ e₄.1 in
    let e₆ = encoded_first _ _ _ _ e₅.1 in
    (same_flag r.lawful q.lawful e₄.0, (_, _, e₆.1))

same_reading : (n m b : ℕ) (k : Tens) (us : List Placed) → record_of (reading_of n k (map (term n b) us)) ≡ record_of (reading_of m k (map (term m b) us))
    → reading_of n k (map (term n b) us) ≡ reading_of m k (map (term m b) us)
unfolding reading_of
same_reading n m b k us e =
    let w = head_same (reading_of n k (map (term n b) us)) (reading_of m k (map (term m b) us)) e in
    let t = same_terms n m b us w.1.0 w.1.1 w.1.2 in
    reading_made n k (map (term n b) us)
    ∙ ap (λ (ts : List Term). made k ts (every (is_lawful n) (map (term n b) us))) t
    ∙ ap (made k (map (term m b) us)) w.0
    ∙ sym (reading_made m k (map (term m b) us))

pub same_record_same_reading : SameRecordSameReading
same_record_same_reading n m s a b e = go (answer_of n s) (answer_of m s)
  where
    refused : {k i : ℕ} → Refused i k s → (reading k s).number ≡ 0 → ⊥
    refused {k} {i} d z = let l = (bounds d.holds).0 in omega (arith, (number_refused k s i l).1 d)

    go : Answered n s → Answered m s → reading n s ≡ reading m s
    go (Answered.refusing i c d) y = absurd (refused d a)
    go (Answered.accepting v x) (Answered.refusing i c d) = absurd (refused d b)
    go (Answered.accepting v x) (Answered.accepting w y) =
        let p = accepted_reading x in
        let q : reading m s ≡ reading_of m v.k (map (term m (length s)) v.units) = rw (same_values x y) (accepted_reading y) in
        p ∙ same_reading n m (length s) v.k v.units (sym (ap record_of p) ∙ e ∙ ap record_of q) ∙ sym q

pub letters_in_label : LettersInLabel
letters_in_label = letters_there
