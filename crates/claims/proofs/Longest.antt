-- The most bytes that the words of an accepted label have, and a label whose words have as many.
use Prim.Native.Nat.{ℕ, zero, suc, ◌+◌, ◌*◌, ◌≤◌, ◌<◌}
use native.Mathlib.Omega.{arith}
use native.Mathlib.Decide.{dec_lt}
use mathlib.Core.Path.{◌≡◌, refl, sym}
use mathlib.Core.Bool.{Bool, true, false}
use mathlib.Core.List.{List, [], ◌∷◌, ◌++◌, map}
use lib.Dec.{eqb}
use lib.ListN.{length}
use borrow.Author.Tests.{eqb-true, le-leb}
use Rattle.label.specs.declared.Rules.{Rules}
use Rattle.label.specs.Bytes.{bytes}
use Rattle.label.specs.Lexical.{Part}
use Rattle.label.specs.Limits.{most_bytes, most_terms}
use Rattle.label.specs.Split.{Placed, Valued, Condition}
use Rattle.label.specs.Symbols.{symbol}
use Rattle.label.specs.Reading.{reading, reading_of, term}
use Rattle.label.specs.Writing.{unless, fitted}
use Rattle.label.specs.Words.{factor_words, symbol_words, exponent_words, term_words, terms_words, words, spoken, most_spoken, speaking, speaking_into}
use Rattle.label.proofs.Computing.{answers_compute}
use Rattle.label.proofs.Parts.{AllParts, label_parts}
use Rattle.label.proofs.Ruled.{RuledBy, derives_by}
use Rattle.label.proofs.Refusals.{bounds, Values, valued_values}
use Rattle.label.proofs.Readings.{Accepted, Answered, answer_of, accepted_reading, number_refused}
use Rattle.label.proofs.Sources.{valued_k}
use Rattle.claims.proofs.SpokenSamples.{words_compute}
use Rattle.claims.proofs.SpokenSymbols.{spelling_speakable}
use Rattle.claims.proofs.WordSizes.{cost, cost_nil, cost_append, joined_cost}
use Rattle.claims.proofs.PowerSizes.{power_size, exponent_in_text, PowerCost, power_cost}
use Rattle.claims.proofs.SymbolSizes.{SymbolCost, symbol_cost}
use Rattle.claims.proofs.LabelSizes.{used, lead, lead_one, label_cost, factor_most}

-- TERMS

-- how many bytes c the words of these units have: at most 30 for each unit and 2 for each byte that they use, less 2 if no slash turns the first, and
-- less 4 if one is unknown; if all are known, at most 154 fifths for each unit and 9 for each byte
data TermsCost (ps : List Part) (c : ℕ) : Type 0 where
  every_known : c + 2 * lead ps ≤ 30 * length ps + 2 * used ps → 5 * c ≤ 154 * length ps + 9 * used ps → TermsCost ps c
  some_unknown : c + 4 + 2 * lead ps ≤ 30 * length ps + 2 * used ps → TermsCost ps c

with_one_more : {p : Part} {ps : List Part} {x y z : ℕ} → SymbolCost (length p.spelling) x → PowerCost p.turned (power_size p.power) y → TermsCost ps z → TermsCost (p ∷ ps) (x + y + z)
unfolding used lead
with_one_more (SymbolCost.of_known a) b (TermsCost.every_known c d) = TermsCost.every_known (omega (arith, b.by_twos)) (omega (arith, b.in_fifths))
with_one_more (SymbolCost.of_known a) b (TermsCost.some_unknown c) = TermsCost.some_unknown (omega (arith, b.by_twos))
with_one_more (SymbolCost.of_unknown a) b (TermsCost.every_known c d) = TermsCost.some_unknown (omega (arith, b.by_twos))
with_one_more (SymbolCost.of_unknown a) b (TermsCost.some_unknown c) = TermsCost.some_unknown (omega (arith, b.by_twos))

term_cost : (n b : ℕ) (u : Placed) → cost (term_words (term n b u)) ≡ cost (symbol_words (symbol n u.spelling)) + cost (exponent_words u.exponent)
unfolding term_words term
term_cost n b u = cost_append (symbol_words (symbol n u.spelling)) (exponent_words u.exponent)

terms_cost : {n : ℕ} {r : Rules} (b : ℕ) {ps : List Part} {us : List Placed} → RuledBy n r → AllParts r ps → Values ps us → TermsCost ps (cost (terms_words (map (term n b) us)))
unfolding terms_words used lead
terms_cost b o AllParts.done Values.no_values = TermsCost.every_known (omega (arith, cost_nil)) (omega (arith, cost_nil))
terms_cost {n} b o (AllParts.also {p = p} d ds) (Values.value {us = us} {e = e} h v) =
    rw (cost_append (term_words (term n b (record { spelling = p.spelling; exponent = e; left = p.left }))) (terms_words (map (term n b) us)), term_cost n b (record { spelling = p.spelling; exponent = e; left = p.left }))
    (with_one_more (symbol_cost (spelling_speakable o d.spelled)) (power_cost p.turned e (exponent_in_text d.raised).by_runs h) (terms_cost b o ds v))

-- THE BOUND

module _ {n : ℕ} {s : List ℕ} {v : Valued} (a : Accepted n s v) where
  few_terms : length a.parts ≤ most_terms
  few_terms = go (dec_lt most_terms (length a.parts))
    where
      go : Dec (most_terms < length a.parts) → length a.parts ≤ most_terms
      go (yes h) = absurd (a.clear 7 (Condition.seven (a.factor, a.parts, a.derived, h)))
      go (no h) = omega arith

  few_bytes : length s ≤ most_bytes
  few_bytes = go (dec_lt most_bytes (length s))
    where
      go : Dec (most_bytes < length s) → length s ≤ most_bytes
      go (yes h) = absurd (a.clear 2 (Condition.two h))
      go (no h) = omega arith

  words_cost : cost (factor_words v.k) + cost (terms_words (map (term n (length s)) v.units)) ≤ suc most_spoken
  words_cost =
      let d = derives_by a.derived in
      let f = label_cost v.k d.2 (valued_k a.factor a.parts v a.within) in
      go f (terms_cost (length s) d.1 (label_parts d.2) (valued_values a.factor a.parts v a.within))
    where
      go : {c : ℕ} → cost (factor_words v.k) + 2 * used a.parts ≤ 11 + 2 * lead a.parts + 2 * length s → TermsCost a.parts c → cost (factor_words v.k) + c ≤ suc most_spoken
      go f (TermsCost.every_known c d) = omega (arith, factor_most v.k, lead_one a.parts, few_terms, few_bytes)
      go f (TermsCost.some_unknown c) = omega (arith, few_terms, few_bytes)

  accepted_short : length (spoken (reading_of n v.k (map (term n (length s)) v.units))) ≤ most_spoken
  unfolding spoken words reading_of
  accepted_short =
      let f = factor_words v.k in
      let t = terms_words (map (term n (length s)) v.units) in
      omega (arith, joined_cost (f ++ t), cost_append f t, words_cost)

-- the words of an accepted label have at most 1,476 bytes
pub spoken_short : (n : ℕ) (s : List ℕ) → (reading n s).number ≡ 0 → length (spoken (reading n s)) ≤ most_spoken
spoken_short n s z = go (answer_of n s)
  where
    go : Answered n s → length (spoken (reading n s)) ≤ most_spoken
    go (Answered.refusing i e d) = absurd (omega (arith, bounds d.holds, z, (number_refused n s i (bounds d.holds).0).1 d))
    go (Answered.accepting v a) = rw (accepted_reading a) (accepted_short a)

-- a buffer of that many bytes is never short
pub never_short : (n : ℕ) (s : List ℕ) (size : ℕ) → most_spoken ≤ size → (speaking_into size n s).number ≡ (reading n s).number
unfolding speaking_into speaking fitted unless
never_short n s size h = go (eqb (reading n s).number 0) refl
  where
    go : (b : Bool) → eqb (reading n s).number 0 ≡ b
        → (fitted size (unless b (reading n s).number (record { number = 0; text = spoken (reading n s) }))).number ≡ (reading n s).number
    go true e =
        let z = eqb-true (reading n s).number 0 e in
        rw (le-leb (length (spoken (reading n s))) size (omega (arith, spoken_short n s z))) (sym z)
    go false e = rw (le-leb 0 size (omega arith)) refl

-- A LABEL THAT MEETS IT

repeated : ℕ → List ℕ → List ℕ → List ℕ
repeated zero w s = s
repeated (suc n) w s = w ++ repeated n w s

-- "10-9", 31 times "/hAU", "/h" and 125 letters "x": a CDS label of 255 bytes
pub longest_label : List ℕ
longest_label = bytes "10-9" ++ repeated 31 (bytes "/hAU") (bytes "/h" ++ repeated 125 (bytes "x") [])

pub longest_accepted : (reading 3 longest_label).number ≡ 0
unfolding longest_label repeated answers_compute
longest_accepted = refl

pub longest_spoken : length (spoken (reading 3 longest_label)) ≡ most_spoken
unfolding longest_label repeated words_compute
longest_spoken = refl
