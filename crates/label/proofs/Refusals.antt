-- Refusals 1 to 7: what checking a label answers is what the conditions of document 01 say.
use Prim.Native.Nat.{ℕ, suc, ◌≤◌, ◌<◌}
use native.Mathlib.Omega.{arith}
use native.Mathlib.Decide.{ℕ_discrete}
use mathlib.Core.Path.{◌≡◌, refl, ap, sym, ◌∙◌}
use mathlib.Core.Bool.{Bool, true, false}
use mathlib.Core.List.{List, [], ◌∷◌}
use mathlib.Core.Option.{Option, none, some}
use lib.Dec.{leb}
use lib.ListN.{length}
use borrow.Author.Tests.{leb-true, leb-false}
use Rattle.label.specs.declared.Exponent.{Exponent}
use Rattle.label.specs.declared.Tens.{Tens}
use Rattle.label.specs.Bytes.{admitted, all}
use Rattle.label.specs.Notations.{notation}
use Rattle.label.specs.Lexical.{Factor, Part}
use Rattle.label.specs.Grammar.{Derives}
use Rattle.label.specs.Parse.{Parsed, refused, parsed, parse}
use Rattle.label.specs.Limits.{most_bytes, most_terms, most_brackets, exponent_of, k_of, deepest}
use Rattle.label.specs.Split.{Placed, Valued, valued_unit, valued_units, valued_with, valued, Condition, one, two, three, four, five, six, seven, Refused}
use Rattle.label.specs.Reading.{Checked, refuse, accept, unless, check_counts, check_values, check_grammar, checked}
use Rattle.label.proofs.Basics.{false_true, none_some}
use Rattle.label.proofs.Derivations.{parsed_derived, refused_underived, same_derivation}

-- WHICH CONDITIONS ARE PASSED

pub bounds : {i n : ℕ} {s : List ℕ} → Condition i n s → (1 ≤ i) × (i ≤ 7)
bounds (one c) = omega arith
bounds (two c) = omega arith
bounds (three c) = omega arith
bounds (four c) = omega arith
bounds (five c) = omega arith
bounds (six c) = omega arith
bounds (seven c) = omega arith

-- no condition before k holds
abbrev ClearBefore : ℕ → ℕ → List ℕ → Type 0
ClearBefore k n s = (j : ℕ) → j < k → Condition j n s → ⊥

clear_first : (n : ℕ) (s : List ℕ) → ClearBefore 1 n s
clear_first n s j h c = omega (arith, bounds c)

clear_next : {k n : ℕ} {s : List ℕ} → ClearBefore k n s → (Condition k n s → ⊥) → ClearBefore (suc k) n s
clear_next {k} {n} {s} h g j l c = go (ℕ_discrete j k)
  where
    go : Dec (j ≡ k) → ⊥
    go (yes e) = g (rw e at c)
    go (no e) = h j (omega arith) c

clear_all : {n : ℕ} {s : List ℕ} → ClearBefore 8 n s → (i : ℕ) → Condition i n s → ⊥
clear_all h i c = h i (omega (arith, bounds c)) c

-- THE OUTCOME OF CHECKING

-- what checking answers, with why
pub data Outcome (n : ℕ) (s : List ℕ) : Checked → Type 0 where
  refusing : {i : ℕ} → Refused i n s → Outcome n s (refuse i)
  accepting : {v : Valued} → ((i : ℕ) → Condition i n s → ⊥) → (f : Factor) (ps : List Part) → Derives n s f ps → valued f ps ≡ some v → Outcome n s (accept v)

-- VALUES

-- each part's value, one by one
pub data Values : List Part → List Placed → Type 0 where
  no_values : Values [] []
  value : {p : Part} {ps : List Part} {us : List Placed} {e : Exponent} → exponent_of p.turned p.power ≡ some e → Values ps us
      → Values (p ∷ ps) (record { spelling = p.spelling; exponent = e; left = p.left } ∷ us)

pub units_values : (ps : List Part) (us : List Placed) → valued_units ps ≡ some us → Values ps us
unfolding valued_units valued_unit
units_values [] us h = let q : [] ≡ us = cc in rw (← q) Values.no_values
units_values (p ∷ ps) us h = go (exponent_of p.turned p.power) (valued_units ps) refl (λ vs. units_values ps vs) refl h
  where
    go : (o : Option Exponent) (vs : Option (List Placed)) → exponent_of p.turned p.power ≡ o
        → ((ws : List Placed) → valued_units ps ≡ some ws → Values ps ws) → valued_units ps ≡ vs → valued_unit p o vs ≡ some us → Values (p ∷ ps) us
    go none vs e ih q h = absurd (none_some h)
    go (some x) none e ih q h = absurd (none_some h)
    go (some x) (some ws) e ih q h =
        let w : record { spelling = p.spelling; exponent = x; left = p.left } ∷ ws ≡ us = cc in
        rw (← w) (Values.value e (ih ws q))

pub valued_values : (f : Factor) (ps : List Part) (v : Valued) → valued f ps ≡ some v → Values ps v.units
unfolding valued valued_with
valued_values f ps v h = go (k_of f) (valued_units ps) refl h
  where
    go : (o : Option Tens) (vs : Option (List Placed)) → valued_units ps ≡ vs → valued_with o vs ≡ some v → Values ps v.units
    go none vs q h = absurd (none_some h)
    go (some k) none q h = absurd (none_some h)
    go (some k) (some us) q h = units_values ps v.units (q ∙ ap (λ (x : List Placed). some x) (cc))

-- as many units as parts
pub values_length : {ps : List Part} {us : List Placed} → Values ps us → length us ≡ length ps
values_length Values.no_values = refl
values_length (Values.value e v) = ap suc (values_length v)

-- PASSING

module _ {n : ℕ} {s : List ℕ} where
  pass_1 : notation n ≡ true → Condition 1 n s → ⊥
  pass_1 p (one c) = false_true (sym c ∙ p)

  pass_2 : leb (length s) most_bytes ≡ true → Condition 2 n s → ⊥
  pass_2 p (two c) = omega (arith, leb-true (length s) most_bytes p, c)

  pass_3 : all admitted s ≡ true → Condition 3 n s → ⊥
  pass_3 p (three c) = false_true (sym c ∙ p)

  module _ {f : Factor} {ps : List Part} (d : Derives n s f ps) where
    pass_4 : Condition 4 n s → ⊥
    pass_4 (four c) = c f ps d

    module _ {v : Valued} (e : valued f ps ≡ some v) where
      pass_5 : Condition 5 n s → ⊥
      pass_5 (five w) =
          let q = same_derivation d w.2 in
          none_some (sym w.3 ∙ rw (q.0, q.1) at e)

      -- the units are the parts, in any derivation
      units_parts : {g : Factor} {qs : List Part} → Derives n s g qs → length v.units ≡ length qs
      units_parts h = values_length (valued_values f ps v e) ∙ ap length (same_derivation d h).1

      pass_7 : leb (length v.units) most_terms ≡ true → Condition 7 n s → ⊥
      pass_7 p (seven w) = omega (arith, leb-true (length v.units) most_terms p, units_parts w.2, w.3)

  pass_6 : leb (deepest s) most_brackets ≡ true → Condition 6 n s → ⊥
  pass_6 p (six c) = omega (arith, leb-true (deepest s) most_brackets p, c)

-- WHAT CHECKING ANSWERS

module _ (n : ℕ) (s : List ℕ) where
  -- refusals 6 and 7
  counts_outcome : (f : Factor) (ps : List Part) (v : Valued) → Derives n s f ps → valued f ps ≡ some v → ClearBefore 6 n s → Outcome n s (check_counts s v)
  unfolding check_counts unless
  counts_outcome f ps v d e c = go (leb (deepest s) most_brackets) (leb (length v.units) most_terms) refl refl
    where
      go : (a b : Bool) → leb (deepest s) most_brackets ≡ a → leb (length v.units) most_terms ≡ b → Outcome n s (unless a 6 (unless b 7 (accept v)))
      go false b p q = Outcome.refusing (record { holds = six (leb-false (deepest s) most_brackets p); earliest = c })
      go true false p q =
          Outcome.refusing (record {
            holds = seven (f, ps, d, omega (arith, leb-false (length v.units) most_terms q, units_parts d e d));
            earliest = clear_next c (pass_6 p);
          })
      go true true p q = Outcome.accepting (clear_all (clear_next (clear_next c (pass_6 p)) (pass_7 d e q))) f ps d e

  -- refusal 5
  values_outcome : (f : Factor) (ps : List Part) (o : Option Valued) → Derives n s f ps → valued f ps ≡ o → ClearBefore 5 n s → Outcome n s (check_values s o)
  unfolding check_values
  values_outcome f ps none d e c = Outcome.refusing (record { holds = five (f, ps, d, e); earliest = c })
  values_outcome f ps (some v) d e c = counts_outcome f ps v d e (clear_next c (pass_5 d e))

  -- refusal 4
  grammar_outcome : (o : Parsed) → parse n s ≡ o → ClearBefore 4 n s → Outcome n s (check_grammar s o)
  unfolding check_grammar
  grammar_outcome refused e c = Outcome.refusing (record { holds = four (refused_underived n s e); earliest = c })
  grammar_outcome (parsed f ps) e c =
      let d = parsed_derived n s f ps e in
      values_outcome f ps (valued f ps) d refl (clear_next c (pass_4 d))

  -- refusals 1 to 3, and those after them
  pub outcome : Outcome n s (checked n s)
  unfolding checked unless
  outcome = go (notation n) (leb (length s) most_bytes) (all admitted s) refl refl refl
    where
      go : (a b c : Bool) → notation n ≡ a → leb (length s) most_bytes ≡ b → all admitted s ≡ c
          → Outcome n s (unless a 1 (unless b 2 (unless c 3 (check_grammar s (parse n s)))))
      go false b c p q h = Outcome.refusing (record { holds = one p; earliest = clear_first n s })
      go true false c p q h = Outcome.refusing (record { holds = two (leb-false (length s) most_bytes q); earliest = clear_next (clear_first n s) (pass_1 p) })
      go true true false p q h = Outcome.refusing (record { holds = three h; earliest = clear_next (clear_next (clear_first n s) (pass_1 p)) (pass_2 q) })
      go true true true p q h =
          grammar_outcome (parse n s) refl (clear_next (clear_next (clear_next (clear_first n s) (pass_1 p)) (pass_2 q)) (pass_3 h))
