-- One term more, and the units that the terms represent.
use Prim.Native.Nat.{ℕ, ◌≤◌, ◌<◌, ◌+◌, ◌-◌}
use native.Mathlib.Omega.{arith}
use native.Mathlib.Numerals.{add-one}
use mathlib.Core.Path.{◌≡◌, refl, sym, ap, ◌∙◌}
use mathlib.Core.List.{List, [], ◌∷◌, ◌++◌, map, map-append}
use mathlib.Core.Option.{Option, none, some}
use Rattle.std.specs.Prelude.{Result, Ok, Err}
use Rattle.std.specs.Result.{result_ok}
use lib.IntN.{pos}
use lib.ListN.{length, length-append}
use lib.Seq.{take-suc}
use Rattle.label.specs.declared.Exponent.{Exponent}
use Rattle.label.specs.Lexical.{Part}
use Rattle.label.specs.Limits.{exponent_of, most_terms}
use Rattle.label.specs.Options.{told}
use Rattle.label.specs.Ranges.{between}
use Rattle.label.specs.Split.{Placed, valued_unit, valued_units}
use Rattle.descent.specs.declared.terms.Term.{Term}
use Rattle.descent.specs.declared.terms.Terms.{Terms}
use Rattle.descent.specs.Terms.{count, broken, NoTerms, term, term_at, terms, mark, kept_exponent, KeepsTerm, placed_in, missing, InLabel, AllIn, HoldsUnits}

-- the terms up to the next one
pub terms_next : (t : Terms) (n : ℕ) → n < length t.items → terms t (n + 1) ≡ terms t n ++ (term_at t n ∷ [])
terms_next t n h = rw add-one (take-suc t.items n (term 0 0 (record { 0 = pos 0 })) h)

pub holds_none : {t : Terms} → NoTerms t → (s : List ℕ) → HoldsUnits s t []
unfolding valued_units
holds_none w s = record { counted = w.counts; marks = w.unbroken; kept = λ h e. refl; inside = λ h. AllIn.none }

-- two lists of units, if both have their values
both_units : Option (List Placed) → Option (List Placed) → Option (List Placed)
both_units none us = none
both_units (some us) none = none
both_units (some us) (some vs) = some (us ++ vs)

units_append : (ps qs : List Part) → valued_units (ps ++ qs) ≡ both_units (valued_units ps) (valued_units qs)
unfolding valued_units valued_unit both_units
units_append [] qs = go (valued_units qs)
  where
    go : (o : Option (List Placed)) → o ≡ both_units (some []) o
    go none = refl
    go (some us) = refl
units_append (p ∷ ps) qs = ap (valued_unit p (exponent_of p.turned p.power)) (units_append ps qs) ∙ go (exponent_of p.turned p.power) (valued_units ps) (valued_units qs)
  where
    go : (e : Option Exponent) (us vs : Option (List Placed)) → valued_unit p e (both_units us vs) ≡ both_units (valued_unit p e us) vs
    go none us vs = refl
    go (some e) none vs = refl
    go (some e) (some us) none = refl
    go (some e) (some us) (some vs) = refl

-- one unit whose exponent is told
unit_of : List ℕ → Term → Result Exponent Exponent → Option (List Placed)
unit_of s x (Ok e) = some (placed_in s x ∷ [])
unit_of s x (Err e) = none

module _ (s : List ℕ) (a z : ℕ) (p : Part) (spelled : p.spelling ≡ between s a z) (left : p.left ≡ length s - a) where
  one_unit : (o : Result Exponent Exponent) → told (result_ok o) ≡ exponent_of p.turned p.power → valued_units (p ∷ []) ≡ unit_of s (term a z (kept_exponent o)) o
  unfolding valued_units valued_unit unit_of
  one_unit (Ok e) q = rw (← q, spelled, left)
  one_unit (Err e) q = rw (← q)

all_in_more : {s : List ℕ} {xs : List Term} {x : Term} → AllIn s xs → InLabel s x → AllIn s (xs ++ (x ∷ []))
all_in_more AllIn.none i = AllIn.more i AllIn.none
all_in_more (AllIn.more j js) i = AllIn.more j (all_in_more js i)

module _ (s : List ℕ) {t u : Terms} {a z : ℕ} (o : Result Exponent Exponent) (p : Part) (q : told (result_ok o) ≡ exponent_of p.turned p.power)
    (spelled : p.spelling ≡ between s a z) (left : p.left ≡ length s - a) (w : KeepsTerm t a z o u) (i : InLabel s (term a z (kept_exponent o))) where
  units_more : (ps : List Part) → valued_units (ps ++ (p ∷ [])) ≡ both_units (valued_units ps) (unit_of s (term a z (kept_exponent o)) o)
  units_more ps = units_append ps (p ∷ []) ∙ ap (both_units (valued_units ps)) (one_unit s a z p spelled left o q)

  terms_more : (ps : List Part) → count t ≡ length ps → length (ps ++ (p ∷ [])) ≤ most_terms
      → terms u (length (ps ++ (p ∷ []))) ≡ terms t (length ps) ++ (term a z (kept_exponent o) ∷ [])
  terms_more ps c l = rw (length-append ps (p ∷ []), ← c) (w.adds (omega (arith, length-append ps (p ∷ []))))

  pub holds_more : (ps : List Part) → HoldsUnits s t ps → HoldsUnits s u (ps ++ (p ∷ []))
  unfolding both_units unit_of
  holds_more ps h = record {
    counted = omega (arith, w.counted, h.counted, length-append ps (p ∷ []));
    marks = w.marks ∙ ap (mark o) h.marks ∙ flag (valued_units ps) o (kept_exponent o) ∙ ap missing (sym (units_more ps));
    kept = λ l e. units_more ps ∙ keeps l e (broken t) o refl refl;
    inside = λ l. rw (terms_more ps h.counted l) (all_in_more (h.inside (omega (arith, length-append ps (p ∷ [])))) i);
  }
    where
      flag : (y : Option (List Placed)) (m : Result Exponent Exponent) (x : Exponent) → mark m (missing y) ≡ missing (both_units y (unit_of s (term a z x) m))
      flag none (Ok e) x = refl
      flag none (Err e) x = refl
      flag (some us) (Ok e) x = refl
      flag (some us) (Err e) x = refl

      keeps : length (ps ++ (p ∷ [])) ≤ most_terms → broken u ≡ 0 → (n : ℕ) (m : Result Exponent Exponent) → broken t ≡ n → o ≡ m
          → both_units (valued_units ps) (unit_of s (term a z (kept_exponent o)) o) ≡ some (map (placed_in s) (terms u (length (ps ++ (p ∷ [])))))
      keeps l e n (Err x) y v = absurd (omega (arith, e, rw v at w.marks))
      keeps l e n (Ok x) y v =
          let few : length ps < most_terms = omega (arith, length-append ps (p ∷ [])) in
          rw (
            h.kept (omega arith) (sym (rw v at w.marks) ∙ e),
            terms_more ps h.counted l,
            map-append (placed_in s) (terms t (length ps)) (term a z (kept_exponent o) ∷ []),
            v,
          )
