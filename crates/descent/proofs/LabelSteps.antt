-- The whole label: one law for each way through the code.
use Prim.Native.Nat.{ℕ, ◌≤◌, ◌<◌, ◌+◌}
use native.Mathlib.Omega.{arith}
use mathlib.Core.Path.{◌≡◌, refl, ap, ◌∙◌}
use mathlib.Core.Bool.{Bool, true, false, ◌&&◌}
use mathlib.Core.List.{List, [], ◌∷◌}
use lib.Dec.{eqb, leb}
use native.Mathlib.Decide.{dec_le}
use Rattle.std.specs.Bool.{then_some}
use Rattle.std.proofs.lemmas.Bool.Decides.{leb_tells, eqb_tells}
use lib.ListN.{length, drop, get_or}
use borrow.Author.Tests.{le-leb, lt-leb, ne_eqb}
use Rattle.std.specs.Prelude.{Option, Some, None}
use Rattle.label.specs.declared.Rules.{Rules}
use Rattle.label.specs.declared.WrittenFactor.{WrittenFactor}
use Rattle.label.specs.declared.WrittenFactor.TheVariants.{Absent}
use Rattle.label.specs.Bytes.{slash, space, digit}
use Rattle.label.specs.Choice.{pick}
use Rattle.label.specs.Lexical.{no_factor, Part, Kind, item, quotient}
use Rattle.label.specs.Parse.{Found, factor, Parsed, refused, parsed, ended, one_space, gap, factored, label_by, fuel, read, parse_by}
use Rattle.label.specs.Ranges.{factor_in, FactorInside}
use Rattle.label.proofs.Basics.{false_true}
use Rattle.label.proofs.Complete.{rank_most}
use Rattle.label.proofs.Between.{here, beyond}
use Rattle.scan.specs.Runs.{Run, is_space}
use Rattle.tokens.specs.declared.At.{At}
use Rattle.tokens.specs.Answers.{ReadsFactor}
use Rattle.tokens.proofs.Readers.{by_byte, byte_found, byte_is}
use Rattle.descent.specs.declared.terms.Terms.{Terms}
use Rattle.descent.specs.Terms.{NoTerms}
use Rattle.descent.specs.Steps.{Ready, Stepped}
use Rattle.descent.specs.Labels.{OneSpace, Gaps, EndsLabel, Tells, ReadsFactored, ReadsLabel}
use Rattle.descent.proofs.TermSteps.{holds_none}

-- THE GAP AFTER A FACTOR

one_space_is : (s : List ℕ) (at : ℕ) → one_space (drop at s) ≡ pick (eqb (get_or s at 0) space) (drop (at + 1) s) (drop at s)
unfolding one_space
one_space_is s at = by_byte one_space (λ c w u. pick (eqb c space) u w) (λ c u. refl) refl s at

module _ {s : List ℕ} {at c : ℕ} (h : c ≡ get_or s at 0) where
  pub space_passed : c ≡ space → OneSpace s at (at + 1)
  space_passed e = record {
    rest = rw (one_space_is s at, ← h, e);
    from = omega arith;
    within = omega (arith, byte_found s at space (omega arith) (byte_is h e));
  }

  pub no_space_passed : (c ≡ space → ⊥) → at ≤ length s → OneSpace s at at
  no_space_passed n l = record { rest = rw (one_space_is s at, ← h, ne_eqb c space n); from = omega arith; within = l }

module _ {r : Rules} {s : List ℕ} {at : ℕ} where
  pub gap_of_spaces : {o : ℕ} → r.spaces ≡ true → Run is_space s at o → Gaps r s at o
  unfolding gap
  gap_of_spaces e w = record { rest = rw e w.rest; from = w.from; within = w.within }

  pub gap_of_one_space : {o : ℕ} → r.spaces ≡ false → r.space ≡ true → OneSpace s at o → Gaps r s at o
  unfolding gap
  gap_of_one_space e f w = record { rest = rw (e, f) w.rest; from = w.from; within = w.within }

  pub gap_of_nothing : r.spaces ≡ false → r.space ≡ false → at ≤ length s → Gaps r s at at
  unfolding gap
  gap_of_nothing e f h = record { rest = rw (e, f); from = omega arith; within = h }

-- THE END

module _ {s : List ℕ} {f : WrittenFactor} where
  pub nothing_ends : EndsLabel s f None None
  unfolding ended
  nothing_ends = record { is = λ ps. refl; good = λ y. absurd (false_true y); inside = λ i. tt }

  pub text_ends : (e : ℕ) → EndsLabel s f (Some e) (then_some (leb (length s) e) f)
  unfolding ended
  text_ends e = go (dec_le (length s) e)
    where
      go : Dec (length s ≤ e) → EndsLabel s f (Some e) (then_some (leb (length s) e) f)
      go (yes h) = rw (le-leb (length s) e h) (record { is = λ ps. rw (beyond s e h); good = λ _. refl; inside = λ i. i })
      go (no n) = rw (lt-leb (length s) e (omega arith)) (record { is = λ ps. rw (here s e (omega arith)); good = λ y. absurd (false_true y); inside = λ i. tt })

-- A READING THAT ENDS THE LABEL

pub ready_empty : {s : List ℕ} {at : ℕ} {t : Terms} → NoTerms t → at ≤ length s → Ready s at t
ready_empty w g = record { within = g; few = omega (arith, w.counts) }

-- from no term on, the terms read are the label's
tells_ended : (x : Kind) (r : Rules) (b : Bool) (s : List ℕ) (at : ℕ) (t u : Terms) (f : WrittenFactor) (p : Option ℕ) (o : Option WrittenFactor) (y : Parsed)
    → NoTerms t → FactorInside s f → Stepped x r b s at t u p → EndsLabel s f p o → y ≡ ended (factor_in s f) (read r (fuel s) x b (drop at s)) → Tells y s u o
tells_ended x r b s at t u f None None y w i a v e = e ∙ rw (a.reads.is (fuel s) (omega (arith, rank_most x))) (v.is [])
tells_ended x r b s at t u f None (Some g) y w i a v e = absurd (false_true (v.good refl))
tells_ended x r b s at t u f (Some p) None y w i a v e = e ∙ rw (a.reads.is.finds (fuel s) (omega (arith, rank_most x))) (v.is a.reads.is.parts)
tells_ended x r b s at t u f (Some p) (Some g) y w i a v e = record {
  parts = a.reads.is.parts;
  is = e ∙ rw (a.reads.is.finds (fuel s) (omega (arith, rank_most x))) (v.is a.reads.is.parts);
  holds = a.reads.is.keeps [] (holds_none w s);
  inside = v.inside i;
}

-- LABELS WITH A FACTOR

module _ {r : Rules} {s : List ℕ} where
  pub no_factor_read : {t : Terms} → ReadsFactor (factor r (drop 0 s)) s 0 None → ReadsFactored r s t None
  unfolding factored
  no_factor_read w = record { tells = rw w }

  pub factor_read : {f : At WrittenFactor} {n : ℕ} {p : Option ℕ} {t u : Terms} {o : Option WrittenFactor} → ReadsFactor (factor r (drop 0 s)) s 0 (Some f) → Gaps r s f.next n → NoTerms t
      → Stepped quotient r false s n t u p → EndsLabel s f.value p o → ReadsFactored r s u o
  unfolding factored
  factor_read {f} {n} {p} {t} {u} {o} w g y a v = record {
    tells = tells_ended quotient r false s n t u f.value p o _ y w.inside a v
        (ap (factored (λ u. read r (fuel s) quotient false u) r) w.is ∙ (rw g.rest));
  }

-- ALL LABELS

-- what the first byte decides; f reads an item under a slash, g a quotient
module _ (r : Rules) (f g : List ℕ → Found (List Part)) where
  by_nothing : (s : List ℕ) → length s ≡ 0 → label_by f g r s ≡ parsed no_factor []
  unfolding label_by
  by_nothing [] h = refl
  by_nothing (c ∷ u) h = absurd (omega arith)

  by_space : (s : List ℕ) → 0 < length s → get_or s 0 0 ≡ space → label_by f g r s ≡ refused
  unfolding label_by
  by_space [] h e = absurd (omega arith)
  by_space (c ∷ u) h e = rw e

  by_digit : (s : List ℕ) → 0 < length s → (get_or s 0 0 ≡ space → ⊥) → (digit (get_or s 0 0) && r.factor) ≡ true → label_by f g r s ≡ factored g r (factor r s)
  unfolding label_by
  by_digit [] h n e = absurd (omega arith)
  by_digit (c ∷ u) h n e = rw (ne_eqb c space n, e)

  by_slash : (s : List ℕ) → 0 < length s → (get_or s 0 0 ≡ space → ⊥) → (digit (get_or s 0 0) && r.factor) ≡ false → (eqb (get_or s 0 0) slash && r.lead) ≡ true → label_by f g r s ≡ ended no_factor (f (drop 1 s))
  unfolding label_by
  by_slash [] h n e q = absurd (omega arith)
  by_slash (c ∷ u) h n e q = rw (ne_eqb c space n, e, q)

  by_rest : (s : List ℕ) → 0 < length s → (get_or s 0 0 ≡ space → ⊥) → (digit (get_or s 0 0) && r.factor) ≡ false → (eqb (get_or s 0 0) slash && r.lead) ≡ false → label_by f g r s ≡ ended no_factor (g s)
  unfolding label_by
  by_rest [] h n e q = absurd (omega arith)
  by_rest (c ∷ u) h n e q = rw (ne_eqb c space n, e, q)

pub space_refused : (r : Rules) (s : List ℕ) → 0 < length s → get_or s 0 0 ≡ space → parse_by r s ≡ refused
unfolding parse_by
space_refused r s h e = by_space r _ _ s h e

module _ {r : Rules} {s : List ℕ} where
  pub label_empty : {t : Terms} → length s ≡ 0 → NoTerms t → ReadsLabel r s t (Some Absent)
  unfolding parse_by
  label_empty h w = record { tells = record { parts = []; is = by_nothing r _ _ s h; holds = holds_none w s; inside = tt } }

  module _ (h : 0 < length s) where
    module _ (n : get_or s 0 0 ≡ space → ⊥) where
      pub label_from_factor : {t : Terms} {o : Option WrittenFactor} → (digit (get_or s 0 0) && r.factor) ≡ true → ReadsFactored r s t o → ReadsLabel r s t o
      unfolding parse_by
      label_from_factor e w = record { tells = rw (by_digit r (λ u. read r (fuel s) item true u) (λ u. read r (fuel s) quotient false u) s h n e) w.tells }

      module _ (e : (digit (get_or s 0 0) && r.factor) ≡ false) where
        pub label_from_slash : {t u : Terms} {p : Option ℕ} {o : Option WrittenFactor} → (eqb (get_or s 0 0) slash && r.lead) ≡ true → NoTerms t
            → Stepped item r true s 1 t u p → EndsLabel s Absent p o → ReadsLabel r s u o
        unfolding parse_by
        label_from_slash {t} {u} {p} {o} z w a v = record { tells = tells_ended item r true s 1 t u Absent p o _ w tt a v (by_slash r _ _ s h n e z) }

        pub label_from_product : {t u : Terms} {p : Option ℕ} {o : Option WrittenFactor} → (eqb (get_or s 0 0) slash && r.lead) ≡ false → NoTerms t
            → Stepped quotient r false s 0 t u p → EndsLabel s Absent p o → ReadsLabel r s u o
        unfolding parse_by
        label_from_product {t} {u} {p} {o} z w a v = record { tells = tells_ended quotient r false s 0 t u Absent p o _ w tt a v (by_rest r _ _ s h n e z) }

-- what tells of a label that is empty or starts with a space
pub ruleset label_starts = (leb_tells, eqb_tells, label_empty, space_refused)
