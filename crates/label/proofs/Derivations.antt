-- Derivations of labels: the function finds exactly these, a text has one, and notations agree on it.
use Prim.Native.Nat.{ℕ}
use native.Mathlib.Omega.{arith}
use mathlib.Core.Path.{◌≡◌, refl, sym, ◌∙◌}
use mathlib.Core.List.{List}
use mathlib.Core.Option.{Option, none as nothing, some}
use Rattle.label.specs.declared.Rules.{Rules}
use Rattle.label.specs.Rows.{rules_of}
use Rattle.label.specs.Lexical.{Factor, Part}
use Rattle.label.specs.Grammar.{Derives}
use Rattle.label.specs.Parse.{Parsed, refused, parsed, parse_by, parse_with, parse}
use Rattle.label.proofs.Labels.{label_complete, label_sound}
use Rattle.label.proofs.Ruled.{derives_by, rules_ruled}
use Rattle.label.proofs.Widest.{all_rules, label_wider}

-- COMPLETE AND SOUND

pub derived_parsed : {n : ℕ} {s : List ℕ} {f : Factor} {ps : List Part} → Derives n s f ps → parse n s ≡ parsed f ps
unfolding parse parse_with
derived_parsed d =
    let w = derives_by d in
    rw w.1.listed.rules (label_complete w.1.listed.coherent w.2)

refused_parsed : {f : Factor} {ps : List Part} → refused ≡ parsed f ps → ⊥
refused_parsed e = let z : ◌≡◌ {A = ℕ} 0 1 = cc in omega arith

pub parsed_derived : (n : ℕ) (s : List ℕ) (f : Factor) (ps : List Part) → parse n s ≡ parsed f ps → Derives n s f ps
unfolding parse parse_with
parsed_derived n s f ps h = go (rules_of n) refl h
  where
    go : (o : Option Rules) → rules_of n ≡ o → parse_with o s ≡ parsed f ps → Derives n s f ps
    go nothing e h = absurd (refused_parsed h)
    go (some r) e h = (rules_ruled n r e).derives (label_sound r s f ps h)

pub refused_underived : (n : ℕ) (s : List ℕ) → parse n s ≡ refused → (f : Factor) (ps : List Part) → Derives n s f ps → ⊥
refused_underived n s h f ps d = refused_parsed (sym h ∙ derived_parsed d)

pub underived_refused : (n : ℕ) (s : List ℕ) → ((f : Factor) (ps : List Part) → Derives n s f ps → ⊥) → parse n s ≡ refused
underived_refused n s h = go (parse n s) refl
  where
    go : (o : Parsed) → parse n s ≡ o → parse n s ≡ refused
    go refused e = e
    go (parsed f ps) e = absurd (h f ps (parsed_derived n s f ps e))

-- ONE DERIVATION

-- every derivation is one by all rules, whose reading is one function of the text
derived_widest : {n : ℕ} {s : List ℕ} {f : Factor} {ps : List Part} → Derives n s f ps → parse_by all_rules s ≡ parsed f ps
derived_widest d = label_complete (λ e. refl) (label_wider (derives_by d).2)

pub same_derivation : {n m : ℕ} {s : List ℕ} {f g : Factor} {ps qs : List Part} → Derives n s f ps → Derives m s g qs → (f ≡ g) × (ps ≡ qs)
same_derivation {s = s} d e =
    let h = derived_widest d in
    let k = derived_widest e in
    ((cc), (cc))
