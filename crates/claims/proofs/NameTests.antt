-- What the test of the spoken names says of them.
use Prim.Native.Nat.{ℕ, zero, suc, ◌≤◌, ◌<◌}
use native.Mathlib.Omega.{arith}
use mathlib.Core.Path.{◌≡◌, refl, sym, ap, ◌∙◌}
use mathlib.Core.Bool.{Bool, true, false, ◌||◌, not}
use mathlib.Core.List.{List, [], ◌∷◌, ◌++◌}
use mathlib.Core.Logic.{inl, inr}
use lib.Dec.{T, eqb}
use lib.ListN.{length, get_or}
use borrow.Author.Tests.{eqb-true}
use Rattle.label.specs.Bytes.{letter, all, same}
use Rattle.label.specs.Meaning.{◌∈◌}
use Rattle.label.specs.Prefixes.{prefixes}
use Rattle.label.specs.Units.{units}
use Rattle.label.specs.Words.{Word, spoken_prefixes, spoken_units, all_names, every_word, is_among, all_differ, is_name, names_fit}
use Rattle.label.proofs.Basics.{false_true, both, T→true, T_not}
use Rattle.label.proofs.Spelled.{same_self}
use Rattle.claims.proofs.SpokenSamples.{spoken_names_pass}

among_at : (w : Word) (vs : List Word) (j : ℕ) → j < length vs → w ≡ get_or vs j [] → is_among w vs ≡ true
unfolding is_among
among_at w [] j h e = absurd (omega arith)
among_at w (v ∷ vs) zero h e = rw (← e, same_self w) refl
among_at w (v ∷ vs) (suc j) h e = go (same w v) (among_at w vs j (omega arith) e)
  where
    go : (b : Bool) → is_among w vs ≡ true → (b || is_among w vs) ≡ true
    go true g = refl
    go false g = g

differ_at : (ws : List Word) → T (all_differ ws) → (i j : ℕ) → i < length ws → j < length ws → get_or ws i [] ≡ get_or ws j [] → i ≡ j
unfolding all_differ
differ_at [] t i j h g e = absurd (omega arith)
differ_at (w ∷ ws) t zero zero h g e = refl
differ_at (w ∷ ws) t zero (suc j) h g e =
    absurd (false_true (sym (T_not (is_among w ws) (both (not (is_among w ws)) (all_differ ws) t).0) ∙ among_at w ws j (omega arith) e))
differ_at (w ∷ ws) t (suc i) zero h g e =
    absurd (false_true (sym (T_not (is_among w ws) (both (not (is_among w ws)) (all_differ ws) t).0) ∙ among_at w ws i (omega arith) (sym e)))
differ_at (w ∷ ws) t (suc i) (suc j) h g e =
    ap suc (differ_at ws (both (not (is_among w ws)) (all_differ ws) t).1 i j (omega arith) (omega arith) e)

every_in : (p : Word → Bool) (ws : List Word) → T (every_word p ws) → (w : Word) → w ∈ ws → T (p w)
unfolding every_word
every_in p (v ∷ vs) t w (inl e) = rw e (both (p v) (every_word p vs) t).0
every_in p (v ∷ vs) t w (inr h) = every_in p vs (both (p v) (every_word p vs) t).1 w h
every_in p [] t w f = elim f [ ]

name_letters : (w : Word) → T (is_name w) → (1 ≤ length w) × T (all letter w)
unfolding is_name
name_letters (c ∷ d ∷ w) t = (omega arith, t)
name_letters [] t = elim t [ ]
name_letters (c ∷ []) t = elim t [ ]

-- the parts of the test
record TestPassed : Type 0 where
  differ : T (all_differ all_names)
  named : T (every_word is_name (spoken_prefixes ++ spoken_units))
  prefixes_named : length spoken_prefixes ≡ length prefixes
  units_named : length spoken_units ≡ length units

test_passed : TestPassed
unfolding names_fit
test_passed =
    let a = both (all_differ all_names) _ spoken_names_pass in
    let b = both (every_word is_name (spoken_prefixes ++ spoken_units)) _ a.1 in
    let c = both (eqb (length spoken_prefixes) (length prefixes)) (eqb (length spoken_units) (length units)) b.1 in
    record {
      differ = a.0;
      named = b.0;
      prefixes_named = eqb-true (length spoken_prefixes) (length prefixes) (T→true _ c.0);
      units_named = eqb-true (length spoken_units) (length units) (T→true _ c.1);
    }

pub names_differ : (i j : ℕ) → i < length all_names → j < length all_names → get_or all_names i [] ≡ get_or all_names j [] → i ≡ j
names_differ i j h g e = differ_at all_names test_passed.differ i j h g e

pub names_are_letters : (w : Word) → w ∈ (spoken_prefixes ++ spoken_units) → (1 ≤ length w) × T (all letter w)
names_are_letters w h = name_letters w (every_in is_name (spoken_prefixes ++ spoken_units) test_passed.named w h)

pub names_for_all : (length spoken_prefixes ≡ length prefixes) × (length spoken_units ≡ length units)
names_for_all = (test_passed.prefixes_named, test_passed.units_named)
