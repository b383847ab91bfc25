-- The cuts of a spelling: one by two letters and one by one letter at most, since one prefix is da and each other is one letter.
use Prim.Native.Nat.{ℕ, suc}
use mathlib.Core.Path.{◌≡◌, refl, sym, ◌∙◌}
use mathlib.Core.Bool.{Bool, true, false, ◌&&◌, ◌||◌, not}
use mathlib.Core.List.{List, [], ◌∷◌, ◌++◌, append-nil}
use mathlib.Core.Option.{Option, none, some}
use lib.Dec.{T, eqb}
use lib.ListN.{drop}
use borrow.Author.Tests.{eqb-true, eq-eqb, ne_eqb, eqb-false}
use Rattle.label.proofs.Basics.{both, same_is, false_true}
use Rattle.label.specs.Bytes.{same}
use Rattle.label.specs.Choice.{pick}
use Rattle.label.specs.Prefixes.{Prefix, prefixes, placed, prefix_named}
use Rattle.label.specs.Symbols.{Cut, follows, cut_by, cuts_from, cuts}
use Rattle.symbols.specs.Views.{with_rest, prefix_cut}
use Rattle.symbols.proofs.Computing.{columns_compute}

-- THE TEST OF THE PREFIXES: one has two letters, and each other has one letter, which is no other's

named : List ℕ → List Prefix → Bool
named l [] = false
named l (p ∷ ps) = same l p.name || named l ps

is_letter : List ℕ → Bool
is_letter [] = false
is_letter (c ∷ []) = true
is_letter (c ∷ d ∷ l) = false

single_letters : List Prefix → Bool
single_letters [] = true
single_letters (p ∷ ps) = is_letter p.name && (not (named p.name ps) && single_letters ps)

singles : List Prefix
singles = drop 1 prefixes

singles_pass : T (single_letters singles)
unfolding single_letters is_letter named singles columns_compute
singles_pass = tt

-- da
deca : List ℕ
deca = 100 ∷ 97 ∷ []

cuts_are : (l : List ℕ) → cuts l ≡ cut_by 0 (follows deca l) ++ cuts_from 1 singles l
unfolding cuts cuts_from singles deca columns_compute
cuts_are l = refl

named_are : (l : List ℕ) → prefix_named l ≡ pick (same l deca) (some 0) (placed 1 l singles)
unfolding prefix_named placed singles deca columns_compute
named_are l = refl

-- THE LAW: a spelling has a cut after two letters, where they are a prefix, and one after one letter

-- the cut after a prefix, where letters are left
unfoldable pub cut_list : Option ℕ → List ℕ → List Cut
cut_list none r = []
cut_list (some i) r = record { prefix = i; rest = r } ∷ []

eqb_swap : (a b : ℕ) → eqb a b ≡ eqb b a
eqb_swap a b = go (eqb a b) refl
  where
    go : (x : Bool) → eqb a b ≡ x → x ≡ eqb b a
    go true e = sym (eq-eqb b a (sym (eqb-true a b e)))
    go false e = sym (ne_eqb b a (λ f. eqb-false a b e (sym f)))

unnamed : (i : ℕ) (l : List ℕ) (ps : List Prefix) → named l ps ≡ false → placed i l ps ≡ none
unfolding named placed
unnamed i l [] e = refl
unnamed i l (p ∷ ps) e = go (same l p.name) e (λ f. unnamed (suc i) l ps f)
  where
    go : (b : Bool) → (b || named l ps) ≡ false → (named l ps ≡ false → placed (suc i) l ps ≡ none)
        → pick b (some i) (placed (suc i) l ps) ≡ none
    go true e ih = absurd (false_true (sym e))
    go false e ih = ih e

-- a cut, if letters are left
cut_with : Option ℕ → List ℕ → List Cut
cut_with none r = []
cut_with (some i) r = cut_by i (some r)

cut_left : (o : Option ℕ) (r : List ℕ) → cut_with o r ≡ cut_list (with_rest o r) r
unfolding cut_with cut_list cut_by
cut_left none [] = refl
cut_left none (c ∷ r) = refl
cut_left (some i) [] = refl
cut_left (some i) (c ∷ r) = refl

and_false : (x : Bool) → (x && false) ≡ false
and_false true = refl
and_false false = refl

-- one prefix of one letter before others
one : (i c : ℕ) (r t : List ℕ) (cs : List Cut) (o : Option ℕ) → T (is_letter t) → cs ≡ cut_with o r → (same (c ∷ []) t ≡ true → o ≡ none)
    → cut_by i (follows t (c ∷ r)) ++ cs ≡ cut_with (pick (same (c ∷ []) t) (some i) o) r
unfolding is_letter follows same cut_with cut_by
one i c r (b ∷ []) cs o t e f = rw (eqb_swap b c) (go (eqb c b) f)
  where
    go : (x : Bool) → ((x && true) ≡ true → o ≡ none)
        → cut_by i (pick x (some r) none) ++ cs ≡ cut_with (pick (x && true) (some i) o) r
    go true f = rw (e, f refl) (append-nil (cut_by i (some r)))
    go false f = e
one i c r [] cs o t e f = elim t [ ]
one i c r (b ∷ (_ ∷ _)) cs o t e f = elim t [ ]

-- the cuts by prefixes of one letter
single_cuts : (i c : ℕ) (r : List ℕ) (ps : List Prefix) → T (single_letters ps)
    → cuts_from i ps (c ∷ r) ≡ cut_with (placed i (c ∷ []) ps) r
unfolding single_letters cuts_from placed cut_with
single_cuts i c r [] t = refl
single_cuts i c r (p ∷ ps) t =
    let w = both (is_letter p.name) _ t in
    let v = both (not (named p.name ps)) (single_letters ps) w.1 in
    one i c r p.name (cuts_from (suc i) ps (c ∷ r)) (placed (suc i) (c ∷ []) ps) w.0 (single_cuts (suc i) c r ps v.1)
    (λ e. unnamed (suc i) (c ∷ []) ps (rw (same_is (c ∷ []) p.name e) (untrue (named p.name ps) v.0)))
  where
    untrue : (b : Bool) → T (not b) → b ≡ false
    untrue false t = refl
    untrue true t = elim t [ ]

-- two letters are no prefix of one
no_single : (i c d : ℕ) (r : List ℕ) (ps : List Prefix) → T (single_letters ps) → placed i (c ∷ d ∷ r) ps ≡ none
unfolding single_letters is_letter placed same
no_single i c d r [] t = refl
no_single i c d r (p ∷ ps) t =
    let w = both (is_letter p.name) _ t in
    rw (differs p.name w.0) (no_single (suc i) c d r ps (both (not (named p.name ps)) (single_letters ps) w.1).1)
  where
    differs : (t : List ℕ) → T (is_letter t) → same (c ∷ d ∷ r) t ≡ false
    differs (b ∷ []) u = and_false (eqb c b)
    differs [] u = elim u [ ]
    differs (b ∷ (_ ∷ _)) u = elim u [ ]

-- the cut by two letters
two_cuts : (c d : ℕ) (r : List ℕ) → cut_by 0 (follows deca (c ∷ d ∷ r)) ≡ cut_list (prefix_cut 2 (c ∷ d ∷ r)) r
unfolding prefix_cut deca follows same cut_by cut_with
two_cuts c d r =
    rw (named_are (c ∷ d ∷ []), no_single 1 c d [] singles singles_pass, eqb_swap 100 c, eqb_swap 97 d) (go (eqb c 100) (eqb d 97))
  where
    go : (x y : Bool) → cut_by 0 (pick x (pick y (some r) none) none) ≡ cut_list (with_rest (pick (x && (y && true)) (some 0) none) r) r
    go true true = cut_left (some 0) r
    go true false = cut_left none r
    go false y = cut_left none r

-- the cut by one letter
one_cuts : (c d : ℕ) (r : List ℕ) → cuts_from 1 singles (c ∷ d ∷ r) ≡ cut_list (prefix_cut 1 (c ∷ d ∷ r)) (d ∷ r)
unfolding prefix_cut deca same
one_cuts c d r =
    single_cuts 1 c (d ∷ r) singles singles_pass ∙ rw (named_are (c ∷ []), and_false (eqb c 100)) (cut_left (placed 1 (c ∷ []) singles) (d ∷ r))

-- Every cut of a spelling is one after two letters or one after one letter, in this order.
pub two_then_one : (l : List ℕ) → cuts l ≡ cut_list (prefix_cut 2 l) (drop 2 l) ++ cut_list (prefix_cut 1 l) (drop 1 l)
unfolding prefix_cut cut_list cut_with singles deca columns_compute
two_then_one [] = refl
two_then_one (c ∷ []) = cuts_are (c ∷ []) ∙ go (eqb 100 c) (single_cuts 1 c [] singles singles_pass ∙ cut_left (placed 1 (c ∷ []) singles) [])
  where
    go : (x : Bool) → cuts_from 1 singles (c ∷ []) ≡ [] → cut_by 0 (pick x none none) ++ cuts_from 1 singles (c ∷ []) ≡ []
    go true e = e
    go false e = e
two_then_one (c ∷ d ∷ r) = rw (cuts_are (c ∷ d ∷ r), two_cuts c d r, one_cuts c d r)
