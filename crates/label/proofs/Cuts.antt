-- "At most one split has a known rest": one computed test over the whole tables, and the law that turns it into the rule.
use Prim.Native.Nat.{ℕ, suc, ◌≤◌}
use native.Mathlib.Omega.{arith}
use mathlib.Core.Path.{◌≡◌, refl}
use mathlib.Core.Bool.{Bool, true, false, ◌&&◌, ◌||◌, not}
use mathlib.Core.List.{List, [], ◌∷◌, ◌++◌}
use mathlib.Core.Option.{Option, none, some}
use mathlib.Core.Logic.{◌⊎◌, inl, inr}
use lib.Dec.{T, leb, eqb, leb→le}
use lib.ListN.{length}
use borrow.Author.Tests.{eqb-true}
use Rattle.label.proofs.Basics.{false_true, none_some, both, same_is}
use Rattle.label.proofs.Computing.{symbols_compute}
use Rattle.label.specs.Bytes.{same, all}
use Rattle.label.specs.Choice.{pick}
use Rattle.label.specs.Notations.{Notations, everywhere, member, notation}
use Rattle.label.specs.Prefixes.{Prefix, prefixes}
use Rattle.label.specs.Units.{Name, KnownUnit, units}
use Rattle.label.specs.Symbols.{has_name, row_named, unit_named, follows, cut_by, cuts_from, cuts, known_by, known_among, known_cuts}

-- THE TEST: a prefix before any known name has one known cut

names_pass : ℕ → (List ℕ → Bool) → List Name → Bool
names_pass n h [] = true
names_pass n h (x ∷ xs) = (not (member n x.known_in) || h x.letters) && names_pass n h xs

rows_pass : ℕ → (List ℕ → Bool) → List KnownUnit → Bool
rows_pass n h [] = true
rows_pass n h (u ∷ us) = names_pass n h u.names && rows_pass n h us

single : ℕ → List ℕ → Bool
single n l = leb (length (known_cuts n l)) 1

prefixes_pass : ℕ → List Prefix → Bool
prefixes_pass n [] = true
prefixes_pass n (p ∷ ps) = rows_pass n (λ r. single n (p.name ++ r)) units && prefixes_pass n ps

cuts_pass : ℕ → Bool
cuts_pass n = prefixes_pass n prefixes

all_pass : T (all cuts_pass everywhere)
unfolding cuts_pass prefixes_pass rows_pass names_pass single symbols_compute
all_pass = tt

-- THE LAW

-- what follows a beginning makes the whole with it
pub follows_is : (p l r : List ℕ) → follows p l ≡ some r → l ≡ p ++ r
unfolding follows
follows_is [] l r e = cc
follows_is (c ∷ p) [] r e = absurd (none_some e)
follows_is (c ∷ p) (d ∷ l) r e = go (eqb c d) refl (λ e. follows_is p l r e) e
  where
    go : (x : Bool) → eqb c d ≡ x → (follows p l ≡ some r → l ≡ p ++ r) → pick x (follows p l) none ≡ some r → d ∷ l ≡ c ∷ p ++ r
    go true q ih e = cc (eqb-true c d q, ih e)
    go false q ih e = absurd (none_some e)

-- a name that notation n knows passes what all such names pass
name_passes : (n : ℕ) (h : List ℕ → Bool) (l : List ℕ) (xs : List Name) → T (names_pass n h xs) → has_name n l xs ≡ true → T (h l)
unfolding names_pass has_name
name_passes n h l [] t e = absurd (false_true e)
name_passes n h l (x ∷ xs) t e = go (same l x.letters) (member n x.known_in) refl (λ t e. name_passes n h l xs t e) t e
  where
    go : (a b : Bool) → same l x.letters ≡ a → (T (names_pass n h xs) → has_name n l xs ≡ true → T (h l))
        → T ((not b || h x.letters) && names_pass n h xs) → ((a && b) || has_name n l xs) ≡ true → T (h l)
    go true true p ih t e = rw (same_is l x.letters p) (both (h x.letters) _ t).0
    go true false p ih t e = ih t e
    go false b p ih t e = ih (both (not b || h x.letters) _ t).1 e

row_passes : (n : ℕ) (h : List ℕ → Bool) (l : List ℕ) (i u : ℕ) (us : List KnownUnit) → T (rows_pass n h us) → row_named n l i us ≡ some u → T (h l)
unfolding rows_pass row_named
row_passes n h l i u [] t e = absurd (none_some e)
row_passes n h l i u (x ∷ xs) t e =
    let w = both (names_pass n h x.names) (rows_pass n h xs) t in
    go (has_name n l x.names) refl (λ e. row_passes n h l (suc i) u xs w.1 e) e
  where
    go : (b : Bool) → has_name n l x.names ≡ b → (row_named n l (suc i) xs ≡ some u → T (h l))
        → elim b as (λ (z : Bool). Option ℕ) [ true ↦ some i | false ↦ row_named n l (suc i) xs ] ≡ some u → T (h l)
    go true p ih e = name_passes n h l x.names (both (names_pass n h x.names) (rows_pass n h xs) t).0 p
    go false p ih e = ih e

known_passes : (n : ℕ) (h : List ℕ → Bool) (l : List ℕ) (u : ℕ) → T (rows_pass n h units) → unit_named n l ≡ some u → T (h l)
unfolding unit_named
known_passes n h l u t e = row_passes n h l 0 u units t e

-- a cut with a known rest is that of a prefix before a known name
cut_passes : (n : ℕ) (l : List ℕ) (i : ℕ) (ps : List Prefix) → T (prefixes_pass n ps)
    → (known_among n (cuts_from i ps l) ≡ []) ⊎ T (single n l)
unfolding prefixes_pass cuts_from known_among cut_by known_by
cut_passes n l i [] t = inl refl
cut_passes n l i (p ∷ ps) t =
    let w = both (rows_pass n (λ r. single n (p.name ++ r)) units) (prefixes_pass n ps) t in
    go (follows p.name l) refl w.0 (cut_passes n l (suc i) ps w.1)
  where
    rest : (c : ℕ) (r : List ℕ) (o : Option ℕ) → unit_named n (c ∷ r) ≡ o → l ≡ p.name ++ c ∷ r
        → T (rows_pass n (λ r. single n (p.name ++ r)) units) → (known_among n (cuts_from (suc i) ps l) ≡ []) ⊎ T (single n l)
        → (known_by (record { prefix = i; rest = c ∷ r }) o ++ known_among n (cuts_from (suc i) ps l) ≡ []) ⊎ T (single n l)
    rest c r none q e w ih = ih
    rest c r (some u) q e w ih = inr (rw e (known_passes n (λ r. single n (p.name ++ r)) (c ∷ r) u w q))

    go : (o : Option (List ℕ)) → follows p.name l ≡ o → T (rows_pass n (λ r. single n (p.name ++ r)) units)
        → (known_among n (cuts_from (suc i) ps l) ≡ []) ⊎ T (single n l)
        → (known_among n (cut_by i o ++ cuts_from (suc i) ps l) ≡ []) ⊎ T (single n l)
    go none e w ih = ih
    go (some []) e w ih = ih
    go (some (c ∷ r)) e w ih = rest c r (unit_named n (c ∷ r)) refl (follows_is p.name l (c ∷ r) e) w ih

pub all_members : (f : ℕ → Bool) (n : ℕ) (ms : Notations) → T (all f ms) → member n ms ≡ true → T (f n)
unfolding all member
all_members f n [] t e = absurd (false_true e)
all_members f n (m ∷ ms) t e = go (eqb n m) refl (λ e. all_members f n ms (both (f m) (all f ms) t).1 e) e
  where
    go : (b : Bool) → eqb n m ≡ b → (member n ms ≡ true → T (f n)) → (b || member n ms) ≡ true → T (f n)
    go true p ih e = rw (eqb-true n m p) (both (f m) (all f ms) t).0
    go false p ih e = ih e

-- In every notation, at most one cut of a spelling into a prefix and a rest has a known rest.
pub at_most_one : (n : ℕ) → notation n ≡ true → (l : List ℕ) → length (known_cuts n l) ≤ 1
unfolding notation cuts_pass single known_cuts cuts
at_most_one n e l = go (cut_passes n l 0 prefixes (all_members cuts_pass n everywhere all_pass e))
  where
    go : (known_among n (cuts_from 0 prefixes l) ≡ []) ⊎ T (single n l) → length (known_among n (cuts l)) ≤ 1
    go (inl p) = rw p (omega arith)
    go (inr t) = leb→le _ 1 t
