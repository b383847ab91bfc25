-- The first name of a group: no name before it is in the group, so a search of a spelling can start there.
use Prim.Native.Nat.{ℕ, zero, suc, ◌+◌, ◌%◌, ◌≤◌, ◌<◌}
use native.Mathlib.Omega.{arith}
use mathlib.Core.Path.{◌≡◌, refl, sym, ap, ◌∙◌}
use mathlib.Core.Bool.{Bool, true, false, ◌||◌}
use mathlib.Core.List.{List, [], ◌∷◌}
use types.Run.{OneOf}
use lib.Dec.{T, ltb, eqb}
use lib.ListN.{length, get_or}
use borrow.Author.Tests.{eqb-true, eqb-false, ne_eqb}
use Rattle.label.proofs.Basics.{both}
use Rattle.label.specs.Choice.{pick}
use Rattle.symbols.specs.Columns.{name_count, name_keys}
use Rattle.symbols.specs.Groups.{groups, first_in_group}
use Rattle.symbols.proofs.Computing.{columns_compute}
use Rattle.symbols.proofs.RowLaws.{every}

-- where the search in a group starts
abbrev pub start : ℕ → ℕ
start g = first_in_group g 0 name_keys

-- GROUPS WITHOUT A NAME

-- a number put into a rising list, once
unfoldable pub put_in : ℕ → List ℕ → List ℕ
put_in g [] = g ∷ []
put_in g (x ∷ xs) = elim (ltb g x) [ true ↦ g ∷ x ∷ xs | false ↦ elim (eqb g x) [ true ↦ x ∷ xs | false ↦ x ∷ put_in g xs ] ]

unfoldable pub groups_of : List ℕ → List ℕ
groups_of [] = []
groups_of (k ∷ ks) = put_in (k % groups) (groups_of ks)

-- the groups that have a name, rising: the arms of `first_in_group`
abbrev with_names : List ℕ
with_names = groups_of name_keys

unfoldable pub start_computes : Unit {0}
unfolding first_in_group put_in groups_of columns_compute
start_computes = tt

-- none of the numbers, the last one outermost: what a match tells in `_`
abbrev NoneOf : Type 0 → List ℕ → ℕ → Type 0
NoneOf w [] g = w
NoneOf w (x ∷ xs) g = NoneOf (w × (OneOf (x ∷ []) g → ⊥)) xs g

unfoldable one_of : ℕ → List ℕ → Bool
one_of g [] = false
one_of g (x ∷ xs) = eqb g x || one_of g xs

earlier : (w : Type 0) (xs : List ℕ) (g : ℕ) → NoneOf w xs g → w
earlier w [] g h = h
earlier w (x ∷ xs) g h = (earlier (w × (OneOf (x ∷ []) g → ⊥)) xs g h).0

not_one_of : (w : Type 0) (xs : List ℕ) (g : ℕ) → NoneOf w xs g → T (one_of g xs) → ⊥
unfolding one_of
not_one_of w [] g h t = t
not_one_of w (x ∷ xs) g h t = go (eqb g x) refl t (not_one_of (w × (OneOf (x ∷ []) g → ⊥)) xs g h)
  where
    go : (b : Bool) → eqb g x ≡ b → T (b || one_of g xs) → (T (one_of g xs) → ⊥) → ⊥
    go true e u d = (earlier (w × (OneOf (x ∷ []) g → ⊥)) xs g h).1 (eqb-true g x e)
    go false e u d = d u

named : ℕ → Bool
named k = one_of (k % groups) with_names

keys_named : T (every named name_keys)
unfolding every named one_of start_computes
keys_named = tt

none_in_group : (g i : ℕ) (ks : List ℕ) → T (every named ks) → (T (one_of g with_names) → ⊥) → first_in_group g i ks ≡ i + length ks
unfolding first_in_group every named
none_in_group g i [] t d = omega arith
none_in_group g i (k ∷ ks) t d =
    go (eqb (k % groups) g) refl (none_in_group g (suc i) ks (both (named k) (every named ks) t).1 d)
  where
    go : (b : Bool) → eqb (k % groups) g ≡ b → first_in_group g (suc i) ks ≡ suc i + length ks
        → pick b i (first_in_group g (suc i) ks) ≡ i + suc (length ks)
    go true e ih = absurd (d (rw (sym (eqb-true (k % groups) g e)) (both (named k) (every named ks) t).0))
    go false e ih = omega (arith, ih)

keys_count : 0 + length name_keys ≡ name_count
unfolding columns_compute
keys_count = refl

pub no_start : (g : ℕ) → NoneOf Unit with_names g → start g ≡ name_count
no_start g h = none_in_group g 0 name_keys keys_named (not_one_of Unit with_names g h) ∙ keys_count

-- NAMES BEFORE THE FIRST OF THE GROUP

first_in_group_upto : (g i : ℕ) (ks : List ℕ) → first_in_group g i ks ≤ i + length ks
unfolding first_in_group
first_in_group_upto g i [] = omega arith
first_in_group_upto g i (k ∷ ks) = go (eqb (k % groups) g) (first_in_group_upto g (suc i) ks)
  where
    go : (b : Bool) → first_in_group g (suc i) ks ≤ suc i + length ks → pick b i (first_in_group g (suc i) ks) ≤ i + suc (length ks)
    go true ih = omega arith
    go false ih = omega (arith, ih)

other_group : (g i : ℕ) (ks : List ℕ) (j : ℕ) → i + j < first_in_group g i ks → eqb (get_or ks j 0 % groups) g ≡ false
unfolding first_in_group
other_group g i [] j h = absurd (omega (arith, h))
other_group g i (k ∷ ks) zero h = go (eqb (k % groups) g) h
  where
    go : (b : Bool) → i + 0 < pick b i (first_in_group g (suc i) ks) → b ≡ false
    go true u = absurd (omega (arith, u))
    go false u = refl
other_group g i (k ∷ ks) (suc j) h = go (eqb (k % groups) g) h (other_group g (suc i) ks j)
  where
    go : (b : Bool) → i + suc j < pick b i (first_in_group g (suc i) ks)
        → (suc i + j < first_in_group g (suc i) ks → eqb (get_or ks j 0 % groups) g ≡ false) → eqb (get_or ks j 0 % groups) g ≡ false
    go true u ih = absurd (omega (arith, u))
    go false u ih = ih (omega (arith, u))

pub start_upto : (g : ℕ) → start g ≤ name_count
start_upto g = omega (arith, first_in_group_upto g 0 name_keys, keys_count)

-- a name before the first one of a key's group has another key
pub before_start : (number j : ℕ) → j < start (number % groups) → eqb number (get_or name_keys j 0) ≡ false
before_start number j h =
    ne_eqb number (get_or name_keys j 0) (λ e. eqb-false _ _ (other_group (number % groups) 0 name_keys j (omega (arith, h))) (ap (λ (k : ℕ). k % groups) (sym e)))
