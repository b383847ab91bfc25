-- The names of units are spellings of the notations that know them.
use Prim.Native.Nat.{ℕ, zero, suc}
use mathlib.Core.Path.{◌≡◌, refl, ◌∙◌}
use mathlib.Core.Bool.{Bool, true, false, ◌&&◌, ◌||◌}
use mathlib.Core.List.{List, [], ◌∷◌, ◌++◌}
use mathlib.Core.Option.{Option}
use lib.Dec.{T, eqb, leb, leb→le}
use lib.ListN.{length, get_or}
use borrow.Author.Tests.{eqb-true, eq-eqb}
use Rattle.label.specs.declared.Rules.{Rules}
use Rattle.label.specs.Notations.{cds, member}
use Rattle.label.specs.Bytes.{same, letter, all, percent}
use Rattle.label.specs.Units.{Name, KnownUnit, units, unit_at}
use Rattle.label.specs.Symbols.{known, has_name}
use Rattle.label.specs.Lexical.{Letters}
use Rattle.label.specs.Letters.{prefix_letters}
use Rattle.label.proofs.Basics.{false_true, both, T→true, true→T, same_is}
use Rattle.label.proofs.Computing.{symbols_compute}
use Rattle.label.proofs.General.{SpellingBy}
use Rattle.label.proofs.Ruled.{RuledBy}
use Rattle.label.proofs.Owned.{letters_all, all_letters, letters_prefixed, Sourced}

-- every name is letters, or the row has only the percent sign of CDS
all_lettered : List Name → Bool
all_lettered [] = true
all_lettered (x ∷ xs) = (leb 1 (length x.letters) && all letter x.letters) && all_lettered xs

only_cds : List ℕ → Bool
only_cds [] = false
only_cds (n ∷ []) = eqb n cds
only_cds (n ∷ k ∷ ns) = false

percent_row : List Name → Bool
percent_row [] = false
percent_row (x ∷ []) = same x.letters (percent ∷ []) && only_cds x.known_in
percent_row (x ∷ y ∷ xs) = false

rows_spelled : List KnownUnit → Bool
rows_spelled [] = true
rows_spelled (u ∷ us) = (all_lettered u.names || percent_row u.names) && rows_spelled us

units_spelled : T (rows_spelled units)
unfolding rows_spelled all_lettered percent_row only_cds symbols_compute
units_spelled = tt

row_spelled : (us : List KnownUnit) (i : ℕ) (d : KnownUnit) → T (rows_spelled us) → T (all_lettered d.names) → T (all_lettered (get_or us i d).names || percent_row (get_or us i d).names)
unfolding rows_spelled
row_spelled [] i d t h = rw (T→true (all_lettered d.names) h) tt
row_spelled (u ∷ us) zero d t h = (both (all_lettered u.names || percent_row u.names) (rows_spelled us) t).0
row_spelled (u ∷ us) (suc i) d t h = row_spelled us i d (both (all_lettered u.names || percent_row u.names) (rows_spelled us) t).1 h

-- a name of a row
pub data NameSpelled (m : ℕ) (xs : List Name) (l : List ℕ) : Type 0 where
  in_letters : Letters l → NameSpelled m xs l
  in_percent : m ≡ cds → l ≡ percent ∷ [] → ((n : ℕ) (k : List ℕ) → has_name n k xs ≡ true → k ≡ percent ∷ []) → NameSpelled m xs l

lettered_name : (m : ℕ) (l : List ℕ) (xs : List Name) → T (all_lettered xs) → has_name m l xs ≡ true → Letters l
unfolding all_lettered has_name
lettered_name m l [] t h = absurd (false_true h)
lettered_name m l (x ∷ xs) t h =
    let w = both (leb 1 (length x.letters) && all letter x.letters) (all_lettered xs) t in
    go (same l x.letters) (member m x.known_in) refl (λ h. lettered_name m l xs w.1 h) (both (leb 1 (length x.letters)) (all letter x.letters) w.0) h
  where
    go : (a b : Bool) → same l x.letters ≡ a → (has_name m l xs ≡ true → Letters l) → T (leb 1 (length x.letters)) × T (all letter x.letters)
        → ((a && b) || has_name m l xs) ≡ true → Letters l
    go true true e ih w h = rw (same_is l x.letters e) (all_letters x.letters w.1 (leb→le 1 (length x.letters) w.0))
    go true false e ih w h = ih h
    go false b e ih w h = ih h

single_name : (m : ℕ) (l : List ℕ) (x : Name) → has_name m l (x ∷ []) ≡ true → (l ≡ x.letters) × (member m x.known_in ≡ true)
unfolding has_name
single_name m l x h = go (same l x.letters) (member m x.known_in) refl refl h
  where
    go : (a b : Bool) → same l x.letters ≡ a → member m x.known_in ≡ b → ((a && b) || false) ≡ true → (l ≡ x.letters) × (member m x.known_in ≡ true)
    go true true e f h = (same_is l x.letters e, f)
    go true false e f h = absurd (false_true h)
    go false b e f h = absurd (false_true h)

three_member : (m : ℕ) (ns : List ℕ) → T (only_cds ns) → member m ns ≡ true → m ≡ 3
unfolding only_cds member
three_member m [] t h = absurd t
three_member m (n ∷ []) t h = go (eqb m n) refl h
  where
    go : (b : Bool) → eqb m n ≡ b → (b || false) ≡ true → m ≡ 3
    go true e h = eqb-true m n e ∙ eqb-true n 3 (T→true (eqb n 3) t)
    go false e h = absurd (false_true h)
three_member m (n ∷ k ∷ ns) t h = absurd t

percent_name : (m : ℕ) (l : List ℕ) (xs : List Name) → T (percent_row xs) → has_name m l xs ≡ true → NameSpelled m xs l
unfolding percent_row
percent_name m l [] t h = absurd t
percent_name m l (x ∷ []) t h =
    let w = both (same x.letters (percent ∷ [])) (only_cds x.known_in) t in
    let q = same_is x.letters (percent ∷ []) (T→true (same x.letters (percent ∷ [])) w.0) in
    let n = single_name m l x h in
    NameSpelled.in_percent (three_member m x.known_in w.1 n.1) (n.0 ∙ q) (λ i k g. (single_name i k x g).0 ∙ q)
percent_name m l (x ∷ y ∷ xs) t h = absurd t

pub name_spelt : (m u : ℕ) (l : List ℕ) → has_name m l (unit_at u).names ≡ true → NameSpelled m (unit_at u).names l
unfolding all_lettered
name_spelt m u l h = go (all_lettered (unit_at u).names) (percent_row (unit_at u).names) refl refl (row_spelled units u _ units_spelled tt)
  where
    go : (a b : Bool) → all_lettered (unit_at u).names ≡ a → percent_row (unit_at u).names ≡ b → T (a || b) → NameSpelled m (unit_at u).names l
    go true b e f t = NameSpelled.in_letters (lettered_name m l (unit_at u).names (true→T e) h)
    go false true e f t = percent_name m l (unit_at u).names (true→T f) h
    go false false e f t = absurd t

percent_no_letter : Letters (percent ∷ []) → ⊥
unfolding all letter
percent_no_letter d = letters_all d

percent_flag : {m : ℕ} {r : Rules} → RuledBy m r → m ≡ cds → r.percent ≡ true
percent_flag {m} o e = o.listed.percent ∙ eq-eqb m 3 e

-- a prefix and a name that notation m knows are a spelling there
pub name_derived : {m : ℕ} {r : Rules} {own : List ℕ} (p : Option ℕ) (u : ℕ) (l : List ℕ) → RuledBy m r → Sourced own (known p u) → has_name m l (unit_at u).names ≡ true → SpellingBy r (prefix_letters p ++ l)
name_derived {m} {r} {own} p u l o s h = go (name_spelt m u l h) s
  where
    go : {q : Option ℕ} → NameSpelled m (unit_at u).names l → Sourced own (known q u) → SpellingBy r (prefix_letters q ++ l)
    go {q} (NameSpelled.in_letters d) s = SpellingBy.letters (letters_prefixed q d)
    go (NameSpelled.in_percent e f g) (Sourced.bare_name n k) = rw f (SpellingBy.percent (true→T (percent_flag o e)))
    go (NameSpelled.in_percent e f g) (Sourced.letter_name n k d) = absurd (percent_no_letter (rw (g n own k) at d))
