-- Texts that keep the limits on bytes and brackets, piece by piece.
use Prim.Native.Nat.{ℕ, ◌≤◌, max}
use native.Mathlib.Omega.{arith}
use mathlib.Core.Path.{◌≡◌, refl}
use mathlib.Core.Bool.{Bool, true, false, ◌&&◌, ◌||◌, not}
use mathlib.Core.List.{List, [], ◌∷◌, ◌++◌, append_assoc, append-nil}
use lib.Dec.{T, eqb, leb}
use borrow.Author.Tests.{le-leb, leb-true}
use Rattle.label.specs.declared.Rules.{Rules}
use Rattle.label.specs.Bytes.{letter, digit, admitted, all, close_bracket, open_bracket, quote}
use Rattle.label.specs.Lexical.{Letters, Quoted, Unsigned, quoted, prefixed}
use Rattle.label.specs.Limits.{deepest_from, deepest}
use Rattle.label.proofs.Basics.{both, T_and, differs, digit_bounds, nonzero_digit, true→T}
use Rattle.label.proofs.General.{SpellingBy}
use Rattle.label.proofs.LexComplete.{prefix_lettered}

-- BYTES

-- admitted, and no bracket
unfoldable pub quiet : ℕ → Bool
quiet c = admitted c && (not (eqb c open_bracket) && not (eqb c close_bracket))

pub all_append : (p : ℕ → Bool) (a b : List ℕ) → T (all p a) → T (all p b) → T (all p (a ++ b))
unfolding all
all_append p [] b t u = u
all_append p (c ∷ a) b t u = let w = both (p c) (all p a) t in T_and (p c) (all p (a ++ b)) w.0 (all_append p a b w.1 u)

pub all_weaker : (p q : ℕ → Bool) → ((c : ℕ) → T (p c) → T (q c)) → (s : List ℕ) → T (all p s) → T (all q s)
unfolding all
all_weaker p q h [] t = tt
all_weaker p q h (c ∷ s) t = let w = both (p c) (all p s) t in T_and (q c) (all q s) (h c w.0) (all_weaker p q h s w.1)

-- a class of bytes from 32 to 126 that has no bracket
class_quiet : (p : ℕ → Bool) (c : ℕ) → T (p c) → p open_bracket ≡ false → p close_bracket ≡ false → 32 ≤ c → c ≤ 126 → T (quiet c)
unfolding quiet admitted
class_quiet p c t e f l h = rw (le-leb 32 c l, le-leb c 126 h, differs p c open_bracket t e, differs p c close_bracket t f) tt

letter_bounds : (c : ℕ) → T (letter c) → (32 ≤ c) × (c ≤ 126)
unfolding letter
letter_bounds c t = go (leb 65 c) (leb c 90) (leb 97 c) (leb c 122) refl refl refl refl t
  where
    go : (x y z w : Bool) → leb 65 c ≡ x → leb c 90 ≡ y → leb 97 c ≡ z → leb c 122 ≡ w → T ((x && y) || (z && w)) → (32 ≤ c) × (c ≤ 126)
    go true true z w e f g h t = omega (arith, leb-true 65 c e, leb-true c 90 f)
    go true false true true e f g h t = omega (arith, leb-true 97 c g, leb-true c 122 h)
    go false y true true e f g h t = omega (arith, leb-true 97 c g, leb-true c 122 h)
    go false y false w e f g h t = elim t [ ]
    go false y true false e f g h t = elim t [ ]
    go true false false w e f g h t = elim t [ ]
    go true false true false e f g h t = elim t [ ]

letter_quiet : (c : ℕ) → T (letter c) → T (quiet c)
unfolding letter
letter_quiet c t = let w = letter_bounds c t in class_quiet letter c t refl refl w.0 w.1

digit_quiet : (c : ℕ) → T (digit c) → T (quiet c)
unfolding digit
digit_quiet c t = let w = digit_bounds c t in class_quiet digit c t refl refl (omega arith) (omega arith)

pub letters_quiet : {l : List ℕ} → Letters l → T (all quiet l)
unfolding all
letters_quiet (Letters.letters {c = c} {s = s} t a) = T_and (quiet c) (all quiet s) (letter_quiet c t) (all_weaker letter quiet letter_quiet s a)

pub unsigned_quiet : {s : List ℕ} → Unsigned s → T (all quiet s)
unfolding all
unsigned_quiet (Unsigned.unsigned {c = c} {s = s} t a) =
    T_and (quiet c) (all quiet s) (digit_quiet c (true→T (nonzero_digit c t))) (all_weaker digit quiet digit_quiet s a)

pub in_quotes_quiet : {l : List ℕ} → Letters l → T (all quiet (quote ∷ l ++ quote ∷ []))
unfolding all quiet admitted
in_quotes_quiet {l} d = all_append quiet l (quote ∷ []) (letters_quiet d) tt

quoted_quiet : {l : List ℕ} → Quoted l → T (all quiet l)
quoted_quiet (quoted d) = in_quotes_quiet d
quoted_quiet (prefixed {p = p} {l = l} n d) = rw (append_assoc p (quote ∷ l) (quote ∷ [])) (all_append quiet p (quote ∷ l ++ quote ∷ []) (letters_quiet (prefix_lettered n)) (in_quotes_quiet d))

pub spelling_quiet : {r : Rules} {l : List ℕ} → SpellingBy r l → T (all quiet l)
unfolding all quiet admitted
spelling_quiet (SpellingBy.letters d) = letters_quiet d
spelling_quiet (SpellingBy.percent f) = tt
spelling_quiet (SpellingBy.quoted f d) = quoted_quiet d

-- BRACKETS

deepest_least : (d : ℕ) (s : List ℕ) → d ≤ deepest_from d s
unfolding deepest_from
deepest_least d [] = omega arith
deepest_least d (c ∷ s) = omega arith

quiet_parts : (c : ℕ) → T (quiet c) → T (admitted c) × (eqb c open_bracket ≡ false) × (eqb c close_bracket ≡ false)
unfolding quiet
quiet_parts c t = go (eqb c open_bracket) (eqb c close_bracket) refl refl (both (admitted c) _ t)
  where
    go : (x y : Bool) → eqb c open_bracket ≡ x → eqb c close_bracket ≡ y → T (admitted c) × T (not x && not y) → T (admitted c) × (eqb c open_bracket ≡ false) × (eqb c close_bracket ≡ false)
    go false false e f w = (w.0, e, f)
    go true y e f w = absurd w.1
    go false true e f w = absurd w.1

quiet_deep : (d : ℕ) (w u : List ℕ) → T (all quiet w) → deepest_from d (w ++ u) ≡ deepest_from d u
unfolding deepest_from all
quiet_deep d [] u t = refl
quiet_deep d (c ∷ w) u t =
    let v = both (quiet c) (all quiet w) t in
    let q = quiet_parts c v.0 in
    rw (q.1, q.2, quiet_deep d w u v.1) (omega (arith, deepest_least d u))

-- a piece of a text: its bytes are admitted, and by itself it opens one bracket at most
pub record Fine (w : List ℕ) : Type 0 where
  pub bytes : T (all admitted w)
  pub level : (u : List ℕ) → deepest_from 0 (w ++ u) ≤ max 1 (deepest_from 0 u)

pub fine_quiet : (w : List ℕ) → T (all quiet w) → Fine w
fine_quiet w t = record { bytes = all_weaker quiet admitted (λ c t. (quiet_parts c t).0) w t; level = λ u. omega (arith, quiet_deep 0 w u t) }

pub fine_append : {a b : List ℕ} → Fine a → Fine b → Fine (a ++ b)
fine_append {a} {b} v w = record {
  bytes = all_append admitted a b v.bytes w.bytes;
  level = λ u. rw (append_assoc a b u) (omega (arith, v.level (b ++ u), w.level u));
}

-- a quiet text in brackets
pub fine_brackets : (w : List ℕ) → T (all quiet w) → Fine (open_bracket ∷ w ++ close_bracket ∷ [])
unfolding all admitted deepest_from
fine_brackets w t = record {
  bytes = all_append admitted w (close_bracket ∷ []) (all_weaker quiet admitted (λ c t. (quiet_parts c t).0) w t) tt;
  level = λ u. rw (append_assoc w (close_bracket ∷ []) u, quiet_deep 1 w (close_bracket ∷ u) t) (omega arith);
}

pub fine_deepest : {w : List ℕ} → Fine w → leb (deepest w) 8 ≡ true
unfolding deepest deepest_from
fine_deepest {w} f =
    let l : deepest_from 0 w ≤ 1 = rw (append-nil w) at (f.level []) in
    le-leb (deepest_from 0 w) 8 (omega arith)
