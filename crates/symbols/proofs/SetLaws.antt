-- Sets of notations as bits: a test of a set, and the law that a bit then tells a member.
use Prim.Native.Nat.{ℕ, suc, ◌≤◌, ◌<◌}
use native.Mathlib.Omega.{arith}
use native.Mathlib.Decide.{dec_lt}
use mathlib.Core.Path.{◌≡◌, refl, sym, ◌∙◌}
use mathlib.Core.Bool.{Bool, true, false, ◌&&◌, not}
use mathlib.Core.List.{[], ◌∷◌}
use lib.Dec.{T, leb, leb→le}
use borrow.Author.Tests.{lt-leb, ne_eqb}
use Rattle.label.proofs.Basics.{both, T→true, true→T, all_below, at_below}
use Rattle.label.specs.Bytes.{all}
use Rattle.label.specs.Notations.{Notations, member}
use Rattle.symbols.specs.Sets.{bits, most_notations, has_bit}

-- the same truth
unfoldable pub alike : Bool → Bool → Bool
alike true b = b
alike false b = not b

pub alike_is : (a b : Bool) → T (alike a b) → a ≡ b
unfolding alike
alike_is true true t = refl
alike_is false false t = refl
alike_is false true t = elim t [ ]
alike_is true false t = elim t [ ]

-- a set of notations for which there is room, each of which its bits tell
unfoldable pub told_by_bits : Notations → Bool
told_by_bits ns = all (λ n. leb n most_notations) ns && all_below (λ n. alike (has_bit n (bits ns)) (member n ns)) (suc most_notations)

none_above : (n : ℕ) (ns : Notations) → most_notations < n → T (all (λ m. leb m most_notations) ns) → member n ns ≡ false
unfolding all member
none_above n [] h t = refl
none_above n (m ∷ ns) h t =
    let w = both (leb m most_notations) (all (λ m. leb m most_notations) ns) t in
    let g : m ≤ most_notations = leb→le m most_notations w.0 in
    rw (ne_eqb n m (λ e. omega arith)) (none_above n ns h w.1)

no_bit : (n b : ℕ) → most_notations < n → has_bit n b ≡ false
no_bit n b h = rw (lt-leb n most_notations h) (and_false (leb 1 n) _)
  where
    and_false : (x y : Bool) → ((x && false) && y) ≡ false
    and_false true y = refl
    and_false false y = refl

-- The bits of a set of the tables tell its members.
pub bit_member : (n : ℕ) (ns : Notations) → T (told_by_bits ns) → has_bit n (bits ns) ≡ member n ns
unfolding told_by_bits
bit_member n ns t = go (dec_lt most_notations n)
  where
    low : T (all (λ m. leb m most_notations) ns)
    low = (both (all (λ m. leb m most_notations) ns) _ t).0

    same : ℕ → Bool
    same n = alike (has_bit n (bits ns)) (member n ns)

    go : Dec (most_notations < n) → has_bit n (bits ns) ≡ member n ns
    go (yes h) = no_bit n (bits ns) h ∙ sym (none_above n ns h low)
    go (no h) = alike_is _ _ (true→T (at_below same (suc most_notations) (T→true (all_below same (suc most_notations)) (both (all (λ m. leb m most_notations) ns) _ t).1) n (omega arith)))
