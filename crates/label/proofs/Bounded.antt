-- What rewriting answers is short: a number of at most two digits, a text of at most 255 bytes, and no text with a refusal.
use Prim.Native.Nat.{ℕ, ◌≤◌, ◌<◌}
use native.Mathlib.Omega.{arith}
use mathlib.Core.Path.{◌≡◌, refl, ap}
use mathlib.Core.Bool.{Bool, true, false}
use mathlib.Core.List.{List, []}
use mathlib.Core.Option.{Option, none, some}
use lib.Dec.{leb, eqb}
use lib.ListN.{length}
use borrow.Author.Tests.{leb-true}
use Rattle.label.specs.Notations.{notation}
use Rattle.label.specs.Reading.{Reading, reading, reading_of, refusal}
use Rattle.label.specs.Writing.{Rewriting, refuse_rewriting, unless, sized, written_reading, rewriting}
use Rattle.label.specs.Limits.{most_bytes}
use Rattle.label.proofs.Refusals.{bounds}
use Rattle.label.proofs.Readings.{Answered, answer_of, refused_reading, accepted_reading}

pub record BoundedRewriting (x : Rewriting) : Type 0 where
  pub small : x.number ≤ 13
  pub short : length x.text ≤ most_bytes
  pub empty : 0 < x.number → x.text ≡ []

refuse_bounded : (i : ℕ) → i ≤ 13 → BoundedRewriting (refuse_rewriting i)
refuse_bounded i h = record { small = h; short = omega arith; empty = λ _. refl }

pub unless_bounded : (b : Bool) (i : ℕ) (x : Rewriting) → i ≤ 13 → BoundedRewriting x → BoundedRewriting (unless b i x)
unfolding unless
unless_bounded true i x h p = p
unless_bounded false i x h p = refuse_bounded i h

text_bounded : (t : List ℕ) (b : Bool) → leb (length t) most_bytes ≡ b → BoundedRewriting (unless b 13 (record { number = 0; text = t }))
unfolding unless
text_bounded t true e = record { small = omega arith; short = leb-true (length t) most_bytes e; empty = λ h. absurd (omega arith) }
text_bounded t false e = refuse_bounded 13 (omega arith)

sized_bounded : (o : Option (List ℕ)) → BoundedRewriting (sized o)
unfolding sized
sized_bounded none = refuse_bounded 12 (omega arith)
sized_bounded (some t) = text_bounded t (leb (length t) most_bytes) refl

refusal_number : (i : ℕ) → (refusal i).number ≡ i
unfolding refusal
refusal_number i = refl

reading_small : (n : ℕ) (s : List ℕ) → (reading n s).number ≤ 13
unfolding reading_of
reading_small n s = go (answer_of n s)
  where
    go : Answered n s → (reading n s).number ≤ 13
    go (Answered.refusing i e d) = omega (arith, bounds d.holds, ap (λ (r : Reading). r.number) (refused_reading d), refusal_number i)
    go (Answered.accepting v w) = omega (arith, ap (λ (r : Reading). r.number) (accepted_reading w))

pub rewriting_bounded : (n : ℕ) (s : List ℕ) (m : ℕ) → BoundedRewriting (rewriting n s m)
unfolding rewriting
rewriting_bounded n s m =
    unless_bounded (eqb (reading n s).number 0) (reading n s).number _ (reading_small n s)
    (unless_bounded (notation m) 1 _ (omega arith) (sized_bounded (written_reading m s (reading n s))))
