-- Refusals with a lent buffer: 14 exactly when the buffer is shorter than the result, and the others as without a buffer.
use Prim.Native.Nat.{ℕ, ◌≤◌, ◌<◌}
use native.Mathlib.Omega.{arith}
use mathlib.Core.Path.{◌≡◌, refl}
use mathlib.Core.Logic.{◌↔◌}
use mathlib.Core.Bool.{Bool, true, false}
use mathlib.Core.List.{List}
use lib.Dec.{leb}
use lib.ListN.{length}
use borrow.Author.Tests.{leb-false, le-leb, lt-leb}
use Rattle.label.proofs.Refusals.{bounds}
use Rattle.label.proofs.Formed.{refuses_answered, refusals_are_due}
use Rattle.label.specs.Writing.{unless, fitted, rewriting, rewriting_into, Refuses}

below_fourteen : {n m i : ℕ} {s : List ℕ} → Refuses n s m i → i ≤ 13
below_fourteen (Refuses.source d) = omega (arith, bounds d.holds)
below_fourteen (Refuses.target z c) = omega arith
below_fourteen (Refuses.formless z t f) = omega arith
below_fourteen (Refuses.factor_formless z t f) = omega arith
below_fourteen (Refuses.long z t w l) = omega arith

module _ (size n : ℕ) (s : List ℕ) (m : ℕ) where
  -- "14: the lent buffer is shorter than the result". A refused rewriting has no bytes, so no earlier refusal applies then.
  pub fourteen_due : ((rewriting_into size n s m).number ≡ 14) ↔ (size < length (rewriting n s m).text)
  unfolding rewriting_into fitted unless
  fourteen_due = ((λ h. go (leb (length (rewriting n s m).text) size) refl h), (λ l. rw (lt-leb (length (rewriting n s m).text) size l)))
    where
      go : (b : Bool) → leb (length (rewriting n s m).text) size ≡ b → (unless b 14 (rewriting n s m)).number ≡ 14 → size < length (rewriting n s m).text
      go true e h = absurd (omega (arith, below_fourteen ((refusals_are_due n s m 14 (omega arith)).0 h)))
      go false e h = leb-false (length (rewriting n s m).text) size e

  -- each refusal before 14 is given exactly when it is due
  pub earlier_due : (i : ℕ) → 1 ≤ i → i ≤ 13 → ((rewriting_into size n s m).number ≡ i) ↔ Refuses n s m i
  unfolding rewriting_into fitted unless
  earlier_due i l h = ((λ e. go (leb (length (rewriting n s m).text) size) e), (λ d. rw (refuses_answered n s m d, le-leb 0 size (omega arith))))
    where
      go : (b : Bool) → (unless b 14 (rewriting n s m)).number ≡ i → Refuses n s m i
      go true e = (refusals_are_due n s m i l).0 e
      go false e = absurd (omega arith)
