-- What the rewriter writes into a buffer that has room for every result.
use Prim.Native.Nat.{ℕ, ◌≤◌}
use native.Mathlib.Omega.{arith}
use mathlib.Core.Path.{◌≡◌}
use mathlib.Core.List.{List}
use lib.ListN.{length}
use borrow.Author.Tests.{le-leb}
use Rattle.label.specs.Writing.{unless}
use Rattle.label.specs.Writing.{rewriting}
use Rattle.label.proofs.Bounded.{rewriting_bounded}
use Rattle.label.specs.Writing.{fitted, rewriting_into, buffer_with}
use Rattle.label.specs.Limits.{most_bytes}
use Rattle.rewriting.specs.declared.rewrite.Rewritten.{Rewritten}
use Rattle.rewriting.specs.Buffers.{AnswerIs}
use Rattle.lines.specs.Writing.{Puts}

module _ (n : ℕ) (s : List ℕ) (m : ℕ) (b c : List ℕ) (r : Rewritten) (room : most_bytes ≤ length b) where
  all_fits : rewriting_into (length b) n s m ≡ rewriting n s m
  unfolding rewriting_into fitted unless
  all_fits = rw (le-leb (length (rewriting n s m).text) (length b) (omega (arith, (rewriting_bounded n s m).short)))

  pub result_put : AnswerIs (rewriting_into (length b) n s m) r → c ≡ buffer_with (rewriting_into (length b) n s m) b
      → (r.number ≡ (rewriting n s m).number) × Puts (rewriting n s m).text b c r.length
  unfolding buffer_with
  result_put a e = (rw all_fits at a.number, record { size_is = rw all_fits at a.length_is; bytes_are = rw all_fits at e })
