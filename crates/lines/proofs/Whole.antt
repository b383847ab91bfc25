-- What a program writes that feeds its whole input.
use Prim.Native.Nat.{ℕ, ◌+◌, ◌<◌}
use native.Mathlib.Omega.{arith}
use mathlib.Core.Path.{◌≡◌, sym, ap, ◌∙◌}
use mathlib.Core.List.{List, [], ◌++◌}
use lib.ListN.{length, take, drop}
use lib.Seq.{take-append_seam}
use borrow.Author.Tests.{le-ltb}
use Rattle.label.specs.Lines.{output_after, output}
use Rattle.lines.specs.Writing.{Puts, most_answer}
use Rattle.lines.specs.declared.input.Unfinished.{Unfinished}
use Rattle.lines.specs.Feeding.{kept_bytes, Finishes, ProgramWrites, fed, finished}

all_put : (t b c : List ℕ) (size : ℕ) → Puts t b c size → take size c ≡ t
all_put t b c size p = rw (p.size_is, p.bytes_are) (take-append_seam t (drop (length t) b))

last_written : (l : Unfinished) (out out' : List ℕ) (size : ℕ) → most_answer < length out → Finishes l out out' size → take size out' ≡ output_after (kept_bytes l) []
last_written l out out' size h f =
    all_put (output_after (kept_bytes l) []) out out' size (rw (le-ltb (length out) (most_answer + 1) (omega arith)) at f.puts)

due_written : {l : Unfinished} {s all : List ℕ} → ProgramWrites l s all → all ≡ output_after (kept_bytes l) s
due_written (fed chunk rest out l' out' written r e feeds later g) =
    g ∙ ap (λ (x : List ℕ). take r.written out' ++ x) (due_written later) ∙ sym (rw e (feeds.due.output_is rest))
due_written {l} {s} {all} (finished out out' size e h f g) = g ∙ rw e (last_written l out out' size h f)

-- However the input is cut, the output is that of the definition.
pub whole_output : {l : Unfinished} {s all : List ℕ} → kept_bytes l ≡ [] → ProgramWrites l s all → all ≡ output s
unfolding output
whole_output {l} {s} {all} e w = due_written w ∙ ap (λ (p : List ℕ). output_after p s) e
