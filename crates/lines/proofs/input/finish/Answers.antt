-- `lines::input::finish` meets its contract: a short buffer, no bytes, and a last line.
use native.Mathlib.Omega.{arith}
use borrow.Author.Rules.{rules}
use mathlib.Core.Path.{◌≡◌}
use lib.ListN.{length, length-take}
use Rattle.lines.specs.Feeding.{most_kept}
use Rattle.lines.proofs.Feeding.{finish_short, finish_nothing, finish_line}
use Rattle.lines.proofs.input.finish.Goals.{then-out-lt-MOST_WRITTEN-via-then-out-lt-MOST_WRITTEN, then-out-lt-MOST_WRITTEN-via-else-out-lt-MOST_WRITTEN+then-line-eq0}
use Rattle.lines.proofs.input.finish.Goals as goal

pub returns-then-out-lt-MOST_WRITTEN : goal.returns-then-out-lt-MOST_WRITTEN
returns-then-out-lt-MOST_WRITTEN c =
    elim c.then-out-lt-MOST_WRITTEN.branch [
      | then-out-lt-MOST_WRITTEN-via-then-out-lt-MOST_WRITTEN w ↦ finish_short c.args.line.now c.args.out.now w.if-out-lt-MOST_WRITTEN.true
      | then-out-lt-MOST_WRITTEN-via-else-out-lt-MOST_WRITTEN+then-line-eq0 w ↦ finish_nothing c.args.line.now c.args.out.now w.if-out-lt-MOST_WRITTEN.false w.if-line-eq0.true
    ]

pub returns : goal.returns
returns c =
    let full : length c.args.line.now.bytes ≡ most_kept = search rules in
    finish_line c.args.line.now c.args.out.now c.put_line.new.out c.put_line.result c.if-out-lt-MOST_WRITTEN.false
    (omega (arith, length-take c.args.line.now.kept c.args.line.now.bytes, c.if-line-eq0.false)) (rw c.text.ensures at c.put_line.ensures)
