-- `lines::input::feed` meets its contract: what is written and what is still due are the output that was due. The check finds the others.
use Prim.Native.Nat.{◌-◌}
use native.Mathlib.Omega.{arith}
use mathlib.Core.Path.{◌∙◌}
use borrow.Rule.Slice.PartMut.{same_len_mid}
use Rattle.lines.proofs.Feeding.{due_more, step_moves}
use lib.ListN.{length}
use Rattle.lines.specs.declared.input.Fed.{Fed}
use Rattle.lines.proofs.input.feed.Goals as goal

pub loop-used-preserved : goal.loop-used-preserved
loop-used-preserved c =
    let r : Fed = record { used = c.loop-used.used; written = c.loop-used.written } in
    let same = c.step-r.auto.out in (
      same_len_mid c.loop-used.written (length c.loop-used.out - c.loop-used.written) c.loop-used.out c.step-r.new.out same ∙ c.loop-used.invariant.0,
      (λ h. omega (arith, step_moves c.args.chunk.now c.loop-used.used (omega arith) c.step-r.ensures)),
      due_more r c.step-r.result c.step-r.new.line c.step-r.new.out c.loop-used.invariant.2 c.step-r.ensures.due same,
    )
