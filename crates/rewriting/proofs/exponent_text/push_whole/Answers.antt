-- `rewriting::exponent_text::push_whole` meets its contract.
use Rattle.label.specs.Bytes.{bytes}
use Rattle.notations.specs.Styles.{style_in}
use Rattle.rewriting.proofs.TextLaws.{writes_both}
use Rattle.rewriting.proofs.exponent_text.push_whole.Goals as goal
use Rattle.rewriting.proofs.exponent_text.push_whole.Goals.{else-style-via-then-style+else-power, else-style-via-else-style}

pub returns-then-power : goal.returns-then-power
unfolding style_in bytes
returns-then-power g c =
    rw (c.if-style.true, c.if-power.true)
    (writes_both c.append_if.ensures (writes_both c.push.ensures (writes_both (rw c.if-power.true at c.push_integer.ensures) c.push-then-power.ensures)))

pub returns-else-style : goal.returns-else-style
unfolding style_in bytes
returns-else-style g c =
    elim c.else-style.branch [
      | else-style-via-then-style+else-power w ↦ rw (w.if-style.true, w.if-power.false) (writes_both c.append_if.ensures (rw w.if-power.false at c.push_integer-else-style.ensures))
      | else-style-via-else-style w ↦ rw w.if-style.false (writes_both c.append_if.ensures c.push_integer-else-style.ensures)
    ]
