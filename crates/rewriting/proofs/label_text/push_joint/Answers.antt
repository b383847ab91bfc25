-- `rewriting::label_text::push_joint` meets its contract: nothing before the first term, and the joint before any other.
use Prim.Native.Nat.{suc, ◌-◌}
use native.Mathlib.Omega.{arith}
use mathlib.Core.Path.{◌≡◌}
use Rattle.notations.specs.Styles.{style_in}
use Rattle.rewriting.specs.Forms.{joint_before}
use Rattle.rewriting.proofs.TextLaws.{writes_nothing}
use Rattle.rewriting.proofs.label_text.push_joint.Goals as goal

pub returns-then-i-gt0 : goal.returns-then-i-gt0
unfolding style_in joint_before
returns-then-i-gt0 g c = let e : c.args.i ≡ suc (c.args.i - 1) = omega arith in rw e c.push.ensures

pub returns-else-i-gt0 : goal.returns-else-i-gt0
unfolding joint_before
returns-else-i-gt0 g c = let e : c.args.i ≡ 0 = omega arith in rw e writes_nothing
