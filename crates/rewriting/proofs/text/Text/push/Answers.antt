-- `rewriting::text::Text::push` meets its contract: there is room, the array is full, or the text was not kept before.
use mathlib.Core.Path.{sym, ap, ◌∙◌}
use Prim.Native.Nat.{ℕ}
use lib.ListN.{take}
use Rattle.std.specs.Prelude.{Result}
use Rattle.std.specs.Result.{result_map_both}
use Rattle.rewriting.specs.declared.text.Unkept.{Unkept}
use Rattle.rewriting.proofs.TextLaws.{push_fits, push_over, push_past}
use Rattle.rewriting.proofs.text.Text.push.Goals as goal
use Rattle.rewriting.proofs.text.Text.push.Goals.{in-Ok, in-Ok-2, in-Err}

pub returns : goal.returns
returns g c =
    let b = c.self.inside.bytes in
    let kept = λ (o : Result ℕ Unkept). result_map_both (λ n. take n b) (λ e. e) o in
    elim c.match-self.branch [
      | in-Ok w ↦ rw (w.self-is, w.self-inside-is) (push_fits _ b _ (sym (ap kept w.in-Ok.is) ∙ c.self.view_is) c.self.told w.if-length.true)
      | in-Ok-2 w ↦ rw w.self-is (push_over _ b w.in-Ok.length (sym (ap kept w.in-Ok.is) ∙ c.self.view_is) c.self.told (rw w.in-Ok.is at c.self.invariant) w.if-length.false)
      | in-Err w ↦ rw w.self-is (push_past _ (sym (ap kept w.in-Err.is) ∙ c.self.view_is))
    ]
