-- `rewriting::factor_text::push_ten` meets its contract.
use mathlib.Core.Path.{◌≡◌, refl}
use mathlib.Core.Bool.{Bool, true, false}
use mathlib.Core.List.{[], ◌++◌}
use Rattle.label.specs.Bytes.{bytes}
use Rattle.label.specs.Choice.{pick}
use Rattle.rewriting.proofs.TextLaws.{writes_both, writes_as}
use Rattle.rewriting.proofs.factor_text.push_ten.Goals as goal

ten : (stars : Bool) → pick stars (bytes "10**") (bytes "10") ≡ bytes "10" ++ pick stars (bytes "**") []
unfolding bytes
ten true = refl
ten false = refl

pub returns : goal.returns
unfolding bytes
returns g c = writes_as (ten c.args.stars) (writes_both c.append.ensures c.append_if.ensures)
