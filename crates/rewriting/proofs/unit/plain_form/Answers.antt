-- `rewriting::unit::plain_form` meets its contract: no name, a name, or letters.
use Rattle.rewriting.proofs.UnitTexts.{plain_lettered, plain_unnamed, plain_named}
use Rattle.rewriting.proofs.unit.plain_form.Goals as goal
use Rattle.rewriting.proofs.unit.plain_form.Goals.{in-Known+in_ok-place-in-Known, in-Unknown}

pub returns-in_err-place-in-Known : goal.returns-in_err-place-in-Known
returns-in_err-place-in-Known c =
    rw c.from_residual.ensures (plain_unnamed _ _ c.in-Known.is c.names_of.ensures _ c.name_in.ensures.by_index c.in_err-place-in-Known.was)

pub returns : goal.returns
returns c = elim c.match-term.branch [
  | in-Known+in_ok-place-in-Known w ↦ rw (w.name-is, c.from-prefix.ensures) (plain_named _ _ w.in-Known.is w.names_of.ensures _ w.name_in.ensures.by_index _ w.in_ok-place-in-Known.was c.code_of.ensures w.nth_name.ensures)
  | in-Unknown w ↦ rw (w.name-is, c.from-prefix.ensures) (plain_lettered c.code_of.ensures w.in-Unknown.is)
]
