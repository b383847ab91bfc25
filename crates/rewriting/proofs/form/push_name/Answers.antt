-- `rewriting::form::push_name` meets its contract: plainly, or in quotes.
use Rattle.rewriting.proofs.TextLaws.{writes_both}
use Rattle.rewriting.proofs.form.push_name.Goals as goal

pub returns-in-Plain : goal.returns-in-Plain
returns-in-Plain g c = rw c.in-Plain.is (writes_both c.push_key.ensures c.append.ensures)

pub returns-in-Quoted : goal.returns-in-Quoted
returns-in-Quoted g c =
    rw c.in-Quoted.is (writes_both c.push.ensures (writes_both (writes_both c.push_key-in-Quoted.ensures c.append-in-Quoted.ensures) c.push-in-Quoted.ensures))
