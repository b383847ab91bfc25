-- `record::fields::known_row` meets its contract: a known unit, and an unknown one.
use Rattle.record.specs.Record.{unit_code}
use Rattle.record.proofs.fields.known_row.Goals as goal

pub returns-in-Known : goal.returns-in-Known
unfolding unit_code
returns-in-Known c = λ s p. rw c.in-Known.is

pub returns-in-Unknown : goal.returns-in-Unknown
unfolding unit_code
returns-in-Unknown c = λ s p. rw c.in-Unknown.is
