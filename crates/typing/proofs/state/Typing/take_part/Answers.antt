-- `typing::state::Typing::take_part` meets its contract: after the end, and before it.
use Prim.Native.Nat.{ℕ}
use mathlib.Core.Path.{sym, ap, ◌∙◌}
use Rattle.typing.proofs.PartSteps.{going_count, sent_ended, sent_going}
use Rattle.typing.proofs.state.Typing.take_part.Goals as goal

pub returns-then-has_ended : goal.returns-then-has_ended
returns-then-has_ended c =
    ap (λ (n : ℕ). record { number = n; state = c.args.self }) c.number_of_answer.ensures
    ∙ sent_ended c.args.self c.args.part.now (sym c.has_ended.ensures ∙ c.if-has_ended.true)

pub capped-requires : goal.capped-requires
capped-requires c = going_count c.args.self (sym c.has_ended.ensures ∙ c.if-has_ended.false)

pub returns : goal.returns
returns c =
    sent_going c.args.self c.args.part.now (sym c.has_ended.ensures ∙ c.if-has_ended.false) c.capped.result c.put_part.new.room c.capped.ensures c.put_part.ensures
