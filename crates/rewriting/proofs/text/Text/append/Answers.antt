-- `rewriting::text::Text::append` meets its contract: no byte yet, and one byte more.
use Rattle.std.proofs.lemmas.List.{get_or_default}
use Rattle.rewriting.proofs.TextLaws.{writes_nothing, append_more}
use Rattle.rewriting.proofs.text.Text.append.Goals as goal

pub loop-byte-init : goal.loop-byte-init
loop-byte-init g c = writes_nothing

pub loop-byte-preserved : goal.loop-byte-preserved
loop-byte-preserved g c =
    append_more _ _ c.loop-byte.invariant c.loop-byte-test.true (get_or_default c.args.s.now _ _ _ c.loop-byte-test.true) c.push.ensures
