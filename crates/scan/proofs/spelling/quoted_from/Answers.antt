-- `scan::spelling::quoted_from` meets its contract: each answer is one of `Spellings`.
use Rattle.scan.proofs.Spellings.{quoted_empty, quoted_end}
use Rattle.scan.proofs.spelling.quoted_from.Goals as goal

pub returns-then-end-first : goal.returns-then-end-first
returns-then-end-first c = quoted_empty c.requires c.letters-end.ensures c.if-end-first.true

pub returns : goal.returns
returns c = rw c.then_some.ensures (quoted_end c.requires c.letters-end.ensures c.if-end-first.false c.byte_at-closed.ensures)
