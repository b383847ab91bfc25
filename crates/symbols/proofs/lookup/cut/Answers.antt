-- `symbols::lookup::cut` meets its contract: each answer is one of `SymbolLaws`.
use Rattle.symbols.proofs.SymbolLaws.{cut_short, cut_none, cut_some}
use Rattle.symbols.proofs.lookup.cut.Goals as goal

pub returns-then-span-count : goal.returns-then-span-count
returns-then-span-count c = cut_short _ _ _ _ c.requires.0 c.requires.1 c.if-span-count.true

pub returns-in_err-prefix : goal.returns-in_err-prefix
returns-in_err-prefix c = rw c.from_residual.ensures (cut_none _ _ _ _ c.requires.0 c.requires.1 c.if-span-count.false c.in_err-prefix.ensures.is)

pub returns : goal.returns
returns c = cut_some _ _ _ _ c.requires.0 c.requires.1 c.if-span-count.false c.in_ok-prefix.ensures.is c.in_ok-prefix.ensures.place
