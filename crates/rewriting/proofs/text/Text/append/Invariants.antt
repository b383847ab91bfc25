use lib.ListN.{take}
use Rattle.rewriting.specs.Texts.{Writes}
use Rattle.rewriting.proofs.text.Text.append.Given as goal

abbrev pub invariant-loop-byte : goal.invariant-loop-byte
invariant-loop-byte g l = Writes g.row.N l.initial.self (take l.byte-index l.s) l.self
