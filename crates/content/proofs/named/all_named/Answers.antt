-- `content::named::all_named` meets its contract: each turn of the loop is one of `Naming`.
use native.Mathlib.Omega.{arith}
use Rattle.content.proofs.Naming.{naming₀, naming_in, naming_more, named_all}
use Rattle.content.proofs.named.all_named.Goals as goal

pub loop-i-init : goal.loop-i-init
loop-i-init c = naming₀ (omega arith)

pub symbol-requires : goal.symbol-requires
symbol-requires c = let v = naming_in c.requires (omega arith) in (v.forward, v.within)

pub loop-i-preserved : goal.loop-i-preserved
loop-i-preserved c =
    naming_more c.loop-i.invariant (omega arith) (omega arith) (naming_in c.requires (omega arith)) c.symbol.ensures.bounded_symbol
    c.symbol.ensures.result_value c.symbol.ensures.letters_at

pub returns : goal.returns
returns c = named_all c.loop-i.invariant (omega arith)
