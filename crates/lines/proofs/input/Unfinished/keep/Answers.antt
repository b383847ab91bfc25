-- `lines::input::Unfinished::keep` meets its contract: as many bytes as there is room for.
use borrow.Author.Rules.{rules}
use native.Mathlib.Omega.{arith}
use Rattle.lines.proofs.Keeping.{bytes_kept}
use Rattle.lines.proofs.input.Unfinished.keep.Goals as goal

pub returns : goal.returns
returns c = record {
  within = omega arith;
  bytes_are = bytes_kept c.args.bytes.now c.args.self.now.bytes c.args.self.now.kept {from = c.min-from.result} {size = c.min-size.result} (search rules) (omega arith) (omega arith) (omega arith) (search rules);
}
