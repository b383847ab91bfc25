-- `lines::line::put_answer` meets its contract: the id, the number and the result are put one after the other.
use native.Mathlib.Omega.{arith}
use mathlib.Core.Path.{◌≡◌, ◌∙◌}
use lib.ListN.{length-take, length-drop}
use Rattle.label.specs.Writing.{rewriting}
use Rattle.label.specs.Lines.{notation_named}
use Rattle.label.proofs.Bounded.{rewriting_bounded}
use Rattle.notations.proofs.NameLaws.{told_or_0}
use Rattle.lines.proofs.Putting.{number_size, answer_put, answer_size}
use Rattle.lines.proofs.line.put_answer.Goals as goal

pub put_number-size-requires : goal.put_number-size-requires
put_number-size-requires c =
    (omega (arith, c.put_result-a.ensures.number_value, (rewriting_bounded c.unwrap_or-from.result c.args.f.text.now c.unwrap_or-to.result).small), simp (length-take, length-drop) (omega arith))

pub returns : goal.returns
returns c =
    let r = rewriting (notation_named c.args.f.source.now) c.args.f.text.now (notation_named c.args.f.target.now) in
    let from : c.unwrap_or-from.result ≡ notation_named c.args.f.source.now = c.unwrap_or-from.ensures ∙ told_or_0 _ c.notation_named.result c.notation_named.ensures in
    let to : c.unwrap_or-to.result ≡ notation_named c.args.f.target.now = c.unwrap_or-to.ensures ∙ told_or_0 _ c.notation_named-2.result c.notation_named-2.ensures in
    let e : rewriting c.unwrap_or-from.result c.args.f.text.now c.unwrap_or-to.result ≡ r = rw (from, to) in
    let written = rw e at c.put_result-a.ensures.puts in
    let numbered = rw (c.put_result-a.ensures.number_value, e) at c.put_number-size.ensures in
    record {
      puts = answer_put c.args.f.id.now c.args.out.now c.copy-number_at.new.target c.put_result-a.new.out c.put_number-size.new.out r (rewriting_bounded _ _ _) c.copy-number_at.ensures.bytes
          (omega (arith, c.copy-number_at.auto.target, c.requires))
          c.copy-number_at.result c.put_number-size.result c.put_result-a.result.length c.copy-number_at.ensures.size written numbered;
      upper_bound = answer_size r (rewriting_bounded _ _ _) c.copy-number_at.result c.put_number-size.result c.put_result-a.result.length (omega (arith, c.copy-number_at.ensures.size, c.requires)) numbered.size_is written.size_is;
    }
