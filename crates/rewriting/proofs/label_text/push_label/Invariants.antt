use Rattle.notations.specs.Styles.{style_in}
use Rattle.rewriting.proofs.LabelTexts.{Termed}
use Rattle.rewriting.proofs.label_text.push_label.Given as goal

abbrev pub invariant-loop-i : goal.invariant-loop-i
invariant-loop-i g l = Termed g.row.N (style_in l.style) l.style.notation l.s l.content l.initial.text l.text l.i
