use Rattle.std.proofs.Common.{arith}
use Rattle.std.proofs.lemmas.Bool.Decides.{nat_tests}
use Rattle.descent.proofs.LabelSteps.{label_from_factor, label_from_slash, label_from_product}
use Rattle.descent.proofs.whole_label.read_label.Goals as goal

pub returns-then-r : goal.returns-then-r
returns-then-r c = label_from_factor (grind (arith, nat_tests)) (grind arith) (grind (arith, nat_tests)) c.factored.ensures

pub returns-then-r-2 : goal.returns-then-r-2
returns-then-r-2 c =
    label_from_slash (grind (arith, nat_tests)) (grind arith) (grind (arith, nat_tests)) (grind (arith, nat_tests))
    c.requires c.read_item-end.ensures c.ended.ensures

pub returns : goal.returns
returns c =
    label_from_product (grind (arith, nat_tests)) (grind arith) (grind (arith, nat_tests)) (grind (arith, nat_tests))
    c.requires c.read_product-end.ensures c.ended-2.ensures
