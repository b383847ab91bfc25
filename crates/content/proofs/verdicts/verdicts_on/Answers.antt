-- `content::verdicts::verdicts_on` meets its contract: what `all` answers of the symbols is the verdict on the terms.
use native.Mathlib.Omega.{arith}
use mathlib.Core.Path.{◌∙◌}
use Rattle.std.proofs.Common.{rules, tests}
use Rattle.std.proofs.lemmas.Iterator.{YieldsList-from_slice}
use Rattle.std.proofs.lemmas.Iterator.Search.{all_from_yields_List}
use lib.ListN.{take}
use Rattle.label.specs.Reading.{is_known, is_lawful, is_recommended}
use Rattle.symbols.specs.Views.{symbol_in}
use Rattle.content.proofs.TermLaws.{every_noted}
use Rattle.content.proofs.verdicts.verdicts_on.Goals as goal

pub returns : goal.returns
unfolding is_known symbol_in
returns c = λ s t.
    let noted = take c.args.count c.args.symbols.now in
    record {
      known_is =
          all_from_yields_List (λ y. is_known (symbol_in s y)) _ _ c.all.result c.all.ensures.ran (YieldsList-from_slice noted cc) (λ x b q k. search (rules, tests))
          ∙ every_noted is_known s t c.args.symbols.now c.args.count (omega arith);
      lawful_is =
          all_from_yields_List (λ y. is_lawful c.args.n (symbol_in s y)) _ _ c.all-2.result c.all-2.ensures.ran (YieldsList-from_slice noted cc) (λ x b q k. search (rules, tests))
          ∙ every_noted (is_lawful c.args.n) s t c.args.symbols.now c.args.count (omega arith);
      recommended_is =
          all_from_yields_List (λ y. is_recommended (symbol_in s y)) _ _ c.all-3.result c.all-3.ensures.ran (YieldsList-from_slice noted cc) (λ x b q k. search (rules, tests))
          ∙ every_noted is_recommended s t c.args.symbols.now c.args.count (omega arith);
    }
