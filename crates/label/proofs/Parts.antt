-- The parts of a derivation: each has a spelling and an exponent by the rules.
use Prim.Native.Nat.{ℕ}
use mathlib.Core.List.{List, [], ◌∷◌, ◌++◌}
use Rattle.label.specs.declared.Rules.{Rules}
use Rattle.label.specs.Lexical.{Factor, Part, turned_all, Kind}
use Rattle.label.proofs.General.{SpellingBy, ExponentBy, G, LabelBy}

pub record PartBy (r : Rules) (p : Part) : Type 0 where
  pub spelled : SpellingBy r p.spelling
  pub text : List ℕ
  pub raised : ExponentBy r text p.power

pub data AllParts (r : Rules) : List Part → Type 0 where
  done : AllParts r []
  also : {p : Part} {ps : List Part} → PartBy r p → AllParts r ps → AllParts r (p ∷ ps)

joined : {r : Rules} {ps qs : List Part} → AllParts r ps → AllParts r qs → AllParts r (ps ++ qs)
joined AllParts.done es = es
joined (AllParts.also d ds) es = AllParts.also d (joined ds es)

turned : {r : Rules} {ps : List Part} → AllParts r ps → AllParts r (turned_all ps)
turned AllParts.done = AllParts.done
turned (AllParts.also d ds) = AllParts.also (record { spelled = d.spelled; text = d.text; raised = d.raised }) (turned ds)

parts_by : {r : Rules} {x : Kind} {s t : List ℕ} {ps : List Part} → G r x s t ps → AllParts r ps
parts_by (G.unit {e = e} d x) = AllParts.also (record { spelled = d; text = e; raised = x }) AllParts.done
parts_by (G.group d) = parts_by d
parts_by (G.first d m) = joined (parts_by d) (parts_by m)
parts_by (G.under o d m) = joined (turned (parts_by d)) (parts_by m)
parts_by G.done = AllParts.done
parts_by (G.times o d m) = joined (parts_by d) (parts_by m)
parts_by (G.over o d m) = joined (turned (parts_by d)) (parts_by m)
parts_by (G.plain d) = parts_by d
parts_by (G.divided f d i) = joined (parts_by d) (turned (parts_by i))

pub label_parts : {r : Rules} {s : List ℕ} {f : Factor} {ps : List Part} → LabelBy r s f ps → AllParts r ps
label_parts LabelBy.empty = AllParts.done
label_parts (LabelBy.plain u d) = parts_by d
label_parts (LabelBy.under f d) = turned (parts_by d)
label_parts (LabelBy.factored l f w d) = parts_by d
