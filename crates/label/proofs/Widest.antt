-- The grammar with every rule holds every notation: what a text is by some rules, it is by all of them.
use Prim.Native.Nat.{ℕ}
use mathlib.Core.Path.{refl}
use mathlib.Core.Bool.{Bool, true, false}
use mathlib.Core.List.{List, [], ◌∷◌, ◌++◌, append_assoc, append-nil}
use Rattle.label.specs.Bytes.{slash}
use Rattle.label.specs.declared.Rules.{Rules}
use Rattle.label.specs.Lexical.{Numeral, Written, Factor, Part, turned_all, Kind, item, more, product, quotient}
use Rattle.label.specs.Ogip.{unspaced}
use Rattle.label.proofs.General.{SpellingBy, ExponentBy, Pad, TimesBy, OverBy, G, flat, WrappedBy, FactorBy, GapBy, LabelBy}

-- every rule at once
abbrev pub all_rules : Rules
all_rules = record {
  percent = true;
  quotes = true;
  direct = true;
  brackets = true;
  stars = true;
  caret = true;
  space = true;
  spaces = true;
  star = true;
  point = true;
  each = true;
  within = false;
  lead = false;
  factor = true;
  wrapped = true;
  signed = true;
  plain = true;
}

module _ {r : Rules} where
  spelling_wider : {l : List ℕ} → SpellingBy r l → SpellingBy all_rules l
  spelling_wider (SpellingBy.letters d) = SpellingBy.letters d
  spelling_wider (SpellingBy.percent f) = SpellingBy.percent tt
  spelling_wider (SpellingBy.quoted f d) = SpellingBy.quoted tt d

  exponent_wider : {e : List ℕ} {w : Written} → ExponentBy r e w → ExponentBy all_rules e w
  exponent_wider ExponentBy.none = ExponentBy.none
  exponent_wider (ExponentBy.integer f i) = ExponentBy.integer tt i
  exponent_wider (ExponentBy.bracketed f b) = ExponentBy.bracketed tt b
  exponent_wider (ExponentBy.stars f p) = ExponentBy.stars tt p
  exponent_wider (ExponentBy.caret f p) = ExponentBy.caret tt p

  pad_wider : {a : List ℕ} → Pad r a → Pad all_rules a
  pad_wider Pad.none = Pad.none
  pad_wider (Pad.space f p) = Pad.space tt (pad_wider p)

  times_wider : {j : List ℕ} → TimesBy r j → TimesBy all_rules j
  times_wider (TimesBy.space f p) = TimesBy.space tt (pad_wider p)
  times_wider (TimesBy.star f p q) = TimesBy.star tt (pad_wider p) (pad_wider q)
  times_wider (TimesBy.point f p q) = TimesBy.point tt (pad_wider p) (pad_wider q)

  over_wider : {j : List ℕ} → OverBy r j → OverBy all_rules j
  over_wider (OverBy.slashed f p q) = OverBy.slashed tt (pad_wider p) (pad_wider q)

  wrapped_wider : {e : List ℕ} {n : Numeral} → WrappedBy r e n → WrappedBy all_rules e n
  wrapped_wider (WrappedBy.bare i) = WrappedBy.bare i
  wrapped_wider (WrappedBy.bracketed f i) = WrappedBy.bracketed tt i

  factor_wider : {x : List ℕ} {f : Factor} → FactorBy r x f → FactorBy all_rules x f
  factor_wider (FactorBy.stars w) = FactorBy.stars (wrapped_wider w)
  factor_wider (FactorBy.caret f w) = FactorBy.caret tt (wrapped_wider w)
  factor_wider (FactorBy.signed f i) = FactorBy.signed tt i
  factor_wider (FactorBy.plain f p) = FactorBy.plain tt p

  gap_wider : {g : List ℕ} → GapBy r g → GapBy all_rules g
  gap_wider GapBy.nothing = GapBy.nothing
  gap_wider (GapBy.one f) = GapBy.one tt
  gap_wider (GapBy.many f p) = GapBy.many tt p

-- one slash
slash_over : OverBy all_rules (slash ∷ [])
slash_over = OverBy.slashed tt Pad.none Pad.none

-- one more item below a slash, at the end of a product
more_last : {s t u : List ℕ} {ps qs : List Part} → G all_rules more s (slash ∷ t) ps → G all_rules item t u qs → G all_rules more s u (ps ++ turned_all qs)
more_last {qs = qs} G.done d = rw (← append-nil (turned_all qs)) (G.over slash_over d G.done)
more_last {qs = qs} (G.times {ps = ps} {qs = rs} j i m) d = rw (append_assoc ps rs (turned_all qs)) (G.times j i (more_last m d))
more_last {qs = qs} (G.over {ps = ps} {qs = rs} j i m) d = rw (append_assoc (turned_all ps) rs (turned_all qs)) (G.over j i (more_last m d))

product_last : {s t u : List ℕ} {ps qs : List Part} → G all_rules product s (slash ∷ t) ps → G all_rules item t u qs → G all_rules product s u (ps ++ turned_all qs)
product_last {qs = qs} (G.first {ps = ps} {qs = rs} i m) d = rw (append_assoc ps rs (turned_all qs)) (G.first i (more_last m d))
product_last {qs = qs} (G.under {ps = ps} {qs = rs} j i m) d = rw (append_assoc (turned_all ps) rs (turned_all qs)) (G.under j i (more_last m d))

-- what a group holds is a product by all rules
held : {s t : List ℕ} {ps : List Part} (b : Bool) → G all_rules (flat (Rattle.label.specs.Choice.pick b quotient product)) s t ps → G all_rules product s t ps
held true d = d
held false d = d

pub wider : {r : Rules} {x : Kind} {s t : List ℕ} {ps : List Part} → G r x s t ps → G all_rules (flat x) s t ps
wider (G.unit l e) = G.unit (spelling_wider l) (exponent_wider e)
wider {r} (G.group d) = G.group (held r.within (wider d))
wider (G.first d m) = G.first (wider d) (wider m)
wider (G.under j d m) = G.under (over_wider j) (wider d) (wider m)
wider G.done = G.done
wider (G.times j d m) = G.times (times_wider j) (wider d) (wider m)
wider (G.over j d m) = G.over (over_wider j) (wider d) (wider m)
wider (G.plain d) = wider d
wider (G.divided f d i) = product_last (wider d) (wider i)

-- a slash and one item is a product by all rules
under_wider : {s : List ℕ} {ps : List Part} → G all_rules item s [] ps → G all_rules product (slash ∷ s) [] (turned_all ps)
under_wider {ps = ps} d = rw (← append-nil (turned_all ps)) (G.under slash_over d G.done)

pub label_wider : {r : Rules} {s : List ℕ} {f : Factor} {ps : List Part} → LabelBy r s f ps → LabelBy all_rules s f ps
label_wider LabelBy.empty = LabelBy.empty
label_wider (LabelBy.plain u d) = LabelBy.plain u (G.plain (wider d))
label_wider (LabelBy.under f d) = LabelBy.plain (unspaced refl) (G.plain (under_wider (wider d)))
label_wider (LabelBy.factored l x g d) = LabelBy.factored tt (factor_wider x) (gap_wider g) (G.plain (wider d))
