-- Each notation's own grammar is the general grammar with that notation's rules.
use Prim.Native.Nat.{ℕ}
use mathlib.Core.Path.{◌≡◌, refl}
use mathlib.Core.Bool.{false}
use mathlib.Core.List.{List, [], ◌∷◌}
use lib.Dec.{T}
use Rattle.label.specs.declared.Rules.{Rules}
use Rattle.label.specs.Rows.{fits_rules, ogip_rules, cds_rules, vounits_rules, starlink_rules}
use Rattle.label.specs.Lexical.{Numeral, Written, Factor, Part, Kind, quotient, Letters, TwoStars, Wrapped, Spaces}
use Rattle.label.specs.Fits as Fits
use Rattle.label.specs.Ogip as Ogip
use Rattle.label.specs.Cds as Cds
use Rattle.label.specs.Vounits as Vounits
use Rattle.label.specs.Starlink as Starlink
use Rattle.label.proofs.General.{SpellingBy, ExponentBy, Pad, TimesBy, OverBy, G, flat, WrappedBy, FactorBy, GapBy, LabelBy}
use Rattle.label.proofs.Joints.{opens}
use Rattle.label.proofs.Labels.{Starts, quotient_starts}

-- WHAT THE NOTATIONS SHARE

-- where no spaces pad, no label starts with one
unspaced_start : {r : Rules} {s : List ℕ} → r.spaces ≡ false → Starts r s → Ogip.Unspaced s
unspaced_start e (Starts.begun b) = let o = opens b in rw o.is (Ogip.unspaced o.opener.no_space)
unspaced_start e (Starts.slashed f Pad.none s) = Ogip.unspaced refl
unspaced_start e (Starts.slashed f (Pad.space g p) s) = absurd (rw e at g)

plain_label : {r : Rules} {s : List ℕ} {ps : List Part} → r.spaces ≡ false → G r quotient s [] ps → LabelBy r s Factor.no_factor ps
plain_label e d = LabelBy.plain (unspaced_start e (quotient_starts d)) d

wrapped_by : {r : Rules} {e : List ℕ} {n : Numeral} → T r.wrapped → Wrapped e n → WrappedBy r e n
wrapped_by f (Wrapped.bare i) = WrappedBy.bare i
wrapped_by f (Wrapped.bracketed i) = WrappedBy.bracketed f i

by_wrapped : {r : Rules} {e : List ℕ} {n : Numeral} → WrappedBy r e n → Wrapped e n
by_wrapped (WrappedBy.bare i) = Wrapped.bare i
by_wrapped (WrappedBy.bracketed f i) = Wrapped.bracketed i

starred_by : {r : Rules} {e : List ℕ} {w : Written} → T r.stars → TwoStars e w → ExponentBy r e w
starred_by f TwoStars.none = ExponentBy.none
starred_by f (TwoStars.raised p) = ExponentBy.stars f p

-- the rules have no other exponent
by_starred : {r : Rules} {e : List ℕ} {w : Written} → r.direct ≡ false → r.brackets ≡ false → r.caret ≡ false → ExponentBy r e w → TwoStars e w
by_starred d b c ExponentBy.none = TwoStars.none
by_starred d b c (ExponentBy.integer f i) = absurd (rw d at f)
by_starred d b c (ExponentBy.bracketed f i) = absurd (rw b at f)
by_starred d b c (ExponentBy.stars f p) = TwoStars.raised p
by_starred d b c (ExponentBy.caret f p) = absurd (rw c at f)

-- FITS

fits_exponent : {e : List ℕ} {w : Written} → Fits.Exponent e w → ExponentBy fits_rules e w
fits_exponent Fits.Exponent.none = ExponentBy.none
fits_exponent (Fits.Exponent.integer i) = ExponentBy.integer tt i
fits_exponent (Fits.Exponent.bracketed b) = ExponentBy.bracketed tt b
fits_exponent (Fits.Exponent.stars p) = ExponentBy.stars tt p
fits_exponent (Fits.Exponent.caret p) = ExponentBy.caret tt p

exponent_fits : {e : List ℕ} {w : Written} → ExponentBy fits_rules e w → Fits.Exponent e w
exponent_fits ExponentBy.none = Fits.Exponent.none
exponent_fits (ExponentBy.integer f i) = Fits.Exponent.integer i
exponent_fits (ExponentBy.bracketed f b) = Fits.Exponent.bracketed b
exponent_fits (ExponentBy.stars f p) = Fits.Exponent.stars p
exponent_fits (ExponentBy.caret f p) = Fits.Exponent.caret p

fits_joint : {c : ℕ} → Fits.Joiner c → TimesBy fits_rules (c ∷ [])
fits_joint Fits.Joiner.space = TimesBy.space tt Pad.none
fits_joint Fits.Joiner.star = TimesBy.star tt Pad.none Pad.none
fits_joint Fits.Joiner.point = TimesBy.point tt Pad.none Pad.none

fits_to : {x : Kind} {s t : List ℕ} {ps : List Part} → Fits.Fits x s t ps → G fits_rules x s t ps
fits_to (Fits.Fits.unit l e) = G.unit (SpellingBy.letters l) (fits_exponent e)
fits_to (Fits.Fits.first d m) = G.first (fits_to d) (fits_to m)
fits_to Fits.Fits.done = G.done
fits_to (Fits.Fits.times j d m) = G.times (fits_joint j) (fits_to d) (fits_to m)
fits_to (Fits.Fits.plain d) = G.plain (fits_to d)
fits_to (Fits.Fits.over d i) = G.divided tt (fits_to d) (fits_to i)
fits_to (Fits.Fits.group d) = G.group (fits_to d)

pub spelling_fits : {l : List ℕ} → SpellingBy fits_rules l → Letters l
spelling_fits (SpellingBy.letters d) = d
spelling_fits (SpellingBy.percent f) = absurd f
spelling_fits (SpellingBy.quoted f _) = absurd f

to_fits : {x : Kind} {s t : List ℕ} {ps : List Part} → G fits_rules x s t ps → Fits.Fits x s t ps
to_fits (G.unit l e) = Fits.Fits.unit (spelling_fits l) (exponent_fits e)
to_fits (G.group d) = Fits.Fits.group (to_fits d)
to_fits (G.first d m) = Fits.Fits.first (to_fits d) (to_fits m)
to_fits (G.under (OverBy.slashed f p q) d m) = absurd f
to_fits G.done = Fits.Fits.done
to_fits (G.times (TimesBy.space f Pad.none) d m) = Fits.Fits.times Fits.Joiner.space (to_fits d) (to_fits m)
to_fits (G.times (TimesBy.star f Pad.none Pad.none) d m) = Fits.Fits.times Fits.Joiner.star (to_fits d) (to_fits m)
to_fits (G.times (TimesBy.point f Pad.none Pad.none) d m) = Fits.Fits.times Fits.Joiner.point (to_fits d) (to_fits m)
to_fits (G.over (OverBy.slashed f p q) d m) = absurd f
to_fits (G.plain d) = Fits.Fits.plain (to_fits d)
to_fits (G.divided f d i) = Fits.Fits.over (to_fits d) (to_fits i)
to_fits (G.times (TimesBy.space _ (Pad.space f _)) _ _) = absurd f
to_fits (G.times (TimesBy.star _ Pad.none (Pad.space f _)) _ _) = absurd f
to_fits (G.times (TimesBy.star _ (Pad.space f _) _) _ _) = absurd f
to_fits (G.times (TimesBy.point _ Pad.none (Pad.space f _)) _ _) = absurd f
to_fits (G.times (TimesBy.point _ (Pad.space f _) _) _ _) = absurd f

fits_factor : {x : List ℕ} {f : Factor} → Fits.Tens x f → FactorBy fits_rules x f
fits_factor (Fits.Tens.stars w) = FactorBy.stars (wrapped_by tt w)
fits_factor (Fits.Tens.caret w) = FactorBy.caret tt (wrapped_by tt w)
fits_factor (Fits.Tens.signed i) = FactorBy.signed tt i

factor_fits : {x : List ℕ} {f : Factor} → FactorBy fits_rules x f → Fits.Tens x f
factor_fits (FactorBy.stars w) = Fits.Tens.stars (by_wrapped w)
factor_fits (FactorBy.caret f w) = Fits.Tens.caret (by_wrapped w)
factor_fits (FactorBy.signed f i) = Fits.Tens.signed i
factor_fits (FactorBy.plain f _) = absurd f

fits_gap : {g : List ℕ} → Fits.Gap g → GapBy fits_rules g
fits_gap Fits.Gap.nothing = GapBy.nothing
fits_gap Fits.Gap.space = GapBy.one tt

gap_fits : {g : List ℕ} → GapBy fits_rules g → Fits.Gap g
gap_fits GapBy.nothing = Fits.Gap.nothing
gap_fits (GapBy.one f) = Fits.Gap.space
gap_fits (GapBy.many f _) = absurd f

pub fits_label : {s : List ℕ} {f : Factor} {ps : List Part} → Fits.Label s f ps → LabelBy fits_rules s f ps
fits_label Fits.Label.empty = LabelBy.empty
fits_label (Fits.Label.plain d) = plain_label refl (fits_to d)
fits_label (Fits.Label.under d) = LabelBy.under tt (fits_to d)
fits_label (Fits.Label.factored x g d) = LabelBy.factored tt (fits_factor x) (fits_gap g) (fits_to d)

pub label_fits : {s : List ℕ} {f : Factor} {ps : List Part} → LabelBy fits_rules s f ps → Fits.Label s f ps
label_fits LabelBy.empty = Fits.Label.empty
label_fits (LabelBy.plain u d) = Fits.Label.plain (to_fits d)
label_fits (LabelBy.under f d) = Fits.Label.under (to_fits d)
label_fits (LabelBy.factored l x g d) = Fits.Label.factored (factor_fits x) (gap_fits g) (to_fits d)

-- OGIP

spaces_pad : {a : List ℕ} → Spaces a → Pad ogip_rules a
spaces_pad Spaces.none = Pad.none
spaces_pad (Spaces.space p) = Pad.space tt (spaces_pad p)

pad_spaces : {a : List ℕ} → Pad ogip_rules a → Spaces a
pad_spaces Pad.none = Spaces.none
pad_spaces (Pad.space f p) = Spaces.space (pad_spaces p)

ogip_times : {j : List ℕ} → Ogip.Times j → TimesBy ogip_rules j
ogip_times (Ogip.Times.spaces p) = TimesBy.space tt (spaces_pad p)
ogip_times (Ogip.Times.star p q) = TimesBy.star tt (spaces_pad p) (spaces_pad q)

times_ogip : {j : List ℕ} → TimesBy ogip_rules j → Ogip.Times j
times_ogip (TimesBy.space f p) = Ogip.Times.spaces (pad_spaces p)
times_ogip (TimesBy.star f p q) = Ogip.Times.star (pad_spaces p) (pad_spaces q)
times_ogip (TimesBy.point f _ _) = absurd f

ogip_over : {j : List ℕ} → Ogip.Over j → OverBy ogip_rules j
ogip_over (Ogip.Over.slashed p q) = OverBy.slashed tt (spaces_pad p) (spaces_pad q)

over_ogip : {j : List ℕ} → OverBy ogip_rules j → Ogip.Over j
over_ogip (OverBy.slashed f p q) = Ogip.Over.slashed (pad_spaces p) (pad_spaces q)

pub spelling_ogip : {l : List ℕ} → SpellingBy ogip_rules l → Letters l
spelling_ogip (SpellingBy.letters d) = d
spelling_ogip (SpellingBy.percent f) = absurd f
spelling_ogip (SpellingBy.quoted f _) = absurd f

ogip_to : {x : Kind} {s t : List ℕ} {ps : List Part} → Ogip.Ogip x s t ps → G ogip_rules x s t ps
ogip_to (Ogip.Ogip.unit l e) = G.unit (SpellingBy.letters l) (starred_by tt e)
ogip_to (Ogip.Ogip.first d m) = G.first (ogip_to d) (ogip_to m)
ogip_to Ogip.Ogip.done = G.done
ogip_to (Ogip.Ogip.times j d m) = G.times (ogip_times j) (ogip_to d) (ogip_to m)
ogip_to (Ogip.Ogip.over j d m) = G.over (ogip_over j) (ogip_to d) (ogip_to m)
ogip_to (Ogip.Ogip.under j d m) = G.under (ogip_over j) (ogip_to d) (ogip_to m)
ogip_to (Ogip.Ogip.group d) = G.group (ogip_to d)

to_ogip : {x : Kind} {s t : List ℕ} {ps : List Part} → G ogip_rules x s t ps → Ogip.Ogip (flat x) s t ps
to_ogip (G.unit l e) = Ogip.Ogip.unit (spelling_ogip l) (by_starred refl refl refl e)
to_ogip (G.group d) = Ogip.Ogip.group (to_ogip d)
to_ogip (G.first d m) = Ogip.Ogip.first (to_ogip d) (to_ogip m)
to_ogip (G.under j d m) = Ogip.Ogip.under (over_ogip j) (to_ogip d) (to_ogip m)
to_ogip G.done = Ogip.Ogip.done
to_ogip (G.times j d m) = Ogip.Ogip.times (times_ogip j) (to_ogip d) (to_ogip m)
to_ogip (G.over j d m) = Ogip.Ogip.over (over_ogip j) (to_ogip d) (to_ogip m)
to_ogip (G.plain d) = to_ogip d
to_ogip (G.divided f _ _) = absurd f

ogip_factor : {x : List ℕ} {f : Factor} → Ogip.Tens x f → FactorBy ogip_rules x f
ogip_factor (Ogip.Tens.stars w) = FactorBy.stars (wrapped_by tt w)
ogip_factor (Ogip.Tens.plain p) = FactorBy.plain tt p

factor_ogip : {x : List ℕ} {f : Factor} → FactorBy ogip_rules x f → Ogip.Tens x f
factor_ogip (FactorBy.stars w) = Ogip.Tens.stars (by_wrapped w)
factor_ogip (FactorBy.plain f p) = Ogip.Tens.plain p
factor_ogip (FactorBy.caret f _) = absurd f
factor_ogip (FactorBy.signed f _) = absurd f

gap_ogip : {g : List ℕ} → GapBy ogip_rules g → Spaces g
gap_ogip GapBy.nothing = Spaces.none
gap_ogip (GapBy.one f) = Spaces.space Spaces.none
gap_ogip (GapBy.many f p) = p

pub ogip_label : {s : List ℕ} {f : Factor} {ps : List Part} → Ogip.Label s f ps → LabelBy ogip_rules s f ps
ogip_label Ogip.Label.empty = LabelBy.empty
ogip_label (Ogip.Label.plain u d) = LabelBy.plain u (G.plain (ogip_to d))
ogip_label (Ogip.Label.factored x g d) = LabelBy.factored tt (ogip_factor x) (GapBy.many tt g) (G.plain (ogip_to d))

pub label_ogip : {s : List ℕ} {f : Factor} {ps : List Part} → LabelBy ogip_rules s f ps → Ogip.Label s f ps
label_ogip LabelBy.empty = Ogip.Label.empty
label_ogip (LabelBy.plain u d) = Ogip.Label.plain u (to_ogip d)
label_ogip (LabelBy.factored l x g d) = Ogip.Label.factored (factor_ogip x) (gap_ogip g) (to_ogip d)
label_ogip (LabelBy.under f _) = absurd f

-- CDS

cds_exponent : {e : List ℕ} {w : Written} → Cds.Exponent e w → ExponentBy cds_rules e w
cds_exponent Cds.Exponent.none = ExponentBy.none
cds_exponent (Cds.Exponent.integer i) = ExponentBy.integer tt i

exponent_cds : {e : List ℕ} {w : Written} → ExponentBy cds_rules e w → Cds.Exponent e w
exponent_cds ExponentBy.none = Cds.Exponent.none
exponent_cds (ExponentBy.integer f i) = Cds.Exponent.integer i
exponent_cds (ExponentBy.bracketed f _) = absurd f
exponent_cds (ExponentBy.stars f _) = absurd f
exponent_cds (ExponentBy.caret f _) = absurd f

pub cds_spelling : {l : List ℕ} → Cds.Spelling l → SpellingBy cds_rules l
cds_spelling (Cds.Spelling.letters d) = SpellingBy.letters d
cds_spelling Cds.Spelling.percent = SpellingBy.percent tt

pub spelling_cds : {l : List ℕ} → SpellingBy cds_rules l → Cds.Spelling l
spelling_cds (SpellingBy.letters d) = Cds.Spelling.letters d
spelling_cds (SpellingBy.percent f) = Cds.Spelling.percent
spelling_cds (SpellingBy.quoted f _) = absurd f

cds_to : {x : Kind} {s t : List ℕ} {ps : List Part} → Cds.Cds x s t ps → G cds_rules x s t ps
cds_to (Cds.Cds.unit l e) = G.unit (cds_spelling l) (cds_exponent e)
cds_to (Cds.Cds.first d m) = G.first (cds_to d) (cds_to m)
cds_to Cds.Cds.done = G.done
cds_to (Cds.Cds.times d m) = G.times (TimesBy.point tt Pad.none Pad.none) (cds_to d) (cds_to m)
cds_to (Cds.Cds.over d m) = G.over (OverBy.slashed tt Pad.none Pad.none) (cds_to d) (cds_to m)
cds_to (Cds.Cds.under d m) = G.under (OverBy.slashed tt Pad.none Pad.none) (cds_to d) (cds_to m)
cds_to (Cds.Cds.group d) = G.group (cds_to d)

to_cds : {x : Kind} {s t : List ℕ} {ps : List Part} → G cds_rules x s t ps → Cds.Cds (flat x) s t ps
to_cds (G.unit l e) = Cds.Cds.unit (spelling_cds l) (exponent_cds e)
to_cds (G.group d) = Cds.Cds.group (to_cds d)
to_cds (G.first d m) = Cds.Cds.first (to_cds d) (to_cds m)
to_cds (G.under (OverBy.slashed f Pad.none Pad.none) d m) = Cds.Cds.under (to_cds d) (to_cds m)
to_cds G.done = Cds.Cds.done
to_cds (G.times (TimesBy.point f Pad.none Pad.none) d m) = Cds.Cds.times (to_cds d) (to_cds m)
to_cds (G.over (OverBy.slashed f Pad.none Pad.none) d m) = Cds.Cds.over (to_cds d) (to_cds m)
to_cds (G.plain d) = to_cds d
to_cds (G.under (OverBy.slashed _ Pad.none (Pad.space f _)) _ _) = absurd f
to_cds (G.under (OverBy.slashed _ (Pad.space f _) _) _ _) = absurd f
to_cds (G.times (TimesBy.space f _) _ _) = absurd f
to_cds (G.times (TimesBy.star f _ _) _ _) = absurd f
to_cds (G.times (TimesBy.point _ Pad.none (Pad.space f _)) _ _) = absurd f
to_cds (G.times (TimesBy.point _ (Pad.space f _) _) _ _) = absurd f
to_cds (G.over (OverBy.slashed _ Pad.none (Pad.space f _)) _ _) = absurd f
to_cds (G.over (OverBy.slashed _ (Pad.space f _) _) _ _) = absurd f
to_cds (G.divided f _ _) = absurd f

cds_factor : {x : List ℕ} {f : Factor} → Cds.Tens x f → FactorBy cds_rules x f
cds_factor (Cds.Tens.stars i) = FactorBy.stars (WrappedBy.bare i)
cds_factor (Cds.Tens.plain p) = FactorBy.plain tt p
cds_factor (Cds.Tens.signed i) = FactorBy.signed tt i

factor_cds : {x : List ℕ} {f : Factor} → FactorBy cds_rules x f → Cds.Tens x f
factor_cds (FactorBy.stars (WrappedBy.bare i)) = Cds.Tens.stars i
factor_cds (FactorBy.signed f i) = Cds.Tens.signed i
factor_cds (FactorBy.plain f p) = Cds.Tens.plain p
factor_cds (FactorBy.stars (WrappedBy.bracketed f _)) = absurd f
factor_cds (FactorBy.caret f _) = absurd f

pub cds_label : {s : List ℕ} {f : Factor} {ps : List Part} → Cds.Label s f ps → LabelBy cds_rules s f ps
cds_label Cds.Label.empty = LabelBy.empty
cds_label (Cds.Label.plain d) = plain_label refl (G.plain (cds_to d))
cds_label (Cds.Label.factored x d) = LabelBy.factored tt (cds_factor x) GapBy.nothing (G.plain (cds_to d))

pub label_cds : {s : List ℕ} {f : Factor} {ps : List Part} → LabelBy cds_rules s f ps → Cds.Label s f ps
label_cds LabelBy.empty = Cds.Label.empty
label_cds (LabelBy.plain u d) = Cds.Label.plain (to_cds d)
label_cds (LabelBy.factored l x GapBy.nothing d) = Cds.Label.factored (factor_cds x) (to_cds d)
label_cds (LabelBy.under f _) = absurd f
label_cds (LabelBy.factored _ _ (GapBy.one f) _) = absurd f
label_cds (LabelBy.factored _ _ (GapBy.many f _) _) = absurd f

-- VOUNITS

pub vounits_spelling : {l : List ℕ} → Vounits.Spelling l → SpellingBy vounits_rules l
vounits_spelling (Vounits.Spelling.letters d) = SpellingBy.letters d
vounits_spelling (Vounits.Spelling.quoted d) = SpellingBy.quoted tt d

pub spelling_vounits : {l : List ℕ} → SpellingBy vounits_rules l → Vounits.Spelling l
spelling_vounits (SpellingBy.letters d) = Vounits.Spelling.letters d
spelling_vounits (SpellingBy.quoted f d) = Vounits.Spelling.quoted d
spelling_vounits (SpellingBy.percent f) = absurd f

vounits_to : {x : Kind} {s t : List ℕ} {ps : List Part} → Vounits.Vounits x s t ps → G vounits_rules x s t ps
vounits_to (Vounits.Vounits.unit l e) = G.unit (vounits_spelling l) (starred_by tt e)
vounits_to (Vounits.Vounits.first d m) = G.first (vounits_to d) (vounits_to m)
vounits_to Vounits.Vounits.done = G.done
vounits_to (Vounits.Vounits.times d m) = G.times (TimesBy.point tt Pad.none Pad.none) (vounits_to d) (vounits_to m)
vounits_to (Vounits.Vounits.plain d) = G.plain (vounits_to d)
vounits_to (Vounits.Vounits.over d i) = G.divided tt (vounits_to d) (vounits_to i)
vounits_to (Vounits.Vounits.group d) = G.group (vounits_to d)

to_vounits : {x : Kind} {s t : List ℕ} {ps : List Part} → G vounits_rules x s t ps → Vounits.Vounits x s t ps
to_vounits (G.unit l e) = Vounits.Vounits.unit (spelling_vounits l) (by_starred refl refl refl e)
to_vounits (G.group d) = Vounits.Vounits.group (to_vounits d)
to_vounits (G.first d m) = Vounits.Vounits.first (to_vounits d) (to_vounits m)
to_vounits (G.under (OverBy.slashed f p q) d m) = absurd f
to_vounits G.done = Vounits.Vounits.done
to_vounits (G.times (TimesBy.point f Pad.none Pad.none) d m) = Vounits.Vounits.times (to_vounits d) (to_vounits m)
to_vounits (G.over (OverBy.slashed f p q) d m) = absurd f
to_vounits (G.plain d) = Vounits.Vounits.plain (to_vounits d)
to_vounits (G.divided f d i) = Vounits.Vounits.over (to_vounits d) (to_vounits i)
to_vounits (G.times (TimesBy.space f _) _ _) = absurd f
to_vounits (G.times (TimesBy.star f _ _) _ _) = absurd f
to_vounits (G.times (TimesBy.point _ Pad.none (Pad.space f _)) _ _) = absurd f
to_vounits (G.times (TimesBy.point _ (Pad.space f _) _) _ _) = absurd f

vounits_factor : {x : List ℕ} {f : Factor} → Vounits.Tens x f → FactorBy vounits_rules x f
vounits_factor (Vounits.Tens.stars w) = FactorBy.stars (wrapped_by tt w)
vounits_factor (Vounits.Tens.plain p) = FactorBy.plain tt p

factor_vounits : {x : List ℕ} {f : Factor} → FactorBy vounits_rules x f → Vounits.Tens x f
factor_vounits (FactorBy.stars w) = Vounits.Tens.stars (by_wrapped w)
factor_vounits (FactorBy.plain f p) = Vounits.Tens.plain p
factor_vounits (FactorBy.caret f _) = absurd f
factor_vounits (FactorBy.signed f _) = absurd f

pub vounits_label : {s : List ℕ} {f : Factor} {ps : List Part} → Vounits.Label s f ps → LabelBy vounits_rules s f ps
vounits_label Vounits.Label.empty = LabelBy.empty
vounits_label (Vounits.Label.plain d) = plain_label refl (vounits_to d)
vounits_label (Vounits.Label.factored x d) = LabelBy.factored tt (vounits_factor x) GapBy.nothing (vounits_to d)

pub label_vounits : {s : List ℕ} {f : Factor} {ps : List Part} → LabelBy vounits_rules s f ps → Vounits.Label s f ps
label_vounits LabelBy.empty = Vounits.Label.empty
label_vounits (LabelBy.plain u d) = Vounits.Label.plain (to_vounits d)
label_vounits (LabelBy.factored l x GapBy.nothing d) = Vounits.Label.factored (factor_vounits x) (to_vounits d)
label_vounits (LabelBy.under f _) = absurd f
label_vounits (LabelBy.factored _ _ (GapBy.one f) _) = absurd f
label_vounits (LabelBy.factored _ _ (GapBy.many f _) _) = absurd f

-- STARLINK

starlink_to : {x : Kind} {s t : List ℕ} {ps : List Part} → Starlink.Starlink x s t ps → G starlink_rules x s t ps
starlink_to (Starlink.Starlink.first d m) = G.first (starlink_to d) (starlink_to m)
starlink_to Starlink.Starlink.done = G.done
starlink_to (Starlink.Starlink.times d m) = G.times (TimesBy.star tt Pad.none Pad.none) (starlink_to d) (starlink_to m)
starlink_to (Starlink.Starlink.unit l e) = G.unit (SpellingBy.letters l) (starred_by tt e)
starlink_to (Starlink.Starlink.plain d) = G.plain (starlink_to d)
starlink_to (Starlink.Starlink.over d i) = G.divided tt (starlink_to d) (starlink_to i)
starlink_to (Starlink.Starlink.group d) = G.group (starlink_to d)

pub spelling_starlink : {l : List ℕ} → SpellingBy starlink_rules l → Letters l
spelling_starlink (SpellingBy.letters d) = d
spelling_starlink (SpellingBy.percent f) = absurd f
spelling_starlink (SpellingBy.quoted f _) = absurd f

to_starlink : {x : Kind} {s t : List ℕ} {ps : List Part} → G starlink_rules x s t ps → Starlink.Starlink x s t ps
to_starlink (G.unit l e) = Starlink.Starlink.unit (spelling_starlink l) (by_starred refl refl refl e)
to_starlink (G.group d) = Starlink.Starlink.group (to_starlink d)
to_starlink (G.first d m) = Starlink.Starlink.first (to_starlink d) (to_starlink m)
to_starlink (G.under (OverBy.slashed f p q) d m) = absurd f
to_starlink G.done = Starlink.Starlink.done
to_starlink (G.times (TimesBy.star f Pad.none Pad.none) d m) = Starlink.Starlink.times (to_starlink d) (to_starlink m)
to_starlink (G.over (OverBy.slashed f p q) d m) = absurd f
to_starlink (G.plain d) = Starlink.Starlink.plain (to_starlink d)
to_starlink (G.divided f d i) = Starlink.Starlink.over (to_starlink d) (to_starlink i)
to_starlink (G.times (TimesBy.space f _) _ _) = absurd f
to_starlink (G.times (TimesBy.star _ Pad.none (Pad.space f _)) _ _) = absurd f
to_starlink (G.times (TimesBy.star _ (Pad.space f _) _) _ _) = absurd f
to_starlink (G.times (TimesBy.point f _ _) _ _) = absurd f

pub starlink_label : {s : List ℕ} {f : Factor} {ps : List Part} → Starlink.Label s f ps → LabelBy starlink_rules s f ps
starlink_label Starlink.Label.empty = LabelBy.empty
starlink_label (Starlink.Label.plain d) = plain_label refl (starlink_to d)

pub label_starlink : {s : List ℕ} {f : Factor} {ps : List Part} → LabelBy starlink_rules s f ps → Starlink.Label s f ps
label_starlink LabelBy.empty = Starlink.Label.empty
label_starlink (LabelBy.plain u d) = Starlink.Label.plain (to_starlink d)
label_starlink (LabelBy.under f _) = absurd f
label_starlink (LabelBy.factored f _ _ _) = absurd f
