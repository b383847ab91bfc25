-- What is proved of each notation by itself: one record, and one value of it for each notation. All else is proved from the record.
use Prim.Native.Nat.{ℕ}
use mathlib.Core.Path.{◌≡◌, refl, sym, ◌∙◌}
use mathlib.Core.Bool.{Bool, true, false, ◌||◌, not}
use mathlib.Core.List.{List, [], ◌∷◌, map}
use mathlib.Core.Option.{Option, some}
use lib.Dec.{T, eqb}
use borrow.Author.Tests.{eqb-true}
use Rattle.label.specs.declared.Rules.{Rules}
use Rattle.label.specs.Bytes.{bytes, point, star, admitted, all}
use Rattle.label.specs.Notations.{Notations, member, everywhere, fractionless, factorless, notation}
use Rattle.label.specs.Rows.{fits_rules, ogip_rules, cds_rules, vounits_rules, starlink_rules, ruled, rules_of, Row, value_among, Style, fits_style, ogip_style, cds_style, vounits_style, starlink_style, styled, style_of}
use Rattle.label.specs.Lexical.{Factor, Part, Power}
use Rattle.label.specs.Grammar.{Derives, Spelling}
use Rattle.label.proofs.Basics.{false_true, none_some}
use Rattle.label.proofs.General.{Pad, TimesBy, ExponentBy, WrappedBy, FactorBy, GapBy, SpellingBy, LabelBy}
use Rattle.label.proofs.Labels.{Coherent}
use Rattle.label.proofs.Instances.{fits_label, label_fits, spelling_fits, ogip_label, label_ogip, spelling_ogip, cds_label, label_cds, cds_spelling, spelling_cds, vounits_label, label_vounits, vounits_spelling, spelling_vounits, starlink_label, label_starlink, spelling_starlink}
use Rattle.label.proofs.Texts.{quiet}
use Rattle.label.proofs.Styles.{Suits, integer_by, signed_by}

-- notation n has the rules r and the style y in the tables, and they are what documents 01 and 02 say of single notations
pub record Listed (n : ℕ) (r : Rules) (y : Style) : Type 0 where
  pub is_notation : notation n ≡ true
  pub rules : rules_of n ≡ some r
  pub styled : style_of n ≡ some y
  pub coherent : Coherent r
  pub percent : r.percent ≡ eqb n 3
  pub raised : (r.brackets || (r.stars || r.caret)) ≡ not (member n fractionless)
  pub fractions : y.fractions ≡ not (member n fractionless)
  pub factors : y.factors ≡ not (member n factorless)

-- notation n has the rules r
pub record RuledBy (n : ℕ) (r : Rules) : Type 0 where
  -- its own grammar and spellings are those by its rules
  pub derives : {s : List ℕ} {f : Factor} {ps : List Part} → LabelBy r s f ps → Derives n s f ps
  pub spells : {l : List ℕ} → SpellingBy r l → Spelling n l
  -- its rows in the tables, and what the rules and the style have to do with each other
  pub style : Style
  pub listed : Listed n r style
  pub suits : Suits style r

-- THE NOTATIONS

point_alone : {r : Rules} → T r.point → TimesBy r (point ∷ [])
point_alone e = TimesBy.point e Pad.none Pad.none

star_alone : {r : Rules} → T r.star → TimesBy r (star ∷ [])
star_alone e = TimesBy.star e Pad.none Pad.none

-- where no factor has a form, none needs to be read
no_factor_by : {r : Rules} {x : List ℕ} {f : Factor} → false ≡ true → FactorBy r x f
no_factor_by e = absurd (false_true e)

-- the forms in which a style writes, and what is computed of it
ruleset forms = (
  tt,
  false_true,
  TimesBy.space,
  point_alone,
  star_alone,
  Pad.none,
  ExponentBy.integer,
  ExponentBy.bracketed,
  ExponentBy.stars,
  Power.integer,
  Power.bracketed,
  FactorBy.stars,
  FactorBy.signed,
  no_factor_by,
  WrappedBy.bare,
  integer_by,
  signed_by,
  GapBy.nothing,
  GapBy.one,
)

fits_ruled : RuledBy 1 fits_rules
unfolding bytes all quiet admitted member notation value_among rules_of ruled style_of styled
fits_ruled = record {
  derives = λ d. Derives.fits (label_fits d);
  spells = λ d. Spelling.fits (spelling_fits d);
  style = fits_style;
  listed = search sym;
  suits = search forms;
}

ogip_ruled : RuledBy 2 ogip_rules
unfolding bytes all quiet admitted member notation value_among rules_of ruled style_of styled
ogip_ruled = record {
  derives = λ d. Derives.ogip (label_ogip d);
  spells = λ d. Spelling.ogip (spelling_ogip d);
  style = ogip_style;
  listed = search;
  suits = search forms;
}

cds_ruled : RuledBy 3 cds_rules
unfolding bytes all quiet admitted member notation value_among rules_of ruled style_of styled
cds_ruled = record {
  derives = λ d. Derives.cds (label_cds d);
  spells = λ d. Spelling.cds (spelling_cds d);
  style = cds_style;
  listed = search;
  suits = search forms;
}

vounits_ruled : RuledBy 4 vounits_rules
unfolding bytes all quiet admitted member notation value_among rules_of ruled style_of styled
vounits_ruled = record {
  derives = λ d. Derives.vounits (label_vounits d);
  spells = λ d. Spelling.vounits (spelling_vounits d);
  style = vounits_style;
  listed = search;
  suits = search forms;
}

starlink_ruled : RuledBy 5 starlink_rules
unfolding bytes all quiet admitted member notation value_among rules_of ruled style_of styled
starlink_ruled = record {
  derives = λ d. Derives.starlink (label_starlink d);
  spells = λ d. Spelling.starlink (spelling_starlink d);
  style = starlink_style;
  listed = search;
  suits = search forms;
}

-- a notation's derivations are those of the general grammar by its rules
pub derives_by : {n : ℕ} {s : List ℕ} {f : Factor} {ps : List Part} → Derives n s f ps → (r : Rules) × RuledBy n r × LabelBy r s f ps
derives_by (Derives.fits d) = (fits_rules, fits_ruled, fits_label d)
derives_by (Derives.ogip d) = (ogip_rules, ogip_ruled, ogip_label d)
derives_by (Derives.cds d) = (cds_rules, cds_ruled, cds_label d)
derives_by (Derives.vounits d) = (vounits_rules, vounits_ruled, vounits_label d)
derives_by (Derives.starlink d) = (starlink_rules, starlink_ruled, starlink_label d)

spelling_by : {n : ℕ} {l : List ℕ} → Spelling n l → (r : Rules) × RuledBy n r × SpellingBy r l
spelling_by (Spelling.fits d) = (fits_rules, fits_ruled, SpellingBy.letters d)
spelling_by (Spelling.ogip d) = (ogip_rules, ogip_ruled, SpellingBy.letters d)
spelling_by (Spelling.cds d) = (cds_rules, cds_ruled, cds_spelling d)
spelling_by (Spelling.vounits d) = (vounits_rules, vounits_ruled, vounits_spelling d)
spelling_by (Spelling.starlink d) = (starlink_rules, starlink_ruled, SpellingBy.letters d)

-- a notation has no other rules
rules_once : {n : ℕ} {r q : Rules} → RuledBy n r → rules_of n ≡ some q → r ≡ q
rules_once {r = r} {q = q} o h = let e : some r ≡ some q = sym o.listed.rules ∙ h in cc

pub spelled_by : {n : ℕ} {r : Rules} {l : List ℕ} → RuledBy n r → Spelling n l → SpellingBy r l
spelled_by o d = let w = spelling_by d in rw (rules_once w.1 o.listed.rules) at w.2

-- the notations' rules, in the order of their numbers
data AllRuled : Notations → Type 0 where
  done : AllRuled []
  also : {n : ℕ} {r : Rules} {ns : Notations} → RuledBy n r → AllRuled ns → AllRuled (n ∷ ns)

all_ruled : AllRuled everywhere
all_ruled = AllRuled.also fits_ruled (AllRuled.also ogip_ruled (AllRuled.also cds_ruled (AllRuled.also vounits_ruled (AllRuled.also starlink_ruled AllRuled.done))))

-- FROM A NUMBER TO ITS NOTATION

member_ruled : {ns : Notations} → AllRuled ns → (n : ℕ) → member n ns ≡ true → (r : Rules) × RuledBy n r
unfolding member
member_ruled AllRuled.done n h = absurd (false_true h)
member_ruled (AllRuled.also {n = m} {r = r} {ns = ns} o os) n h = go (eqb n m) refl (λ h. member_ruled os n h) h
  where
    go : (b : Bool) → eqb n m ≡ b → (member n ns ≡ true → (r : Rules) × RuledBy n r) → (b || member n ns) ≡ true → (r : Rules) × RuledBy n r
    go true e ih h = (r, rw (eqb-true n m e) o)
    go false e ih h = ih h

pub notation_ruled : (n : ℕ) → notation n ≡ true → (r : Rules) × RuledBy n r
unfolding notation
notation_ruled n h = member_ruled all_ruled n h

-- a number with a row in a table of all notations is that of a notation
value_member : {A : Type 0} (n : ℕ) (a : A) (xs : List (Row A)) → value_among n xs ≡ some a → member n (map (λ (x : Row A). x.number) xs) ≡ true
unfolding value_among member
value_member n a [] h = absurd (none_some h)
value_member {A} n a (x ∷ xs) h = go (eqb n x.number) (λ h. value_member n a xs h) h
  where
    go : (b : Bool) → (value_among n xs ≡ some a → member n (map (λ (x : Row A). x.number) xs) ≡ true)
        → elim b as (λ (z : Bool). Option A) [ true ↦ some x.value | false ↦ value_among n xs ] ≡ some a → (b || member n (map (λ (x : Row A). x.number) xs)) ≡ true
    go true ih h = refl
    go false ih h = ih h

rules_notation : (n : ℕ) (r : Rules) → rules_of n ≡ some r → notation n ≡ true
unfolding rules_of ruled notation
rules_notation n r h = value_member n r ruled h

pub rules_ruled : (n : ℕ) (r : Rules) → rules_of n ≡ some r → RuledBy n r
rules_ruled n r h = let w = notation_ruled n (rules_notation n r h) in rw (rules_once w.1 h) at w.1

style_notation : (n : ℕ) (y : Style) → style_of n ≡ some y → notation n ≡ true
unfolding style_of styled notation
style_notation n y h = value_member n y styled h

-- the rules and the style of one notation
pub record Suited (m : ℕ) (y : Style) : Type 0 where
  pub rules : Rules
  pub ruled : RuledBy m rules
  pub suits : Suits y rules
  pub fractions : y.fractions ≡ not (member m fractionless)
  pub factors : y.factors ≡ not (member m factorless)

abbrev pub ruled_suited : {m : ℕ} {r : Rules} (o : RuledBy m r) → Suited m o.style
ruled_suited {r = r} o = record { rules = r; ruled = o; suits = o.suits; fractions = o.listed.fractions; factors = o.listed.factors }

pub suited : (m : ℕ) (y : Style) → style_of m ≡ some y → Suited m y
suited m y h =
    let w = notation_ruled m (style_notation m y h) in
    let e : some w.1.style ≡ some y = sym w.1.listed.styled ∙ h in
    let q : w.1.style ≡ y = cc in
    rw q at (ruled_suited w.1)
