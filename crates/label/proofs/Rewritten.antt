-- A written text is a label of its notation, and its values are those that it was written for.
use Prim.Native.Nat.{ℕ, suc, ◌-◌, ◌≤◌}
use native.Mathlib.Omega.{arith}
use mathlib.Core.Path.{◌≡◌, refl, sym, ap, ◌∙◌}
use mathlib.Core.Bool.{Bool, true, false}
use mathlib.Core.List.{List, [], ◌∷◌, ◌++◌, map, append_assoc}
use mathlib.Core.Option.{Option, none, some}
use lib.Dec.{T, eqb}
use lib.IntN.{ℤ, pos, negsuc, nat_abs}
use lib.ListN.{length, take, drop}
use lib.Seq.{drop_at}
use borrow.Author.Tests.{eqb-true, eqb-false, le-leb}
use Rattle.label.specs.declared.Rules.{Rules}
use Rattle.label.specs.declared.Tens.{Tens}
use Rattle.label.specs.Bytes.{admitted, all}
use Rattle.label.specs.Choice.{pick}
use Rattle.label.specs.Symbols.{Symbol, known, unknown, symbol}
use Rattle.label.specs.Units.{unit_at}
use Rattle.label.specs.Ogip.{Unspaced, unspaced}
use Rattle.label.specs.Lexical.{Factor, no_factor, ten_to, Part, part, item, more, quotient}
use Rattle.label.specs.Limits.{negative, exponent_of, k_of, most_bytes, most_terms, largest_k}
use Rattle.label.specs.Split.{Placed, valued_unit, valued_units, valued_with, valued}
use Rattle.label.specs.Reading.{term, Reading, reading_of, accept, unless, check_counts, check_values, check_grammar, checked, answered, reading}
use Rattle.label.specs.Agreement.{Raised, raised_term}
use Rattle.label.specs.Letters.{prefix_letters}
use Rattle.label.specs.Writing.{sign_text, figures, tens_text, factor_text, exponent_text, name_in, named_text, symbol_text, own_letters, writable, written_reading, Writable, both_texts, unit_text, more_text, label_text, written_by, written}
use Rattle.label.specs.Rows.{Style, style_of}
use Rattle.label.proofs.Basics.{none_some, T→true, true→T}
use Rattle.label.proofs.General.{G, LabelBy}
use Rattle.label.proofs.Joints.{opens}
use Rattle.label.proofs.Complete.{item_begins}
use Rattle.label.proofs.Ruled.{RuledBy, suited}
use Rattle.label.proofs.Derivations.{derived_parsed}
use Rattle.label.proofs.Places.{Located, AllLocated, label_located, located_there}
use Rattle.label.proofs.Figures.{Digited, figures_of, signed_size}
use Rattle.label.proofs.Texts.{quiet, unsigned_quiet, spelling_quiet, Fine, fine_quiet, fine_append, fine_deepest}
use Rattle.label.proofs.Styles.{Suits}
use Rattle.label.proofs.Spelled.{PowerRead, WithinBounds, exponent_read, SpellingRead, name_named, NamedText, named_parts, symbol_read}
use Rattle.label.proofs.Owned.{Sourced}

-- TWO TEXTS

pub record BothTexts (a b : Option (List ℕ)) (t : List ℕ) : Type 0 where
  pub one : List ℕ
  pub two : List ℕ
  pub first : a ≡ some one
  pub second : b ≡ some two
  pub is : one ++ two ≡ t

pub both_of : (a b : Option (List ℕ)) (t : List ℕ) → both_texts a b ≡ some t → BothTexts a b t
unfolding both_texts
both_of none b t h = absurd (none_some h)
both_of (some s) none t h = absurd (none_some h)
both_of (some s) (some u) t h = record { one = s; two = u; first = refl; second = refl; is = (cc) }

-- UNITS

-- a unit of an accepted label: its exponent keeps the bounds, and its letters are those of its name
pub record ReadyToWrite (w : Writable) : Type 0 where
  pub within : WithinBounds w.exponent
  pub sourced : Sourced w.own w.symbol

-- a text that is read as the unit w
record UnitRead (y : Style) (m : ℕ) (r : Rules) (w : Writable) (t : List ℕ) : Type 0 where
  spelling : List ℕ
  raised : List ℕ
  spelled : SpellingRead m r w.symbol spelling
  power : PowerRead r w.exponent raised
  is : spelling ++ raised ≡ t
  text : symbol_text y m w.own w.symbol ≡ some spelling

unit_read : {y : Style} {r : Rules} {m : ℕ} → Suits y r → RuledBy m r → (w : Writable) → ReadyToWrite w → (t : List ℕ) → unit_text y m w ≡ some t → UnitRead y m r w t
unfolding unit_text
unit_read {y} {m = m} v o w i t h =
    let d = both_of (symbol_text y m w.own w.symbol) (exponent_text y w.exponent) t h in
    record {
      spelling = d.one;
      raised = d.two;
      spelled = symbol_read v o d.one i.sourced d.first;
      power = exponent_read v w.exponent i.within d.two d.second;
      is = d.is;
      text = d.first;
    }

-- the parts ps are read as the units ws
pub data UnitsRead (y : Style) (m : ℕ) : List Part → List Writable → Type 0 where
  nothing : UnitsRead y m [] []
  next : {p : Part} {ps : List Part} {w : Writable} {ws : List Writable} → symbol m p.spelling ≡ w.symbol → exponent_of p.turned p.power ≡ some w.exponent
      → symbol_text y m w.own w.symbol ≡ some p.spelling → UnitsRead y m ps ws → UnitsRead y m (p ∷ ps) (w ∷ ws)

pub data AllReady : List Writable → Type 0 where
  done : AllReady []
  also : {w : Writable} {ws : List Writable} → ReadyToWrite w → AllReady ws → AllReady (w ∷ ws)

-- what follows the first unit
record MoreRead (y : Style) (m : ℕ) (r : Rules) (ws : List Writable) (t : List ℕ) : Type 0 where
  parts : List Part
  derived : G r more t [] parts
  answers : UnitsRead y m parts ws
  fine : Fine t

-- an item and what follows it
item_derived : {y : Style} {m : ℕ} {r : Rules} {w : Writable} {s : List ℕ} → (d : UnitRead y m r w s) → (t : List ℕ) → G r item (s ++ t) t (part d.spelling d.power.power (d.raised ++ t) ∷ [])
item_derived d t = rw (← d.is, append_assoc d.spelling d.raised t) (G.unit d.spelled.derived d.power.derived)

unit_fine : {y : Style} {m : ℕ} {r : Rules} {w : Writable} {s : List ℕ} → UnitRead y m r w s → Fine s
unit_fine d = rw (← d.is) (fine_append (fine_quiet d.spelling (spelling_quiet d.spelled.derived)) d.power.fine)

unit_answers : {y : Style} {m : ℕ} {r : Rules} {w : Writable} {s : List ℕ} {ps : List Part} {ws : List Writable} → (d : UnitRead y m r w s) → (t : List ℕ) → UnitsRead y m ps ws
    → UnitsRead y m (part d.spelling d.power.power t ∷ ps) (w ∷ ws)
unit_answers d t a = UnitsRead.next d.spelled.is d.power.value d.text a

-- a unit after what joins it
joined : {y : Style} {r : Rules} {m : ℕ} {w : Writable} {ws : List Writable} {s t : List ℕ} → Suits y r → UnitRead y m r w s → MoreRead y m r ws t → MoreRead y m r (w ∷ ws) (y.joint ++ (s ++ t))
unfolding all
joined {y} {r} {m} {w} {ws} {s} {t} v u x = record {
  parts = part u.spelling u.power.power (u.raised ++ t) ∷ x.parts;
  derived = G.times {ps = part u.spelling u.power.power (u.raised ++ t) ∷ []} v.joint (item_derived u t) x.derived;
  answers = unit_answers u (u.raised ++ t) x.answers;
  fine = fine_append (fine_quiet y.joint v.agrees.quiet_joint) (fine_append (unit_fine u) x.fine);
}

more_read : {y : Style} {r : Rules} {m : ℕ} → Suits y r → RuledBy m r → {ws : List Writable} → AllReady ws → (t : List ℕ) → more_text y m ws ≡ some t → MoreRead y m r ws t
unfolding more_text all
more_read v o AllReady.done t h =
    let e : [] ≡ t = cc in
    rw (← e) (record { parts = []; derived = G.done; answers = UnitsRead.nothing; fine = fine_quiet [] tt })
more_read {y} {m = m} v o (AllReady.also {w = w} {ws = ws} i is) t h =
    let b = both_of (some y.joint) (both_texts (unit_text y m w) (more_text y m ws)) t h in
    let c = both_of (unit_text y m w) (more_text y m ws) b.two b.second in
    let e : y.joint ≡ b.one = cc in
    rw (← b.is, ← e, ← c.is) (joined v (unit_read v o w i c.one c.first) (more_read v o is c.two c.second))

-- LABELS

-- a text that is read as the units ws with the power k of ten
pub record LabelReadBack (y : Style) (m : ℕ) (r : Rules) (k : Tens) (ws : List Writable) (t : List ℕ) : Type 0 where
  pub factor : Factor
  pub parts : List Part
  pub derived : LabelBy r t factor parts
  pub answers : UnitsRead y m parts ws
  pub power : k_of factor ≡ some k
  pub fine : Fine t

product_derived : {y : Style} {m : ℕ} {r : Rules} {w : Writable} {ws : List Writable} {s t : List ℕ} → (u : UnitRead y m r w s) → (x : MoreRead y m r ws t)
    → G r quotient (s ++ t) [] (part u.spelling u.power.power (u.raised ++ t) ∷ x.parts)
product_derived {t = t} u x = G.plain (G.first {ps = part u.spelling u.power.power (u.raised ++ t) ∷ []} (item_derived u t) x.derived)

-- without a factor
plain_label : {y : Style} {m : ℕ} {r : Rules} {w : Writable} {ws : List Writable} {s t : List ℕ} (k : Tens) → k ≡ record { 0 = pos 0 } → UnitRead y m r w s → MoreRead y m r ws t
    → LabelReadBack y m r k (w ∷ ws) (s ++ t)
unfolding k_of
plain_label {s = s} {t = t} k e u x = record {
  factor = no_factor;
  parts = part u.spelling u.power.power (u.raised ++ t) ∷ x.parts;
  derived = LabelBy.plain (begun (item_derived u t)) (product_derived u x);
  answers = unit_answers u (u.raised ++ t) x.answers;
  power = ap (λ (z : Tens). some z) (sym e);
  fine = fine_append (unit_fine u) x.fine;
}
  where
    begun : {r : Rules} {a b : List ℕ} {ps : List Part} → G r item a b ps → Unspaced a
    begun d = let o = opens (item_begins d) in rw o.is (unspaced o.opener.no_space)

sign_quiet : (a b : Bool) → T (all quiet (sign_text a b))
unfolding all quiet admitted
sign_quiet a true = tt
sign_quiet true false = tt
sign_quiet false false = tt

factor_value : (z : ℤ) (ds : List ℕ) → Digited (nat_abs z) ds → nat_abs z ≤ largest_k → k_of (ten_to (record { negative = negative z; digits = ds })) ≡ some (record { 0 = z })
unfolding k_of
factor_value z ds d h = rw (d.short, d.value, le-leb (nat_abs z) largest_k h, signed_size z)

factored_label : {y : Style} {m : ℕ} {r : Rules} {w : Writable} {ws : List Writable} {s t : List ℕ} (k : Tens) → Suits y r → y.factors ≡ true → 1 ≤ nat_abs k.0 → nat_abs k.0 ≤ largest_k → UnitRead y m r w s → MoreRead y m r ws t
    → LabelReadBack y m r k (w ∷ ws) (tens_text y k ++ (s ++ t))
factored_label {y} {s = s} {t = t} k v f low high u x = record {
  factor = ten_to (record { negative = negative k.0; digits = figures (nat_abs k.0) });
  parts = part u.spelling u.power.power (u.raised ++ t) ∷ x.parts;
  derived = rw (append_assoc (y.ten ++ (sign_text y.signed (negative k.0) ++ figures (nat_abs k.0))) y.gap (s ++ t))
      (LabelBy.factored (true→T (sym v.agrees.factors ∙ f)) (v.factor f (negative k.0) d.unsigned) v.gap (product_derived u x));
  answers = unit_answers u (u.raised ++ t) x.answers;
  power = factor_value k.0 (figures (nat_abs k.0)) d high;
  fine = fine_append (fine_append (fine_append (fine_quiet y.ten v.agrees.quiet_ten) numeral) (fine_quiet y.gap v.agrees.quiet_gap)) (fine_append (unit_fine u) x.fine);
}
  where
    d : Digited (nat_abs k.0) (figures (nat_abs k.0))
    d = figures_of (nat_abs k.0) low (omega arith)

    numeral : Fine (sign_text y.signed (negative k.0) ++ figures (nat_abs k.0))
    numeral = fine_append (fine_quiet (sign_text y.signed (negative k.0)) (sign_quiet y.signed (negative k.0))) (fine_quiet (figures (nat_abs k.0)) (unsigned_quiet d.unsigned))

pub no_size : (z : ℤ) → nat_abs z ≡ 0 → z ≡ pos 0
no_size (pos n) e = ap pos e
no_size (negsuc n) e = absurd (omega arith)

pub no_tens : (k : Tens) → nat_abs k.0 ≡ 0 → k ≡ record { 0 = pos 0 }
no_tens k e = ap {B = Tens} (λ (x : ℤ). record { 0 = x }) (no_size k.0 e)

pub label_read : {y : Style} {r : Rules} {m : ℕ} → Suits y r → RuledBy m r → (k : Tens) {ws : List Writable} → AllReady ws → nat_abs k.0 ≤ largest_k → (ws ≡ [] → k ≡ record { 0 = pos 0 })
    → (t : List ℕ) → label_text y m k ws ≡ some t → LabelReadBack y m r k ws t
unfolding label_text all factor_text k_of
label_read v o k AllReady.done high z t h =
    let e : [] ≡ t = cc in
    rw (← e) (record { factor = no_factor; parts = []; derived = LabelBy.empty; answers = UnitsRead.nothing; power = ap (λ (x : Tens). some x) (sym (z refl)); fine = fine_quiet [] tt })
label_read {y} {r} {m} v o k (AllReady.also {w = w} {ws = ws} i is) high z t h =
    let b = both_of (factor_text y k) (both_texts (unit_text y m w) (more_text y m ws)) t h in
    let c = both_of (unit_text y m w) (more_text y m ws) b.two b.second in
    rw (← b.is, ← c.is) (go b.one c.one c.two (eqb (nat_abs k.0) 0) y.factors refl refl b.first (unit_read v o w i c.one c.first) (more_read v o is c.two c.second))
  where
    go : (x s u : List ℕ) (a b : Bool) → eqb (nat_abs k.0) 0 ≡ a → y.factors ≡ b → pick a (some []) (pick b (some (tens_text y k)) none) ≡ some x
        → UnitRead y m r w s → MoreRead y m r ws u → LabelReadBack y m r k (w ∷ ws) (x ++ (s ++ u))
    go x s u true b p q h d ds = let e : [] ≡ x = cc in rw (← e) (plain_label k (no_tens k (eqb-true (nat_abs k.0) 0 p)) d ds)
    go x s u false true p q h d ds =
        let e : tens_text y k ≡ x = cc in
        rw (← e) (factored_label k v q (omega (arith, eqb-false (nat_abs k.0) 0 p)) high d ds)
    go x s u false false p q h d ds = absurd (none_some h)

-- WRITING AGAIN

named_again : {m : ℕ} {p : Option ℕ} {u : ℕ} {own l : List ℕ} → NamedText m p u own l → named_text m p u (name_in m (drop (length (prefix_letters p)) l) (unit_at u).names) ≡ some l
unfolding named_text name_in
named_again {m} {p} {u} {own} {l} w =
    rw (← w.is, drop_at (prefix_letters p) w.name (length (prefix_letters p)) refl, name_named m own w.name (unit_at u).names w.taken, w.reads)

-- a unit that is written once more, from its own text, has the same text
symbol_again : (y : Style) (m : ℕ) (own : List ℕ) (x : Symbol) (l : List ℕ) → symbol_text y m own x ≡ some l → symbol_text y m (own_letters x l) x ≡ some l
unfolding symbol_text own_letters
symbol_again y m own (known p u) l h = named_again (named_parts m p u own l h)
symbol_again y m own (unknown p k) l h = h

-- units that have the same texts
data Alike (y : Style) (m : ℕ) : List Writable → List Writable → Type 0 where
  nothing_else : Alike y m [] []
  alike : {v w : Writable} {vs ws : List Writable} → symbol_text y m v.own v.symbol ≡ symbol_text y m w.own w.symbol → v.exponent ≡ w.exponent → Alike y m vs ws → Alike y m (v ∷ vs) (w ∷ ws)

unit_alike : (y : Style) (m : ℕ) (v w : Writable) → symbol_text y m v.own v.symbol ≡ symbol_text y m w.own w.symbol → v.exponent ≡ w.exponent → unit_text y m v ≡ unit_text y m w
unfolding unit_text
unit_alike y m v w e f = rw (e, f)

more_alike : {y : Style} {m : ℕ} {vs ws : List Writable} → Alike y m vs ws → more_text y m vs ≡ more_text y m ws
unfolding more_text
more_alike Alike.nothing_else = refl
more_alike {y} {m} (Alike.alike {v = v} {w = w} e f a) = rw (unit_alike y m v w e f, more_alike a)

label_alike : {y : Style} {m : ℕ} {vs ws : List Writable} (k : Tens) → Alike y m vs ws → label_text y m k vs ≡ label_text y m k ws
unfolding label_text
label_alike k Alike.nothing_else = refl
label_alike {y} {m} k (Alike.alike {v = v} {w = w} e f a) = rw (unit_alike y m v w e f, more_alike a)

-- READING BACK

abbrev pub raised : Writable → Raised
raised w = record { symbol = w.symbol; exponent = w.exponent }

-- the units that the parts have
record Units (y : Style) (m : ℕ) (t : List ℕ) (ps : List Part) (ws : List Writable) : Type 0 where
  units : List Placed
  valued : valued_units ps ≡ some units
  count : length units ≡ length ws
  terms : map raised_term (map (term m (length t)) units) ≡ map raised ws
  again : Alike y m (map (writable t) (map (term m (length t)) units)) ws

term_again : (y : Style) (m : ℕ) {t : List ℕ} {p : Part} (w : Writable) → Located t p → symbol m p.spelling ≡ w.symbol → symbol_text y m w.own w.symbol ≡ some p.spelling
    → symbol_text y m (own_letters (symbol m p.spelling) (take (length p.spelling) (drop (length t - p.left) t))) (symbol m p.spelling) ≡ symbol_text y m w.own w.symbol
term_again y m {t} {p} w d s h = rw (located_there d, s) (symbol_again y m w.own w.symbol p.spelling h ∙ sym h)

units_of : {y : Style} {m : ℕ} {t : List ℕ} {ps : List Part} {ws : List Writable} → UnitsRead y m ps ws → AllLocated t ps → Units y m t ps ws
unfolding valued_units valued_unit term writable
units_of UnitsRead.nothing AllLocated.none = record { units = []; valued = refl; count = refl; terms = refl; again = Alike.nothing_else }
units_of {y} {m} (UnitsRead.next {p = p} {w = w} s e h a) (AllLocated.some d ds) =
    let u = units_of a ds in
    record {
      units = record { spelling = p.spelling; exponent = w.exponent; left = p.left } ∷ u.units;
      valued = rw (e, u.valued);
      count = ap suc u.count;
      terms = rw (s, u.terms);
      again = Alike.alike (term_again y m w d s h) refl u.again;
    }

label_checked : {y : Style} {m : ℕ} {r : Rules} {k : Tens} {ws : List Writable} {t : List ℕ} → RuledBy m r → (d : LabelReadBack y m r k ws t) → (u : Units y m t d.parts ws) → length t ≤ most_bytes → length ws ≤ most_terms
    → checked m t ≡ accept (record { k = k; units = u.units })
unfolding checked unless check_grammar check_values check_counts valued valued_with
label_checked {m} {t = t} o d u h g =
    rw (
      o.listed.is_notation,
      le-leb (length t) most_bytes h,
      T→true (all admitted t) d.fine.bytes,
      derived_parsed (o.derives d.derived),
      d.power,
      u.valued,
      fine_deepest d.fine,
      le-leb (length u.units) most_terms (omega (arith, u.count)),
    )

-- what reading the text gives
pub record TextReadBack (m : ℕ) (k : Tens) (ws : List Writable) (t : List ℕ) (a : Reading) : Type 0 where
  pub answers : a.number ≡ 0
  pub power : a.k ≡ k
  pub terms : map raised_term a.terms ≡ map raised ws
  pub again : written_reading m t a ≡ written m k ws

label_back : {y : Style} {m : ℕ} {r : Rules} {k : Tens} {ws : List Writable} {t : List ℕ} → style_of m ≡ some y → RuledBy m r → LabelReadBack y m r k ws t → length t ≤ most_bytes → length ws ≤ most_terms → TextReadBack m k ws t (reading m t)
unfolding reading answered reading_of written written_by
label_back {k = k} {t = t} e o d h g =
    let u = units_of d.answers (label_located d.derived) in
    rw (label_checked o d u h g) (record { answers = refl; power = refl; terms = u.terms; again = rw e (label_alike k u.again) })

-- WHAT IS WRITTEN IS READ BACK

pub written_back : (m : ℕ) (k : Tens) {ws : List Writable} → AllReady ws → nat_abs k.0 ≤ largest_k → (ws ≡ [] → k ≡ record { 0 = pos 0 }) → length ws ≤ most_terms
    → (t : List ℕ) → length t ≤ most_bytes → written m k ws ≡ some t → TextReadBack m k ws t (reading m t)
unfolding written written_by
written_back m k {ws} i high z few t short h = go (style_of m) refl h
  where
    go : (o : Option Style) → style_of m ≡ o → written_by o m k ws ≡ some t → TextReadBack m k ws t (reading m t)
    go none e h = absurd (none_some h)
    go (some y) e h = let v = suited m y e in label_back e v.ruled (label_read v.suits v.ruled k i high z t h) short few
