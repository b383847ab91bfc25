-- The whole label: the reading by rules is the general grammar, sound and complete.
use Prim.Native.Nat.{ℕ, suc, ◌≤◌}
use native.Mathlib.Omega.{arith}
use mathlib.Core.Path.{◌≡◌, refl, ap, ◌∙◌}
use mathlib.Core.Bool.{Bool, true, false, ◌&&◌}
use mathlib.Core.List.{List, [], ◌∷◌, ◌++◌, append_assoc}
use lib.Dec.{T, eqb}
use lib.ListN.{length, length-append}
use borrow.Author.Tests.{eqb-true}
use Rattle.label.specs.declared.Rules.{Rules}
use Rattle.label.specs.Bytes.{letter, digit, all, run, past, caret, minus, plus, slash, space, star}
use Rattle.label.specs.Choice.{pick}
use Rattle.label.specs.Lexical.{Factor, no_factor, Part, turned_all, item, product, quotient, Spaces}
use Rattle.label.specs.Ogip.{Unspaced, unspaced}
use Rattle.label.specs.Parse.{Found, none, found, read, factor, refused, parsed, ended, one_space, gap, factored, label_by, fuel, parse_by}
use Rattle.label.proofs.Basics.{T→true, true→T, both, Stops, run_past, run_all, past_of, differs, letter_no_digit, Ends}
use Rattle.label.proofs.General.{Pad, OverBy, G, FactorBy, GapBy, LabelBy}
use Rattle.label.proofs.Joints.{Spells, BeginsItem, is_space, Opens, opens, begins_stops, pad_all}
use Rattle.label.proofs.LexComplete.{Unfactored, factor_complete, factor_digit}
use Rattle.label.proofs.LexSound.{factor_sound}
use Rattle.label.proofs.Complete.{item_begins, Closes, complete}
use Rattle.label.proofs.Sound.{read_sound}

-- HOW A PRODUCT STARTS

-- a unit or a group, or a leading slash after spaces
pub data Starts (r : Rules) : List ℕ → Type 0 where
  begun : {s : List ℕ} → BeginsItem s → Starts r s
  slashed : {a : List ℕ} → T r.each → Pad r a → (s : List ℕ) → Starts r (a ++ slash ∷ s)

product_starts : {r : Rules} {s t : List ℕ} {ps : List Part} → G r product s t ps → Starts r s
product_starts (G.first d m) = Starts.begun (item_begins d)
product_starts (G.under {s = s} (OverBy.slashed {a = a} {b = b} e p q) d m) = rw (append_assoc a (slash ∷ b) s) (Starts.slashed e p (b ++ s))

pub quotient_starts : {r : Rules} {s t : List ℕ} {ps : List Part} → G r quotient s t ps → Starts r s
quotient_starts (G.plain d) = product_starts d
quotient_starts (G.divided f d i) = product_starts d

-- no digit, sign, caret or star starts a product
begins_unfactored : {s : List ℕ} → BeginsItem s → Unfactored s
unfolding letter digit
begins_unfactored (BeginsItem.by_spelling (Spells.by_letter {c = c} t)) =
    Unfactored.other {c = c} (letter_no_digit c t) (rw (differs letter c plus t refl, differs letter c minus t refl)) (differs letter c caret t refl) (differs letter c star t refl)
begins_unfactored (BeginsItem.by_spelling Spells.by_percent) = Unfactored.other refl refl refl refl
begins_unfactored (BeginsItem.by_spelling Spells.by_quote) = Unfactored.other refl refl refl refl
begins_unfactored BeginsItem.by_bracket = Unfactored.other refl refl refl refl

pad_unfactored : {r : Rules} {a : List ℕ} → Pad r a → (s : List ℕ) → Unfactored s → Unfactored (a ++ s)
unfolding digit
pad_unfactored Pad.none s h = h
pad_unfactored (Pad.space f p) s h = Unfactored.other refl refl refl refl

starts_unfactored : {r : Rules} {s : List ℕ} → Starts r s → Unfactored s
unfolding digit
starts_unfactored (Starts.begun b) = begins_unfactored b
starts_unfactored (Starts.slashed e p s) = pad_unfactored p (slash ∷ s) (Unfactored.other refl refl refl refl)

spaces_unfactored : {g : List ℕ} → Spaces g → (s : List ℕ) → Unfactored s → Unfactored (g ++ s)
unfolding digit
spaces_unfactored Spaces.none s h = h
spaces_unfactored (Spaces.space p) s h = Unfactored.other refl refl refl refl

gap_unfactored : {r : Rules} {g : List ℕ} → GapBy r g → (s : List ℕ) → Unfactored s → Unfactored (g ++ s)
unfolding digit
gap_unfactored GapBy.nothing s h = h
gap_unfactored (GapBy.one f) s h = Unfactored.other refl refl refl refl
gap_unfactored (GapBy.many f p) s h = spaces_unfactored p s h

-- BEHIND A FACTOR

-- without the spaces before it, a product is the same
trimmed_product : {r : Rules} {s t : List ℕ} {ps : List Part} → G r product s t ps → G r product (past is_space s) t ps
unfolding all
trimmed_product (G.first {s = s} d m) = rw (past_of is_space [] s tt (begins_stops (item_begins d))) (G.first d m)
trimmed_product (G.under {s = s} (OverBy.slashed {a = a} {b = b} e p q) d m) =
    rw (append_assoc a (slash ∷ b) s, past_of is_space a (slash ∷ b ++ s) (pad_all p) (Stops.other refl)) (G.under (OverBy.slashed e Pad.none q) d m)

trimmed : {r : Rules} {s t : List ℕ} {ps : List Part} → G r quotient s t ps → G r quotient (past is_space s) t ps
trimmed (G.plain d) = G.plain (trimmed_product d)
trimmed (G.divided f d i) = G.divided f (trimmed_product d) i

spaces_all : {g : List ℕ} → Spaces g → T (all is_space g)
unfolding all
spaces_all Spaces.none = tt
spaces_all (Spaces.space p) = spaces_all p

gap_all : {r : Rules} {g : List ℕ} → GapBy r g → T (all is_space g)
unfolding all
gap_all GapBy.nothing = tt
gap_all (GapBy.one f) = tt
gap_all (GapBy.many f p) = spaces_all p

-- spaces before a text are passed with those that begin it
past_spaces : (g s : List ℕ) → T (all is_space g) → past is_space (g ++ s) ≡ past is_space s
unfolding past all
past_spaces [] s t = refl
past_spaces (c ∷ g) s t =
    let w = both (is_space c) (all is_space g) t in
    rw (T→true (is_space c) w.0) (past_spaces g s w.1)

-- where spaces do not pad, a product starts with none
starts_unspaced : {r : Rules} {s : List ℕ} → r.spaces ≡ false → Starts r s → one_space s ≡ s
unfolding one_space
starts_unspaced f (Starts.begun b) = let o = opens b in rw (o.is, o.opener.no_space)
starts_unspaced f (Starts.slashed e Pad.none s) = refl
starts_unspaced f (Starts.slashed e (Pad.space g p) s) = absurd (rw f at g)

unpadded : {r : Rules} {g : List ℕ} (s : List ℕ) → r.spaces ≡ false → one_space s ≡ s → GapBy r g → pick r.space (one_space (g ++ s)) (g ++ s) ≡ s
unfolding one_space
unpadded {r} s e o GapBy.nothing = go r.space
  where
    go : (b : Bool) → pick b (one_space s) s ≡ s
    go true = o
    go false = refl
unpadded {r} s e o (GapBy.one f) = rw (T→true r.space f)
unpadded s e o (GapBy.many f p) = absurd (rw e at f)

-- what is read after the gap
gap_derived : {r : Rules} {g s : List ℕ} {ps : List Part} → GapBy r g → G r quotient s [] ps → G r quotient (gap r (g ++ s)) [] ps
unfolding gap
gap_derived {r} {g} {s} {ps} w d = go r.spaces refl
  where
    go : (b : Bool) → r.spaces ≡ b → G r quotient (pick b (past is_space (g ++ s)) (pick r.space (one_space (g ++ s)) (g ++ s))) [] ps
    go true e = rw (past_spaces g s (gap_all w)) (trimmed d)
    go false e = rw (unpadded s e (starts_unspaced e (quotient_starts d)) w) d

past_short : (p : ℕ → Bool) (s : List ℕ) → length (past p s) ≤ length s
past_short p s = omega (arith, ap length (run_past p s), length-append (run p s) (past p s))

one_space_short : (s : List ℕ) → length (one_space s) ≤ length s
unfolding one_space
one_space_short [] = omega arith
one_space_short (c ∷ s) = go (eqb c space)
  where
    go : (b : Bool) → length (pick b s (c ∷ s)) ≤ suc (length s)
    go true = omega arith
    go false = omega arith

gap_short : (r : Rules) (s : List ℕ) → length (gap r s) ≤ length s
unfolding gap
gap_short r s = go r.spaces r.space
  where
    go : (a b : Bool) → length (pick a (past is_space s) (pick b (one_space s) s)) ≤ length s
    go true b = past_short is_space s
    go false true = one_space_short s
    go false false = omega arith

-- COMPLETE

-- a leading slash has one meaning
abbrev pub Coherent : Rules → Type 0
Coherent r = r.each ≡ true → r.lead ≡ false

-- the text starts with no factor, and with no slash that has one item under it
data Plainly (r : Rules) : List ℕ → Type 0 where
  plainly : {c : ℕ} {s : List ℕ} → digit c ≡ false → (eqb c slash && r.lead) ≡ false → Plainly r (c ∷ s)

begun_plainly : (r : Rules) {s : List ℕ} → Unfactored s → Opens s → Plainly r s
begun_plainly r (Unfactored.other {c = c} d e f g) o =
    let q : o.byte ≡ c = cc in
    let n : eqb c slash ≡ false = rw q at o.opener.no_slash in
    Plainly.plainly {c = c} d (rw n)

starts_plainly : {r : Rules} {s : List ℕ} → Coherent r → Starts r s → Plainly r s
unfolding digit
starts_plainly {r} h (Starts.begun b) = begun_plainly r (begins_unfactored b) (opens b)
starts_plainly {r} h (Starts.slashed e Pad.none s) = Plainly.plainly refl (h (T→true r.each e))
starts_plainly h (Starts.slashed e (Pad.space f p) s) = Plainly.plainly refl refl

label_plain : (r : Rules) (f g : List ℕ → Found (List Part)) {s : List ℕ} → Unspaced s → Plainly r s → label_by f g r s ≡ ended no_factor (g s)
unfolding label_by
label_plain r f g (unspaced e) (Plainly.plainly d l) = rw (e, d, l)

-- a digit begins a factor, where one may lead
label_factored : (r : Rules) (f g : List ℕ → Found (List Part)) (s : List ℕ) (c : ℕ) (u : List ℕ) → s ≡ c ∷ u → digit c ≡ true → r.factor ≡ true
    → label_by f g r s ≡ factored g r (factor r s)
unfolding label_by digit
label_factored r f g s c u e d l = rw (e, differs digit c space (true→T d) refl, d, l)

-- a slash with one item under it
label_under : (r : Rules) (f g : List ℕ → Found (List Part)) (s : List ℕ) → r.lead ≡ true → label_by f g r (slash ∷ s) ≡ ended no_factor (f s)
unfolding label_by digit
label_under r f g s e = rw e

-- what is found ends the text
ended_found : (f : Factor) (x : Found (List Part)) (ps : List Part) → x ≡ found ps [] → ended f x ≡ parsed f ps
unfolding ended
ended_found f x ps e = rw e

factored_found : (g : List ℕ → Found (List Part)) (r : Rules) (x : Found Factor) (f : Factor) (s : List ℕ) (ps : List Part)
    → x ≡ found f s → g (gap r s) ≡ found ps [] → factored g r x ≡ parsed f ps
unfolding factored
factored_found g r x f s ps p q = rw p (ended_found f _ ps q)

pub label_complete : {r : Rules} {s : List ℕ} {f : Factor} {ps : List Part} → Coherent r → LabelBy r s f ps → parse_by r s ≡ parsed f ps
unfolding parse_by label_by
label_complete h LabelBy.empty = refl
label_complete {r} h (LabelBy.plain {s = s} {ps = ps} u d) =
    label_plain r _ _ u (starts_plainly h (quotient_starts d)) ∙ ended_found no_factor _ ps (complete d false Closes.end (fuel s) (omega arith))
label_complete {r} h (LabelBy.under {s = s} {ps = ps} f d) =
    label_under r (λ u. read r (fuel (slash ∷ s)) item true u) _ s (T→true r.lead f) ∙ ended_found no_factor _ (turned_all ps) (complete d true Ends.end (fuel (slash ∷ s)) (omega arith))
label_complete {r} h (LabelBy.factored {x = x} {g = g} {s = s} {f = n} {ps = ps} l f w d) =
    let c = factor_digit f (g ++ s) in
    label_factored r _ _ (x ++ (g ++ s)) c.0 c.1 c.2 c.3 (T→true r.factor l)
    ∙ factored_found _ r _ n (g ++ s) ps
    (factor_complete r f (g ++ s) (gap_unfactored w s (starts_unfactored (quotient_starts d))))
    (complete (gap_derived w d) false Closes.end (fuel (x ++ (g ++ s))) (omega (arith, gap_short r (g ++ s), length-append x (g ++ s))))

-- SOUND

refused_parsed : {f : Factor} {ps : List Part} → refused ≡ parsed f ps → ⊥
refused_parsed e = let z : ◌≡◌ {A = ℕ} 0 1 = cc in omega arith

-- what ends a text was found
record EndFound (x : Found (List Part)) (f n : Factor) (ps : List Part) : Type 0 where
  is : x ≡ found ps []
  same : f ≡ n

ended_sound : (x : Found (List Part)) (f n : Factor) (ps : List Part) → ended f x ≡ parsed n ps → EndFound x f n ps
unfolding ended
ended_sound none f n ps h = absurd (refused_parsed h)
ended_sound (found qs []) f n ps h = record { is = (cc); same = (cc) }
ended_sound (found qs (c ∷ s)) f n ps h = absurd (refused_parsed h)

all_spaces : (s : List ℕ) → T (all is_space s) → Spaces s
unfolding all
all_spaces [] t = Spaces.none
all_spaces (c ∷ s) t =
    let w = both (is_space c) (all is_space s) t in
    rw (eqb-true c space (T→true (is_space c) w.0)) (Spaces.space (all_spaces s w.1))

one_space_sound : (r : Rules) → r.space ≡ true → (s : List ℕ) → (g : List ℕ) × GapBy r g × (s ≡ g ++ one_space s)
unfolding one_space
one_space_sound r f [] = ([], GapBy.nothing, refl)
one_space_sound r f (c ∷ s) = go (eqb c space) refl
  where
    go : (b : Bool) → eqb c space ≡ b → (g : List ℕ) × GapBy r g × (c ∷ s ≡ g ++ pick b s (c ∷ s))
    go true e = (space ∷ [], GapBy.one (true→T f), ap (λ (z : ℕ). z ∷ s) (eqb-true c space e))
    go false e = ([], GapBy.nothing, refl)

gap_sound : (r : Rules) (s : List ℕ) → (g : List ℕ) × GapBy r g × (s ≡ g ++ gap r s)
unfolding gap
gap_sound r s = go r.spaces r.space refl refl
  where
    go : (a b : Bool) → r.spaces ≡ a → r.space ≡ b → (g : List ℕ) × GapBy r g × (s ≡ g ++ pick a (past is_space s) (pick b (one_space s) s))
    go true b e f = (run is_space s, GapBy.many (true→T e) (all_spaces (run is_space s) (run_all is_space s)), run_past is_space s)
    go false true e f = one_space_sound r f s
    go false false e f = ([], GapBy.nothing, refl)

quotient_sound : (r : Rules) (k : ℕ) (s : List ℕ) (ps : List Part) → read r k quotient false s ≡ found ps [] → G r quotient s [] ps
quotient_sound r k s ps h = let w = read_sound r k quotient false s ps [] h in rw w.signed w.derivation

plain_sound : (r : Rules) (k : ℕ) (s : List ℕ) (f : Factor) (ps : List Part) → Unspaced s → ended no_factor (read r k quotient false s) ≡ parsed f ps → LabelBy r s f ps
plain_sound r k s f ps u h =
    let e = ended_sound _ no_factor f ps h in
    rw (← e.same) (LabelBy.plain u (quotient_sound r k s ps e.is))

under_sound : (r : Rules) (k : ℕ) (s : List ℕ) (f : Factor) (ps : List Part) → r.lead ≡ true → ended no_factor (read r k item true s) ≡ parsed f ps → LabelBy r (slash ∷ s) f ps
under_sound r k s f ps l h =
    let e = ended_sound _ no_factor f ps h in
    let w = read_sound r k item true s ps [] e.is in
    rw (← e.same, w.signed) (LabelBy.under (true→T l) w.derivation)

factored_label : {r : Rules} {f : Factor} {ps : List Part} (s x t g u : List ℕ) → s ≡ x ++ t → t ≡ g ++ u → r.factor ≡ true → FactorBy r x f → GapBy r g → G r quotient u [] ps → LabelBy r s f ps
factored_label s x t g u p q l d w i = rw (p, q) (LabelBy.factored (true→T l) d w i)

factored_sound : (r : Rules) (k : ℕ) (s : List ℕ) (f : Factor) (ps : List Part) → r.factor ≡ true → factored (λ u. read r k quotient false u) r (factor r s) ≡ parsed f ps → LabelBy r s f ps
unfolding factored
factored_sound r k s f ps l h = go (factor r s) refl h
  where
    go : (x : Found Factor) → factor r s ≡ x → factored (λ u. read r k quotient false u) r x ≡ parsed f ps → LabelBy r s f ps
    go none p h = absurd (refused_parsed h)
    go (found n t) p h =
        let e = ended_sound _ n f ps h in
        let x = factor_sound r s n t p in
        let g = gap_sound r t in
        rw (← e.same) (factored_label s x.0 t g.0 (gap r t) x.2 g.2 l x.1 g.1 (quotient_sound r k (gap r t) ps e.is))

pub label_sound : (r : Rules) (s : List ℕ) (f : Factor) (ps : List Part) → parse_by r s ≡ parsed f ps → LabelBy r s f ps
unfolding parse_by label_by
label_sound r [] f ps h =
    let p : no_factor ≡ f = cc in
    let q : [] ≡ ps = cc in
    rw (← p, ← q) LabelBy.empty
label_sound r (c ∷ s) f ps h = go (eqb c space) (digit c) r.factor (eqb c slash) r.lead refl refl refl refl h
  where
    k : ℕ
    k = fuel (c ∷ s)

    others : (z l : Bool) → eqb c space ≡ false → eqb c slash ≡ z → r.lead ≡ l
        → pick (z && l) (ended no_factor (read r k item true s)) (ended no_factor (read r k quotient false (c ∷ s))) ≡ parsed f ps → LabelBy r (c ∷ s) f ps
    others true true p q e h = rw (eqb-true c slash q) (under_sound r k s f ps e h)
    others true false p q e h = plain_sound r k (c ∷ s) f ps (unspaced p) h
    others false l p q e h = plain_sound r k (c ∷ s) f ps (unspaced p) h

    go : (x y w z l : Bool) → eqb c space ≡ x → r.factor ≡ w → eqb c slash ≡ z → r.lead ≡ l
        → pick x refused (pick (y && w) (factored (λ u. read r k quotient false u) r (factor r (c ∷ s)))
        (pick (z && l) (ended no_factor (read r k item true s)) (ended no_factor (read r k quotient false (c ∷ s))))) ≡ parsed f ps
        → LabelBy r (c ∷ s) f ps
    go true y w z l p t q e h = absurd (refused_parsed h)
    go false true true z l p t q e h = factored_sound r k (c ∷ s) f ps t h
    go false true false z l p t q e h = others z l p q e h
    go false false w z l p t q e h = others z l p q e h
