-- What a spelling's symbol says of the spelling: it is the prefix's letters and a name of the unit, or the unknown letters.
use Prim.Native.Nat.{ℕ, zero, suc, ◌+◌, ◌≤◌}
use native.Mathlib.Omega.{arith}
use mathlib.Core.Path.{◌≡◌, refl, sym, ap, ◌∙◌}
use mathlib.Core.Bool.{Bool, true, false, ◌&&◌}
use mathlib.Core.List.{List, [], ◌∷◌, ◌++◌, append_assoc, append-nil}
use mathlib.Core.Option.{Option, none, some}
use lib.Dec.{T, leb}
use lib.IntN.{pos}
use lib.ListN.{length, get_or, length-append}
use lib.Seq.{drop_at}
use borrow.Author.Tests.{eqb-true}
use Rattle.label.specs.declared.Rules.{Rules}
use Rattle.label.specs.Bytes.{bytes, same, letter, all, past, percent, quote}
use Rattle.label.specs.Choice.{pick}
use Rattle.label.specs.Prefixes.{Prefix, prefix, prefixes, placed, prefix_named, is_some, prefix_name}
use Rattle.label.specs.Units.{KnownUnit, bare, ten_to, units, unit_at}
use Rattle.label.specs.Symbols.{Symbol, known, unknown, has_name, row_named, unit_named, Cut, follows, cut_by, cuts_from, cuts, KnownCut, known_by, known_among, known_cuts, longer, longest, by_longest, by_cut, by_whole, unquoted, by_quote, symbol}
use Rattle.label.specs.Lexical.{Letters, PrefixName, Quoted}
use Rattle.label.specs.Letters.{prefix_letters}
use Rattle.label.specs.Writing.{same_prefix, in_quotes, own_letters}
use Rattle.label.proofs.Basics.{none_some, false_true, both, T_and, T→true, same_is, differs, Stops, run_of, past_of}
use Rattle.label.proofs.Computing.{symbols_compute}
use Rattle.label.proofs.Texts.{all_append, all_weaker}
use Rattle.label.proofs.General.{SpellingBy}
use Rattle.label.proofs.Ruled.{RuledBy}
use Rattle.label.proofs.Cuts.{follows_is}

-- PLACES IN TABLES

abbrev no_unit : KnownUnit
no_unit = bare [] (ten_to (pos 0) [])

abbrev no_prefix : Prefix
no_prefix = prefix "" (pos 0)

-- the row j of the table, i being the number of its first
record RowAt (n : ℕ) (l : List ℕ) (i u : ℕ) (us : List KnownUnit) : Type 0 where
  place : ℕ
  is : u ≡ i + place
  named : has_name n l (get_or us place no_unit).names ≡ true

row_at : (n : ℕ) (l : List ℕ) (i u : ℕ) (us : List KnownUnit) → row_named n l i us ≡ some u → RowAt n l i u us
unfolding row_named
row_at n l i u [] h = absurd (none_some h)
row_at n l i u (x ∷ xs) h = go (has_name n l x.names) refl (λ h. row_at n l (suc i) u xs h) h
  where
    go : (b : Bool) → has_name n l x.names ≡ b → (row_named n l (suc i) xs ≡ some u → RowAt n l (suc i) u xs)
        → elim b as (λ (z : Bool). Option ℕ) [ true ↦ some i | false ↦ row_named n l (suc i) xs ] ≡ some u → RowAt n l i u (x ∷ xs)
    go true e ih h = let q : i ≡ u = cc in record { place = 0; is = omega arith; named = e }
    go false e ih h = let w = ih h in record { place = suc w.place; is = omega (arith, w.is); named = w.named }

-- a unit that is found by a name has that name
pub unit_owned : (n : ℕ) (l : List ℕ) (u : ℕ) → unit_named n l ≡ some u → has_name n l (unit_at u).names ≡ true
unfolding unit_named
unit_owned n l u h =
    let w = row_at n l 0 u units h in
    let q : u ≡ w.place = omega (arith, w.is) in
    rw q w.named

record PrefixAt (l : List ℕ) (i u : ℕ) (ps : List Prefix) : Type 0 where
  place : ℕ
  is : u ≡ i + place
  named : l ≡ (get_or ps place no_prefix).name

prefix_at : (l : List ℕ) (i u : ℕ) (ps : List Prefix) → placed i l ps ≡ some u → PrefixAt l i u ps
unfolding placed
prefix_at l i u [] h = absurd (none_some h)
prefix_at l i u (p ∷ ps) h = go (same l p.name) refl (λ h. prefix_at l (suc i) u ps h) h
  where
    go : (b : Bool) → same l p.name ≡ b → (placed (suc i) l ps ≡ some u → PrefixAt l (suc i) u ps) → pick b (some i) (placed (suc i) l ps) ≡ some u → PrefixAt l i u (p ∷ ps)
    go true e ih h = let q : i ≡ u = cc in record { place = 0; is = omega arith; named = same_is l p.name e }
    go false e ih h = let w = ih h in record { place = suc w.place; is = omega (arith, w.is); named = w.named }

-- a prefix that is found by a name has those letters
pub prefix_owned : (l : List ℕ) (u : ℕ) → prefix_named l ≡ some u → l ≡ prefix_letters (some u)
unfolding prefix_named
prefix_owned l u h =
    let w = prefix_at l 0 u prefixes h in
    let q : u ≡ w.place = omega (arith, w.is) in
    rw q w.named

pub same_prefix_is : (p q : Option ℕ) → same_prefix p q ≡ true → p ≡ q
same_prefix_is none none e = refl
same_prefix_is none (some j) e = absurd (false_true e)
same_prefix_is (some i) none e = absurd (false_true e)
same_prefix_is (some i) (some j) e = ap (λ (x : ℕ). some x) (eqb-true i j e)

pub no_name : prefix_named [] ≡ none
unfolding symbols_compute
no_name = refl

-- CUTS

-- a cut of l by the prefixes' letters
record NamedCut (names : ℕ → List ℕ) (l : List ℕ) (x : Cut) : Type 0 where
  is : l ≡ names x.prefix ++ x.rest
  named : prefix_named (names x.prefix) ≡ some x.prefix
  some_rest : 1 ≤ length x.rest

data AllCuts (names : ℕ → List ℕ) (l : List ℕ) : List Cut → Type 0 where
  no_cuts : AllCuts names l []
  a_cut : {x : Cut} {xs : List Cut} → NamedCut names l x → AllCuts names l xs → AllCuts names l (x ∷ xs)

-- each prefix is found by its name
in_place : ℕ → List Prefix → Bool
in_place i [] = true
in_place i (p ∷ ps) = same_prefix (prefix_named p.name) (some i) && in_place (suc i) ps

prefixes_in_place : T (in_place 0 prefixes)
unfolding in_place symbols_compute
prefixes_in_place = tt

cuts_all : (names : ℕ → List ℕ) (l : List ℕ) (i : ℕ) (ps : List Prefix) → T (in_place i ps) → ((j : ℕ) → names (i + j) ≡ (get_or ps j no_prefix).name) → AllCuts names l (cuts_from i ps l)
unfolding cuts_from cut_by in_place
cuts_all names l i [] t h = AllCuts.no_cuts
cuts_all names l i (p ∷ ps) t h =
    let w = both (same_prefix (prefix_named p.name) (some i)) (in_place (suc i) ps) t in
    go (follows p.name l) refl (same_prefix_is (prefix_named p.name) (some i) (T→true _ w.0)) (cuts_all names l (suc i) ps w.1 tail)
  where
    tail : (j : ℕ) → names (suc i + j) ≡ (get_or ps j no_prefix).name
    tail j = let q : suc i + j ≡ i + suc j = omega arith in rw q (h (suc j))

    head : names i ≡ p.name
    head = let q : i + 0 ≡ i = omega arith in rw q at (h 0)

    go : (o : Option (List ℕ)) → follows p.name l ≡ o → prefix_named p.name ≡ some i → AllCuts names l (cuts_from (suc i) ps l) → AllCuts names l (cut_by i o ++ cuts_from (suc i) ps l)
    go none e f w = w
    go (some []) e f w = w
    go (some (c ∷ r)) e f w = AllCuts.a_cut (record { is = follows_is p.name l (c ∷ r) e ∙ ap (λ (z : List ℕ). z ++ c ∷ r) (sym head); named = ap prefix_named head ∙ f; some_rest = omega arith }) w

letters_at : ℕ → List ℕ
letters_at i = prefix_letters (some i)

all_cuts : (l : List ℕ) → AllCuts letters_at l (cuts l)
unfolding cuts letters_at
all_cuts l = cuts_all letters_at l 0 prefixes prefixes_in_place (λ j. let q : 0 + j ≡ j = omega arith in rw q)

-- what the letters of a spelling without quotes are
pub data OwnedBy (n : ℕ) (s : List ℕ) : Symbol → Type 0 where
  by_name : {p : Option ℕ} {u : ℕ} (r : List ℕ) → s ≡ prefix_letters p ++ r → prefix_named (prefix_letters p) ≡ p → unit_named n r ≡ some u → 1 ≤ length r → OwnedBy n s (known p u)
  by_letters : {p : Option ℕ} {l : List ℕ} → s ≡ prefix_letters p ++ l → prefix_named (prefix_letters p) ≡ p → 1 ≤ length l → OwnedBy n s (unknown p l)

-- the longest cut is one
longest_cut : (l : List ℕ) {xs : List Cut} → AllCuts letters_at l xs → (x : Cut) → longest xs ≡ some x → NamedCut letters_at l x
unfolding longest longer
longest_cut l AllCuts.no_cuts x h = absurd (none_some h)
longest_cut l (AllCuts.a_cut {x = y} {xs = ys} w ws) x h = go (longest ys) (λ z e. longest_cut l ws z e) h
  where
    at : (z : Cut) → some z ≡ some x → NamedCut letters_at l z → NamedCut letters_at l x
    at z e d = let q : z ≡ x = cc in rw (← q) d

    go : (o : Option Cut) → ((z : Cut) → o ≡ some z → NamedCut letters_at l z) → longer y o ≡ some x → NamedCut letters_at l x
    go none ih h = at y h w
    go (some z) ih h = two (leb (length y.rest) (length z.rest)) h
      where
        two : (b : Bool) → pick b (some y) (some z) ≡ some x → NamedCut letters_at l x
        two true h = at y h w
        two false h = at z h (ih z refl)

-- the first cut with a known rest
data FirstKnown (n : ℕ) (l : List ℕ) : List KnownCut → Type 0 where
  none_known : FirstKnown n l []
  first_known : {x : KnownCut} {xs : List KnownCut} → NamedCut letters_at l x.cut → unit_named n x.cut.rest ≡ some x.unit → FirstKnown n l (x ∷ xs)

known_first : (n : ℕ) (l : List ℕ) {xs : List Cut} → AllCuts letters_at l xs → FirstKnown n l (known_among n xs)
unfolding known_among known_by
known_first n l AllCuts.no_cuts = FirstKnown.none_known
known_first n l (AllCuts.a_cut {x = y} {xs = ys} w ws) = go (unit_named n y.rest) refl (known_first n l ws)
  where
    go : (o : Option ℕ) → unit_named n y.rest ≡ o → FirstKnown n l (known_among n ys) → FirstKnown n l (known_by y o ++ known_among n ys)
    go none e ih = ih
    go (some u) e ih = FirstKnown.first_known w e

pub whole_owned : (n : ℕ) (l : List ℕ) → 1 ≤ length l → OwnedBy n l (by_whole n l (unit_named n l))
unfolding by_whole by_cut by_longest known_cuts letters_at
whole_owned n l h = go (unit_named n l) refl
  where
    cutted : (o : Option Cut) → longest (cuts l) ≡ o → OwnedBy n l (by_longest l o)
    cutted (some x) e = let w = longest_cut l (all_cuts l) x e in OwnedBy.by_letters {p = some x.prefix} w.is w.named w.some_rest
    cutted none e = OwnedBy.by_letters {p = none} refl no_name h

    among : {xs : List KnownCut} → FirstKnown n l xs → OwnedBy n l (by_cut l xs)
    among FirstKnown.none_known = cutted (longest (cuts l)) refl
    among (FirstKnown.first_known {x = x} d e) = OwnedBy.by_name {p = some x.cut.prefix} x.cut.rest d.is d.named e d.some_rest

    go : (o : Option ℕ) → unit_named n l ≡ o → OwnedBy n l (by_whole n l o)
    go (some u) e = OwnedBy.by_name {p = none} l refl no_name e h
    go none e = among (known_first n l (all_cuts l))

-- LETTERS

pub letters_all : {s : List ℕ} → Letters s → T (all letter s)
unfolding all
letters_all (Letters.letters {c = c} {s = s} t a) = T_and (letter c) (all letter s) t a

pub all_letters : (s : List ℕ) → T (all letter s) → 1 ≤ length s → Letters s
unfolding all
all_letters [] t h = absurd (omega arith)
all_letters (c ∷ s) t h = let w = both (letter c) (all letter s) t in Letters.letters w.0 w.1

letters_long : {s : List ℕ} → Letters s → 1 ≤ length s
letters_long (Letters.letters t a) = omega arith

pub all_right : (p : ℕ → Bool) (a b : List ℕ) → T (all p (a ++ b)) → T (all p b)
unfolding all
all_right p [] b t = t
all_right p (c ∷ a) b t = all_right p a b (both (p c) (all p (a ++ b)) t).1

-- letters have no quote
letter_unquoted : (c : ℕ) → T (letter c) → T (unquoted c)
unfolding letter
letter_unquoted c t = rw (differs letter c quote t refl) tt

pub letters_unquoted : {l : List ℕ} → Letters l → T (all unquoted l)
letters_unquoted {l} d = all_weaker letter unquoted letter_unquoted l (letters_all d)

-- prefix names are letters
names_lettered : List Prefix → Bool
names_lettered [] = true
names_lettered (p ∷ ps) = all letter p.name && names_lettered ps

prefixes_lettered : T (names_lettered prefixes)
unfolding names_lettered symbols_compute
prefixes_lettered = tt

lettered_at : (ps : List Prefix) (i : ℕ) (d : Prefix) → T (names_lettered ps) → T (all letter d.name) → T (all letter (get_or ps i d).name)
unfolding names_lettered
lettered_at [] i d t h = h
lettered_at (p ∷ ps) zero d t h = (both (all letter p.name) (names_lettered ps) t).0
lettered_at (p ∷ ps) (suc i) d t h = lettered_at ps i d (both (all letter p.name) (names_lettered ps) t).1 h

prefix_lettered : (p : Option ℕ) → T (all letter (prefix_letters p))
unfolding all bytes
prefix_lettered none = tt
prefix_lettered (some i) = lettered_at prefixes i _ prefixes_lettered tt

pub prefix_unquoted : (p : Option ℕ) → T (all unquoted (prefix_letters p))
prefix_unquoted p = all_weaker letter unquoted letter_unquoted (prefix_letters p) (prefix_lettered p)

-- letters after a prefix are letters
pub letters_prefixed : (p : Option ℕ) {l : List ℕ} → Letters l → Letters (prefix_letters p ++ l)
letters_prefixed p {l} d =
    all_letters (prefix_letters p ++ l) (all_append letter (prefix_letters p) l (prefix_lettered p) (letters_all d)) (omega (arith, length-append (prefix_letters p) l, letters_long d))

-- QUOTES

pub quoted_symbol : (m : ℕ) (p l : List ℕ) → T (all unquoted p) → Letters l → symbol m (p ++ in_quotes l) ≡ unknown (prefix_named p) l
unfolding symbol by_quote
quoted_symbol m p l t d =
    rw (run_of unquoted p (in_quotes l) t (Stops.other refl), past_of unquoted p (in_quotes l) t (Stops.other refl), run_of unquoted l (quote ∷ []) (letters_unquoted d) (Stops.other refl))

-- what a quoted spelling is read as
pub record QuotedAs (m : ℕ) (s : List ℕ) : Type 0 where
  pub prefix : Option ℕ
  pub letters : List ℕ
  pub is : s ≡ prefix_letters prefix ++ in_quotes letters
  pub spelled : Letters letters
  pub named : prefix_named (prefix_letters prefix) ≡ prefix
  pub reads : symbol m s ≡ unknown prefix letters

quoted_by : (m : ℕ) (s : List ℕ) (p : Option ℕ) {l : List ℕ} → Letters l → prefix_named (prefix_letters p) ≡ p → s ≡ prefix_letters p ++ in_quotes l → QuotedAs m s
quoted_by m s p {l} d n e = record {
  prefix = p;
  letters = l;
  is = e;
  spelled = d;
  named = n;
  reads = ap (symbol m) e ∙ quoted_symbol m (prefix_letters p) l (prefix_unquoted p) d ∙ ap (λ (q : Option ℕ). unknown q l) n;
}

pub quoted_as : (m : ℕ) {s : List ℕ} → Quoted s → QuotedAs m s
unfolding prefix_name
quoted_as m (Quoted.quoted {l = l} d) = quoted_by m (in_quotes l) none d no_name refl
quoted_as m (Quoted.prefixed {p = p} {l = l} (PrefixName.named t) d) = go (prefix_named p) refl t
  where
    go : (o : Option ℕ) → prefix_named p ≡ o → T (is_some o) → QuotedAs m (p ++ quote ∷ l ++ quote ∷ [])
    go (some i) e t =
        let q = prefix_owned p i e in
        quoted_by m (p ++ quote ∷ l ++ quote ∷ []) (some i) d (sym (ap prefix_named q) ∙ e) (append_assoc p (quote ∷ l) (quote ∷ []) ∙ ap (λ (z : List ℕ). z ++ in_quotes l) q)
    go none e t = absurd t

-- WHAT IS KNOWN OF A UNIT'S LETTERS IN ITS SOURCE

-- they are its name in some notation, without a prefix or letters; or it is unknown, with letters after a prefix or none
pub data Sourced (own : List ℕ) : Symbol → Type 0 where
  bare_name : {u : ℕ} (n : ℕ) → has_name n own (unit_at u).names ≡ true → Sourced own (known none u)
  letter_name : {p : Option ℕ} {u : ℕ} (n : ℕ) → has_name n own (unit_at u).names ≡ true → Letters own → Sourced own (known p u)
  no_unit_name : {p : Option ℕ} {l : List ℕ} → Letters l → prefix_named (prefix_letters p) ≡ p → Sourced own (unknown p l)

whole_symbol : (n : ℕ) (s : List ℕ) → T (all unquoted s) → symbol n s ≡ by_whole n s (unit_named n s)
unfolding symbol by_quote
whole_symbol n s t = let e : past unquoted s ≡ [] = rw (append-nil s) at (past_of unquoted s [] t Stops.end) in rw e

pub unquoted_owned : (n : ℕ) (s : List ℕ) → T (all unquoted s) → 1 ≤ length s → OwnedBy n s (symbol n s)
unquoted_owned n s t h = rw (whole_symbol n s t) (whole_owned n s h)

pub letters_owned : (n : ℕ) {s : List ℕ} → Letters s → OwnedBy n s (symbol n s)
letters_owned n {s} d = unquoted_owned n s (letters_unquoted d) (letters_long d)

owned_sourced : {n : ℕ} {s : List ℕ} {x : Symbol} → T (all letter s) → OwnedBy n s x → Sourced (own_letters x s) x
unfolding own_letters
owned_sourced {n} t (OwnedBy.by_name {p = p} {u = u} r e g f h) =
    rw (e, drop_at (prefix_letters p) r (length (prefix_letters p)) refl)
    (Sourced.letter_name n (unit_owned n r u f) (all_letters r (all_right letter (prefix_letters p) r (rw e at t)) h))
owned_sourced t (OwnedBy.by_letters {p = p} {l = l} e f h) = Sourced.no_unit_name (all_letters l (all_right letter (prefix_letters p) l (rw e at t)) h) f

percent_sourced : Sourced (own_letters (symbol 3 (percent ∷ [])) (percent ∷ [])) (symbol 3 (percent ∷ []))
unfolding symbols_compute own_letters
percent_sourced = Sourced.bare_name 3 refl

pub spelling_sourced : {n : ℕ} {r : Rules} {s : List ℕ} → RuledBy n r → SpellingBy r s → Sourced (own_letters (symbol n s) s) (symbol n s)
unfolding own_letters
spelling_sourced {n} {s = s} o (SpellingBy.letters d) = owned_sourced (letters_all d) (letters_owned n d)
spelling_sourced {n} {r} o (SpellingBy.percent f) = rw (eqb-true n 3 (sym o.listed.percent ∙ T→true r.percent f)) percent_sourced
spelling_sourced {n} o (SpellingBy.quoted f d) = let w = quoted_as n d in rw w.reads (Sourced.no_unit_name w.spelled w.named)
