-- The letters of an unknown unit, by the grammar: a spelling is a prefix name or nothing, and letters, in quotes or not.
use Prim.Native.Nat.{ℕ, suc, ◌+◌, ◌-◌, ◌≤◌, ◌<◌}
use native.Mathlib.Omega.{arith}
use mathlib.Core.Path.{◌≡◌, refl, sym, ap, ◌∙◌}
use mathlib.Core.Bool.{Bool, true, false}
use mathlib.Core.List.{List, [], ◌∷◌, ◌++◌, map, append_assoc, append-nil}
use mathlib.Core.Option.{Option, none, some}
use lib.Dec.{T, leb}
use lib.IntN.{pos}
use lib.ListN.{length, get_or, take, drop, length-append}
use lib.Seq.{take_at, drop_at, take-take, drop-drop}
use borrow.Author.Tests.{lt-ltb, le-ltb}
use Rattle.label.specs.declared.Rules.{Rules}
use Rattle.label.specs.Bytes.{letter, all, run, past, same, quote}
use Rattle.label.specs.Choice.{pick}
use Rattle.label.specs.Prefixes.{Prefix, prefix, prefixes, placed, prefix_named, is_some, prefix_name}
use Rattle.label.specs.Symbols.{Symbol, known, unknown, Cut, KnownCut, unquoted, follows, cut_by, cuts_from, cuts, known_cuts, longer, longest, by_longest, by_cut, by_whole, by_quote, unit_named, symbol}
use Rattle.label.specs.Lexical.{Part, Letters, PrefixName, Quoted}
use Rattle.label.specs.Split.{Placed}
use Rattle.label.specs.Reading.{Term, term, answered, refusal, reading_of, reading}
use Rattle.label.specs.Letters.{prefix_letters, before_letters, letters_from, letters_start, letters_of, letters_size}
use Rattle.label.proofs.Basics.{none_some, both, T_and, true→T, differs, same_is, Stops, run_of, past_of, run_past, drop_take}
use Rattle.label.proofs.Computing.{symbols_compute}
use Rattle.label.proofs.Cuts.{follows_is}
use Rattle.label.proofs.General.{SpellingBy}
use Rattle.label.proofs.LexComplete.{prefix_lettered, letters_all}
use Rattle.label.proofs.Ruled.{derives_by}
use Rattle.label.proofs.Parts.{AllParts, label_parts}
use Rattle.label.proofs.Refusals.{Values, valued_values}
use Rattle.label.proofs.Places.{AllLocated, label_located, located_there}
use Rattle.label.proofs.Readings.{Answered, answer_of}

-- what a spelling l stands for: a known unit; letters after a prefix name or nothing; or letters in quotes there
pub data SpelledAs (l : List ℕ) : Symbol → Type 0 where
  is_known : {p : Option ℕ} {u : ℕ} → SpelledAs l (known p u)
  plain : {p : Option ℕ} {m : List ℕ} → past unquoted l ≡ [] → l ≡ prefix_letters p ++ m → 0 < length m → SpelledAs l (unknown p m)
  in_quotes : {p : Option ℕ} {m : List ℕ} → run unquoted l ≡ prefix_letters p → past unquoted l ≡ quote ∷ (m ++ (quote ∷ [])) → 0 < length m → SpelledAs l (unknown p m)

-- NAMES OF PREFIXES

-- the prefixes from the place i on
record Table (i : ℕ) (ps : List Prefix) : Type 0 where
  names : (k : ℕ) → (get_or ps k (prefix "" (pos 0))).name ≡ prefix_letters (some (i + k))

table : Table 0 prefixes
table = record { names = λ k. let z : 0 + k ≡ k = omega arith in rw z }

table_first : {i : ℕ} {p : Prefix} {ps : List Prefix} → Table i (p ∷ ps) → p.name ≡ prefix_letters (some i)
table_first {i} w = let z : i + 0 ≡ i = omega arith in w.names 0 ∙ ap (λ (j : ℕ). prefix_letters (some j)) z

table_rest : {i : ℕ} {p : Prefix} {ps : List Prefix} → Table i (p ∷ ps) → Table (suc i) ps
table_rest {i} w = record { names = λ k. let z : i + suc k ≡ suc i + k = omega arith in w.names (suc k) ∙ ap (λ (j : ℕ). prefix_letters (some j)) z }

placed_name : (i : ℕ) (l : List ℕ) (ps : List Prefix) (j : ℕ) → Table i ps → placed i l ps ≡ some j → prefix_letters (some j) ≡ l
unfolding placed
placed_name i l [] j w e = absurd (none_some e)
placed_name i l (p ∷ ps) j w e = go (same l p.name) refl (placed_name (suc i) l ps j (table_rest w)) e
  where
    go : (b : Bool) → same l p.name ≡ b → (placed (suc i) l ps ≡ some j → prefix_letters (some j) ≡ l) → pick b (some i) (placed (suc i) l ps) ≡ some j
        → prefix_letters (some j) ≡ l
    go true q ih e = let z : i ≡ j = cc in rw (← z) (sym (same_is l p.name q ∙ table_first w))
    go false q ih e = ih e

-- the prefix of a prefix name has that name
name_named : {p : List ℕ} → PrefixName p → prefix_letters (prefix_named p) ≡ p
unfolding prefix_name prefix_named
name_named (PrefixName.named {p = p} t) = go (placed 0 p prefixes) refl t
  where
    go : (o : Option ℕ) → placed 0 p prefixes ≡ o → T (is_some o) → prefix_letters o ≡ p
    go none e t = absurd t
    go (some j) e t = placed_name 0 p prefixes j table e

-- THE RULE OF THE FIRST FIT

-- a cut of l leaves letters after the prefix's name
record CutOf (l : List ℕ) (x : Cut) : Type 0 where
  is : l ≡ prefix_letters (some x.prefix) ++ x.rest
  letters : 0 < length x.rest

data CutsOf (l : List ℕ) : List Cut → Type 0 where
  no_cuts : CutsOf l []
  a_cut : {x : Cut} {xs : List Cut} → CutOf l x → CutsOf l xs → CutsOf l (x ∷ xs)

data CutOr (l : List ℕ) : Option Cut → Type 0 where
  no_cut : CutOr l none
  one_cut : {x : Cut} → CutOf l x → CutOr l (some x)

cuts_both : {l : List ℕ} {xs ys : List Cut} → CutsOf l xs → CutsOf l ys → CutsOf l (xs ++ ys)
cuts_both CutsOf.no_cuts b = b
cuts_both (CutsOf.a_cut h a) b = CutsOf.a_cut h (cuts_both a b)

cut_of : (l : List ℕ) (i : ℕ) (p : Prefix) (o : Option (List ℕ)) → p.name ≡ prefix_letters (some i) → follows p.name l ≡ o → CutsOf l (cut_by i o)
unfolding cut_by
cut_of l i p none q e = CutsOf.no_cuts
cut_of l i p (some []) q e = CutsOf.no_cuts
cut_of l i p (some (c ∷ r)) q e =
    CutsOf.a_cut {x = record { prefix = i; rest = c ∷ r }} (record { is = follows_is p.name l (c ∷ r) e ∙ ap (λ (x : List ℕ). x ++ (c ∷ r)) q; letters = omega arith }) CutsOf.no_cuts

cuts_of : (i : ℕ) (ps : List Prefix) (l : List ℕ) → Table i ps → CutsOf l (cuts_from i ps l)
unfolding cuts_from
cuts_of i [] l w = CutsOf.no_cuts
cuts_of i (p ∷ ps) l w = cuts_both (cut_of l i p (follows p.name l) (table_first w) refl) (cuts_of (suc i) ps l (table_rest w))

longer_cut : {l : List ℕ} (x : Cut) (o : Option Cut) → CutOf l x → CutOr l o → CutOr l (longer x o)
unfolding longer
longer_cut x none h r = CutOr.one_cut h
longer_cut {l} x (some y) h (CutOr.one_cut g) = go (leb (length x.rest) (length y.rest))
  where
    go : (b : Bool) → CutOr l (pick b (some x) (some y))
    go true = CutOr.one_cut h
    go false = CutOr.one_cut g

longest_cut : {l : List ℕ} {xs : List Cut} → CutsOf l xs → CutOr l (longest xs)
unfolding longest
longest_cut CutsOf.no_cuts = CutOr.no_cut
longest_cut (CutsOf.a_cut {x = x} {xs = xs} h r) = longer_cut x (longest xs) h (longest_cut r)

module _ {l : List ℕ} (h : 0 < length l) (e : past unquoted l ≡ []) where
  by_longest_spelt : (o : Option Cut) → CutOr l o → SpelledAs l (by_longest l o)
  unfolding by_longest
  by_longest_spelt none r = SpelledAs.plain e refl h
  by_longest_spelt (some x) (CutOr.one_cut g) = SpelledAs.plain e g.is g.letters

  by_cut_spelt : (ks : List KnownCut) → SpelledAs l (by_cut l ks)
  unfolding by_cut cuts
  by_cut_spelt [] = by_longest_spelt (longest (cuts l)) (longest_cut (cuts_of 0 prefixes l table))
  by_cut_spelt (k ∷ ks) = SpelledAs.is_known

  by_whole_spelt : (n : ℕ) (o : Option ℕ) → SpelledAs l (by_whole n l o)
  unfolding by_whole
  by_whole_spelt n none = by_cut_spelt (known_cuts n l)
  by_whole_spelt n (some u) = SpelledAs.is_known

  plain_spelt : (n : ℕ) → SpelledAs l (symbol n l)
  unfolding symbol by_quote
  plain_spelt n = rw e (by_whole_spelt n (unit_named n l))

-- SPELLINGS

letters_unquoted : (l : List ℕ) → T (all letter l) → T (all unquoted l)
unfolding all letter
letters_unquoted [] t = tt
letters_unquoted (c ∷ l) t =
    let w = both (letter c) (all letter l) t in
    T_and (unquoted c) (all unquoted l) (true→T {b = unquoted c} (rw (differs letter c quote w.0 refl))) (letters_unquoted l w.1)

some_letter : {l : List ℕ} → Letters l → 0 < length l
some_letter (Letters.letters t u) = omega arith

-- letters in quotes, after a prefix name or nothing
quoted_spelt : (n : ℕ) (p l : List ℕ) → prefix_letters (prefix_named p) ≡ p → T (all unquoted p) → Letters l
    → SpelledAs (p ++ (quote ∷ (l ++ (quote ∷ [])))) (symbol n (p ++ (quote ∷ (l ++ (quote ∷ [])))))
unfolding symbol by_quote
quoted_spelt n p l q t d =
    let a : run unquoted (p ++ (quote ∷ (l ++ (quote ∷ [])))) ≡ p = run_of unquoted p (quote ∷ (l ++ (quote ∷ []))) t (Stops.other refl) in
    let z : past unquoted (p ++ (quote ∷ (l ++ (quote ∷ [])))) ≡ quote ∷ (l ++ (quote ∷ [])) = past_of unquoted p (quote ∷ (l ++ (quote ∷ []))) t (Stops.other refl) in
    let m : run unquoted (l ++ (quote ∷ [])) ≡ l = run_of unquoted l (quote ∷ []) (letters_unquoted l (letters_all d)) (Stops.other refl) in
    rw (a, z, m) (SpelledAs.in_quotes (a ∙ sym q) z (some_letter d))

no_name : prefix_letters (prefix_named []) ≡ []
unfolding symbols_compute
no_name = refl

spelling_spelt : (n : ℕ) {r : Rules} {l : List ℕ} → SpellingBy r l → SpelledAs l (symbol n l)
unfolding past all
spelling_spelt n (SpellingBy.letters {l = l} d) =
    plain_spelt (some_letter d) (ap (past unquoted) (sym (append-nil l)) ∙ past_of unquoted l [] (letters_unquoted l (letters_all d)) Stops.end) n
spelling_spelt n (SpellingBy.percent e) = plain_spelt (omega arith) refl n
spelling_spelt n (SpellingBy.quoted e (Quoted.quoted {l = l} d)) = quoted_spelt n [] l no_name tt d
spelling_spelt n (SpellingBy.quoted e (Quoted.prefixed {p = p} {l = l} w d)) =
    rw (append_assoc p (quote ∷ l) (quote ∷ [])) (quoted_spelt n p l (name_named w) (letters_unquoted p (letters_all (prefix_lettered w))) d)

-- TERMS

-- a term's spelling is in the label s where the term says, and stands for the term's symbol
pub record TermSpelt (s : List ℕ) (t : Term) : Type 0 where
  pub spelling : List ℕ
  pub there : take t.size (drop t.start s) ≡ spelling
  pub sized : t.size ≡ length spelling
  pub spelt : SpelledAs spelling t.symbol

pub data AllSpelt (s : List ℕ) : List Term → Type 0 where
  none_spelt : AllSpelt s []
  all_spelt : {t : Term} {ts : List Term} → TermSpelt s t → AllSpelt s ts → AllSpelt s (t ∷ ts)

terms_spelt : (n : ℕ) (s : List ℕ) {r : Rules} {ps : List Part} {us : List Placed} → Values ps us → AllLocated s ps → AllParts r ps → AllSpelt s (map (term n (length s)) us)
unfolding term
terms_spelt n s Values.no_values AllLocated.none d = AllSpelt.none_spelt
terms_spelt n s (Values.value {p = p} e vs) (AllLocated.some w ws) (AllParts.also d ds) =
    AllSpelt.all_spelt (record { spelling = p.spelling; there = located_there w; sized = refl; spelt = spelling_spelt n d.spelled }) (terms_spelt n s vs ws ds)

pub reading_spelt : (n : ℕ) (s : List ℕ) → AllSpelt s (reading n s).terms
unfolding reading answered refusal reading_of
reading_spelt n s = go (answer_of n s)
  where
    go : Answered n s → AllSpelt s (reading n s).terms
    go (Answered.refusing i e d) = rw e AllSpelt.none_spelt
    go (Answered.accepting v a) =
        let l = (derives_by a.derived).2 in
        rw a.checks (terms_spelt n s (valued_values a.factor a.parts v a.within) (label_located l) (label_parts l))

-- THE PLACE OF THE LETTERS

module _ (p : Option ℕ) (m : List ℕ) (size : ℕ) where
  pub before_plain : size ≡ length (prefix_letters p) + length m → before_letters p m size ≡ length (prefix_letters p)
  unfolding before_letters
  before_plain e = rw (le-ltb (length (prefix_letters p) + length m) size (omega arith)) (omega arith)

  pub before_quoted : size ≡ length (prefix_letters p) + suc (length m + 1) → before_letters p m size ≡ length (prefix_letters p) + 1
  unfolding before_letters
  before_quoted e = rw (lt-ltb (length (prefix_letters p) + length m) size (omega arith))

-- bytes of a spelling are bytes of the label
in_label : (s : List ℕ) (start size b k : ℕ) {l : List ℕ} → take size (drop start s) ≡ l → b + k ≤ size → take k (drop (start + b) s) ≡ take k (drop b l)
in_label s start size b k e h =
    rw (← e, drop_take b size (drop start s), take-take k (size - b) (drop b (drop start s)) (omega arith), drop-drop b start s)

module _ (s : List ℕ) (start size : ℕ) {l : List ℕ} (e : take size (drop start s) ≡ l) (q : size ≡ length l) where
  letters_spelt : (x : Symbol) → SpelledAs l x → take (length (letters_of x)) (drop (letters_from x start size) s) ≡ letters_of x
  unfolding letters_of letters_from
  letters_spelt (known p u) SpelledAs.is_known = refl
  letters_spelt (unknown p m) (SpelledAs.plain w i h) =
      let z : size ≡ length (prefix_letters p) + length m = q ∙ ap length i ∙ length-append (prefix_letters p) m in
      rw (before_plain p m size z, in_label s start size (length (prefix_letters p)) (length m) e (omega arith), i, drop_at (prefix_letters p) m (length (prefix_letters p)) refl)
      (ap (take (length m)) (sym (append-nil m)) ∙ take_at m [] (length m) refl)
  letters_spelt (unknown p m) (SpelledAs.in_quotes r w h) =
      let i : l ≡ prefix_letters p ++ (quote ∷ (m ++ (quote ∷ []))) = run_past unquoted l ∙ rw (r, w) in
      let z : size ≡ length (prefix_letters p) + suc (length m + 1) = q ∙ ap length i ∙ length-append (prefix_letters p) (quote ∷ (m ++ (quote ∷ []))) ∙ ap (λ (k : ℕ). length (prefix_letters p) + suc k) (length-append m (quote ∷ [])) in
      let d : drop (length (prefix_letters p) + 1) (prefix_letters p ++ (quote ∷ (m ++ (quote ∷ [])))) ≡ m ++ (quote ∷ []) =
      rw (← drop-drop 1 (length (prefix_letters p)) (prefix_letters p ++ (quote ∷ (m ++ (quote ∷ [])))), drop_at (prefix_letters p) (quote ∷ (m ++ (quote ∷ []))) (length (prefix_letters p)) refl) in
      rw (before_quoted p m size z, in_label s start size (length (prefix_letters p) + 1) (length m) e (omega arith), i, d) (take_at m (quote ∷ []) (length m) refl)

-- the letters of every term are at their place
pub letters_there : (n : ℕ) (s : List ℕ)
    → map (λ (t : Term). take (letters_size t) (drop (letters_start t) s)) (reading n s).terms ≡ map (λ (t : Term). letters_of t.symbol) (reading n s).terms
letters_there n s = go (reading_spelt n s)
  where
    go : {ts : List Term} → AllSpelt s ts → map (λ (t : Term). take (letters_size t) (drop (letters_start t) s)) ts ≡ map (λ (t : Term). letters_of t.symbol) ts
    go AllSpelt.none_spelt = refl
    go (AllSpelt.all_spelt {t = t} d ds) = rw (letters_spelt s t.start t.size d.there d.sized t.symbol d.spelt, go ds)
