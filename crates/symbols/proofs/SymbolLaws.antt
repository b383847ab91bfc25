-- The rule of the first fit, by the two cuts that a spelling can have.
use Prim.Native.Nat.{ℕ, suc, ◌+◌, ◌-◌, ◌≤◌, ◌<◌}
use native.Mathlib.Omega.{arith}
use mathlib.Core.Path.{◌≡◌, refl, sym, ap, ◌∙◌}
use mathlib.Core.Bool.{true}
use mathlib.Core.List.{List, [], ◌∷◌, ◌++◌, append_assoc}
use mathlib.Core.Option.{Option, none, some}
use lib.Dec.{leb}
use lib.ListN.{length, drop, length-drop, drop_of_length-le}
use borrow.Author.Tests.{le-leb}
use Rattle.label.specs.Symbols.{Symbol, known, unknown, unit_named, Cut, KnownCut, cuts, known_by, known_among, known_cuts}
use Rattle.label.specs.Symbols.{longer, longest, by_longest, by_cut, by_whole, by_quote, unquoted, symbol}
use Rattle.label.specs.Bytes.{run}
use Rattle.label.specs.Prefixes.{prefix_named}
use Rattle.label.specs.Ranges.{between}
use Rattle.label.proofs.Between.{between_none, between_cons, length_between, take_between, drop_between}
use Rattle.std.specs.Prelude.{Option as Answer, Some, None, IfSome}
use Rattle.std.specs.Option.{option_or}
use Rattle.std.proofs.lemmas.Option.{none-some, same_Some}
use Rattle.symbols.specs.declared.PrefixCut.{PrefixCut}
use Rattle.symbols.specs.declared.SymbolAt.{SymbolAt}
use Rattle.symbols.specs.declared.UnitAt.{UnitAt}
use Rattle.symbols.specs.declared.UnitAt.TheVariants.{Known, Unknown}
use Rattle.symbols.specs.Columns.{prefix_count}
use Rattle.symbols.specs.Views.{symbol_in, unit_with, span_letters, after_prefix, prefix_cut, unit_cut, BoundedSymbol, UpTo, StartsAt, LettersOf}
use Rattle.symbols.specs.Views.{CutBy, CutAt, cut_prefix, cut_unit, KnownAs, KnownWith, FirstQuote}
use Rattle.symbols.proofs.CutLaws.{cut_list, two_then_one}

-- what a spelling stands for whose whole is unknown: prefixes p, q and units u, v after two letters and after one
unfoldable pub chosen : List ℕ → Option ℕ → Option ℕ → Option ℕ → Option ℕ → Symbol
chosen l p (some u) q v = known p u
chosen l p none q (some v) = known q v
chosen l (some i) none q none = unknown (some i) (drop 2 l)
chosen l none none (some j) none = unknown (some j) (drop 1 l)
chosen l none none none none = unknown none l

among_both : (n : ℕ) (xs ys : List Cut) → known_among n (xs ++ ys) ≡ known_among n xs ++ known_among n ys
unfolding known_among
among_both n [] ys = refl
among_both n (x ∷ xs) ys =
    rw (among_both n xs ys) (sym (append_assoc (known_by x (unit_named n x.rest)) (known_among n xs) (known_among n ys)))

-- by a list of cuts in place of the cuts of l
by_cuts : List ℕ → List Cut → List KnownCut → Symbol
by_cuts l cs (x ∷ xs) = known (some x.cut.prefix) x.unit
by_cuts l cs [] = by_longest l (longest cs)

by_cuts_are : (l : List ℕ) (cs : List Cut) (ks : List KnownCut) → cuts l ≡ cs → by_cut l ks ≡ by_cuts l cs ks
unfolding by_cut by_cuts
by_cuts_are l cs (x ∷ xs) e = refl
by_cuts_are l cs [] e = rw e

-- two cuts, of which the first leaves no more letters
two_cuts : (n : ℕ) (l a b : List ℕ) (p q : Option ℕ) (u v : Option ℕ) → unit_named n a ≡ u → unit_named n b ≡ v
    → a ≡ drop 2 l → b ≡ drop 1 l → leb (length a) (length b) ≡ true
    → by_cuts l (cut_list p a ++ cut_list q b) (known_among n (cut_list p a) ++ known_among n (cut_list q b))
    ≡ chosen l p (after_prefix p u) q (after_prefix q v)
unfolding by_cuts cut_list known_among known_by by_longest longest longer chosen
two_cuts n l a b none none u v e f c d h = refl
two_cuts n l a b none (some j) u none e f c d h = rw (f, d)
two_cuts n l a b none (some j) u (some v) e f c d h = rw f
two_cuts n l a b (some i) none none v e f c d h = rw (e, c)
two_cuts n l a b (some i) none (some u) v e f c d h = rw e
two_cuts n l a b (some i) (some j) none none e f c d h = rw (e, f, h, c)
two_cuts n l a b (some i) (some j) none (some v) e f c d h = rw (e, f)
two_cuts n l a b (some i) (some j) (some u) v e f c d h = rw e

-- What a spelling stands for whose whole is unknown.
pub by_cut_is : (n : ℕ) (l : List ℕ) → by_cut l (known_cuts n l) ≡ chosen l (prefix_cut 2 l) (unit_cut n 2 l) (prefix_cut 1 l) (unit_cut n 1 l)
unfolding known_cuts unit_cut
by_cut_is n l =
    by_cuts_are l (cut_list (prefix_cut 2 l) (drop 2 l) ++ cut_list (prefix_cut 1 l) (drop 1 l)) (known_among n (cuts l)) (two_then_one l)
    ∙ rw (two_then_one l, among_both n (cut_list (prefix_cut 2 l) (drop 2 l)) (cut_list (prefix_cut 1 l) (drop 1 l)))
    (two_cuts n l (drop 2 l) (drop 1 l) (prefix_cut 2 l) (prefix_cut 1 l) (unit_named n (drop 2 l)) (unit_named n (drop 1 l)) refl refl refl refl
    (le-leb (length (drop 2 l)) (length (drop 1 l)) (rw (length-drop 2 l, length-drop 1 l) (omega arith))))

-- ONE CUT

module _ (k : ℕ) (s : List ℕ) (start end : ℕ) (h : start ≤ end) (g : end ≤ length s) where
  none_left : end - start ≤ k → prefix_cut k (between s start end) ≡ none
  unfolding prefix_cut
  none_left f = rw (drop_of_length-le (between s start end) {i = k} (rw (length_between s start end g) f))

  some_left : k < end - start → prefix_cut k (between s start end) ≡ prefix_named (between s start (start + k))
  unfolding prefix_cut
  some_left f = rw (drop_between s start end k, between_cons s (start + k) end (omega arith) g, take_between s start end k (omega arith))

  pub cut_short : end - start ≤ k → CutAt k s start end None
  cut_short f = record { prefix_is = sym (none_left f); cut = tt }

  module _ (f : k < end - start) where
    pub cut_none : none ≡ prefix_named (between s start (start + k)) → CutAt k s start end None
    cut_none e = record { prefix_is = e ∙ sym (some_left f); cut = tt }

    pub cut_some : {p : ℕ} → some p ≡ prefix_named (between s start (start + k)) → p < prefix_count
        → CutAt k s start end (Some (record { prefix = p; rest = record { start = start + k; end = end } }))
    cut_some e b = record {
      prefix_is = e ∙ sym (some_left f);
      cut = record { place = b; first = refl; forward = omega arith; last = refl };
    }

-- the letters after a cut
rest_is : {k : ℕ} (s : List ℕ) {start end : ℕ} {c : PrefixCut} → CutBy k start end c → drop k (between s start end) ≡ span_letters s c.rest
rest_is {k} s {start} {end} w = rw (w.first, w.last) (drop_between s start end k)

-- the unit after a cut
unit_after : (n : ℕ) {k : ℕ} {s : List ℕ} {start end : ℕ} {r : Answer PrefixCut} → CutAt k s start end r
    → unit_cut n k (between s start end) ≡ cut_unit n s r
unfolding unit_cut
unit_after n {r = None} w = rw (← w.prefix_is)
unit_after n {s = s} {r = Some c} w = rw (← w.prefix_is, rest_is s w.cut)

-- a known symbol has no letters
pub known_bounded : (start end : ℕ) {p o : Option ℕ} {x : SymbolAt} → KnownWith p o x → BoundedSymbol start end x × UpTo end x.unit
known_bounded start end {p} {o} {x} w = (w.bounded start end, go x.unit w.unit_is)
  where
    go : (u : UnitAt) → KnownAs o u → UpTo end u
    go (Known u) e = tt
    go (Unknown l) e = elim e [ ]

-- THE CHOICE

-- a known symbol in the label s
known_in : (s : List ℕ) {p o : Option ℕ} {x : SymbolAt} (y : Symbol) → KnownWith p o x → ((u : ℕ) → o ≡ some u → known p u ≡ y) → symbol_in s x ≡ y
unfolding symbol_in
known_in s {p} {o} {x} y w f = rw w.prefix_is (go x.unit w.unit_is)
  where
    go : (u : UnitAt) → KnownAs o u → unit_with s p u ≡ y
    go (Known u) e = f u e
    go (Unknown l) e = elim e [ ]

module _ (n : ℕ) {s : List ℕ} {start end : ℕ} {two : Answer PrefixCut} (a : CutAt 2 s start end two) where
  -- what it stands for by its cut after two letters
  by_two : by_cut (between s start end) (known_cuts n (between s start end))
      ≡ chosen (between s start end) (cut_prefix two) (cut_unit n s two) (prefix_cut 1 (between s start end)) (unit_cut n 1 (between s start end))
  by_two = by_cut_is n (between s start end) ∙ rw (← a.prefix_is, unit_after n a)

  pub first_known : {x : SymbolAt} → KnownWith (cut_prefix two) (cut_unit n s two) x
      → symbol_in s x ≡ by_cut (between s start end) (known_cuts n (between s start end))
  unfolding chosen
  first_known w = known_in s _ w (λ u e. sym (by_two ∙ rw e))

  module _ (z : cut_unit n s two ≡ none) {one : Answer PrefixCut} (b : CutAt 1 s start end one) where
    -- and by both
    by_both : by_cut (between s start end) (known_cuts n (between s start end))
        ≡ chosen (between s start end) (cut_prefix two) none (cut_prefix one) (cut_unit n s one)
    by_both = by_two ∙ rw (z, ← b.prefix_is, unit_after n b)

    pub second_known : {x : SymbolAt} → KnownWith (cut_prefix one) (cut_unit n s one) x
        → symbol_in s x ≡ by_cut (between s start end) (known_cuts n (between s start end))
    unfolding chosen
    second_known w = known_in s _ w (λ u e. sym (by_both ∙ rw e))

    -- the unknown symbol with the first prefix that there is
    module _ (y : cut_unit n s one ≡ none) where
      by_none : by_cut (between s start end) (known_cuts n (between s start end))
          ≡ chosen (between s start end) (cut_prefix two) none (cut_prefix one) none
      by_none = by_both ∙ rw y

-- of two cuts the first that there is, or the whole
unknown_chosen : (s : List ℕ) (start end : ℕ) (two one : Answer PrefixCut) → IfSome two (CutBy 2 start end) → IfSome one (CutBy 1 start end)
    → (c : PrefixCut) → option_or two one ≡ Some c
    → unknown (some c.prefix) (span_letters s c.rest) ≡ chosen (between s start end) (cut_prefix two) none (cut_prefix one) none
unfolding chosen
unknown_chosen s start end (Some d) None a b c e = rw (← same_Some d c e, rest_is s a)
unknown_chosen s start end (Some d) (Some f) a b c e = rw (← same_Some d c e, rest_is s a)
unknown_chosen s start end None (Some d) a b c e = rw (← same_Some d c e, rest_is s b)
unknown_chosen s start end None None a b c e = absurd (none-some c e)

whole_chosen : (l : List ℕ) (two one : Answer PrefixCut) → option_or two one ≡ None
    → unknown none l ≡ chosen l (cut_prefix two) none (cut_prefix one) none
unfolding chosen
whole_chosen l None None e = refl
whole_chosen l None (Some d) e = absurd (none-some d (sym e))
whole_chosen l (Some d) one e = absurd (none-some d (sym e))

module _ (n : ℕ) {s : List ℕ} {start end : ℕ} {two one : Answer PrefixCut} (a : CutAt 2 s start end two) (z : cut_unit n s two ≡ none)
    (b : CutAt 1 s start end one) (y : cut_unit n s one ≡ none) where
  pub unknown_cut : {c : PrefixCut} → option_or two one ≡ Some c
      → unknown (some c.prefix) (span_letters s c.rest) ≡ by_cut (between s start end) (known_cuts n (between s start end))
  unknown_cut {c} e = unknown_chosen s start end two one a.cut b.cut c e ∙ sym (by_none n a z b y)

  pub unknown_whole : option_or two one ≡ None
      → unknown none (between s start end) ≡ by_cut (between s start end) (known_cuts n (between s start end))
  unknown_whole e = whole_chosen (between s start end) two one e ∙ sym (by_none n a z b y)

-- THE WHOLE

pub whole_known : (n : ℕ) (l : List ℕ) {u : ℕ} → some u ≡ unit_named n l → known none u ≡ by_whole n l (unit_named n l)
unfolding by_whole
whole_known n l e = rw (← e)

pub whole_other : (n : ℕ) (l : List ℕ) → none ≡ unit_named n l → by_cut l (known_cuts n l) ≡ by_whole n l (unit_named n l)
unfolding by_whole
whole_other n l e = rw (← e)

-- QUOTES

-- the first quote is at q, or there is none and q is the end
module _ (n : ℕ) {s : List ℕ} {start end q : ℕ} (g : end ≤ length s) (w : FirstQuote s start end q) where
  pub symbol_quoted : q < end → unknown (prefix_named (between s start q)) (run unquoted (between s (q + 1) end)) ≡ symbol n (between s start end)
  unfolding symbol by_quote
  symbol_quoted h = rw (← w.after, ← w.before, between_cons s q end h g)

  pub symbol_plain : end ≤ q → by_whole n (between s start end) (unit_named n (between s start end)) ≡ symbol n (between s start end)
  unfolding symbol by_quote
  symbol_plain h =
      let e : q ≡ end = omega (arith, w.upto) in
      rw (← w.after, e, between_none s end)

  pub letters_quoted : q < end → (u : UnitAt) → StartsAt (q + 1) u → LettersOf s start end u
  letters_quoted h (Known u) e = tt
  letters_quoted h (Unknown l) e = record {
    quoted = λ c t z. let k = length_between s start q (omega (arith, w.upto)) in rw (← w.before) (omega arith);
    plain = λ z. let k : suc (length (between s (q + 1) end)) ≡ 0 = ap length (sym (between_cons s q end h g) ∙ w.after ∙ z) in absurd (omega arith);
  }

  pub letters_plain : end ≤ q → (u : UnitAt) → UpTo end u → LettersOf s start end u
  letters_plain h (Known u) e = tt
  letters_plain h (Unknown l) e = record {
    quoted = λ c t z.
        let i : q ≡ end = omega (arith, w.upto) in
        let k : 0 ≡ suc (length t) = ap length (sym (between_none s end) ∙ rw i at w.after ∙ z) in
        absurd (omega arith);
    plain = λ z. e;
  }
