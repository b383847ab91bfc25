-- The letters of an unknown unit, as the symbols have them.
use Prim.Native.Nat.{ℕ, zero, suc, ◌+◌, ◌-◌, ◌≤◌, ◌<◌}
use native.Mathlib.Omega.{arith}
use native.Mathlib.Decide.{dec_lt}
use mathlib.Core.Path.{◌≡◌, refl, ap, ◌∙◌}
use mathlib.Core.List.{List, [], ◌∷◌, ◌++◌}
use mathlib.Core.Option.{Option}
use lib.ListN.{length, length-append}
use Rattle.label.specs.Bytes.{run, past}
use Rattle.label.specs.Options.{told}
use Rattle.label.specs.Ranges.{between}
use Rattle.label.specs.Symbols.{unknown, unquoted}
use Rattle.label.specs.Reading.{Term}
use Rattle.label.specs.Letters.{prefix_letters, letters_from, letters_of}
use Rattle.label.proofs.Basics.{run_past}
use Rattle.label.proofs.Lettering.{SpelledAs, TermSpelt, AllSpelt, before_plain, before_quoted}
use Rattle.label.proofs.Between.{length_between}
use Rattle.symbols.specs.declared.SymbolAt.{SymbolAt}
use Rattle.symbols.specs.declared.UnitAt.{UnitAt}
use Rattle.symbols.specs.declared.UnitAt.TheVariants.{Known, Unknown}
use Rattle.symbols.specs.declared.Span.{Span}
use Rattle.symbols.specs.Views.{span_letters, unit_with, symbol_in, LettersAt}
use Rattle.descent.specs.declared.terms.Terms.{Terms}
use Rattle.descent.specs.Terms.{term_at, InLabel}
use Rattle.content.specs.Views.{noted_symbol, unit_in, first_letter, last_letter, term_in, terms_in}
use Rattle.content.specs.Named.{LettersIn}
use Rattle.reading.specs.Answers.{LettersNoted}

all_but_last : {s : List ℕ} (ts : List Term) (t : Term) → AllSpelt s (ts ++ (t ∷ [])) → AllSpelt s ts × TermSpelt s t
all_but_last [] t (AllSpelt.all_spelt d ds) = (AllSpelt.none_spelt, d)
all_but_last (x ∷ ts) t (AllSpelt.all_spelt d ds) = let r = all_but_last ts t ds in (AllSpelt.all_spelt d r.0, r.1)

pub spelt_at : (s : List ℕ) (t : Terms) (x : List SymbolAt) (n i : ℕ) → AllSpelt s (terms_in s t x n) → i < n → TermSpelt s (term_in s t x i)
unfolding terms_in
spelt_at s t x zero i w h = absurd (omega arith)
spelt_at s t x (suc n) i w h = let r = all_but_last (terms_in s t x n) (term_in s t x n) w in go r.1 (spelt_at s t x n i r.0) (dec_lt i n)
  where
    go : TermSpelt s (term_in s t x n) → (i < n → TermSpelt s (term_in s t x i)) → Dec (i < n) → TermSpelt s (term_in s t x i)
    go r f (yes l) = f l
    go r f (no l) = let z : i ≡ n = omega arith in rw z r

-- AN UNKNOWN UNIT HAS LETTERS

some_letters : (s : List ℕ) (p : Option ℕ) (u : UnitAt) {w : List ℕ} {l : Span} → u ≡ Unknown l → SpelledAs w (unit_with s p u) → 0 < length (span_letters s l)
some_letters s p (Known r) e w = cc
some_letters s p (Unknown m) {w} {l} e d =
    let q : m ≡ l = cc in
    rw q at (go d)
  where
    go : SpelledAs w (unknown p (span_letters s m)) → 0 < length (span_letters s m)
    go (SpelledAs.plain a i h) = h
    go (SpelledAs.in_quotes r a h) = h

between_some : (s : List ℕ) (a z : ℕ) → 0 < length (between s a z) → a < z
between_some s a z h = go (dec_lt a z)
  where
    go : Dec (a < z) → a < z
    go (yes l) = l
    go (no l) = let e : z - a ≡ 0 = omega arith in absurd (omega (arith, rw e at h))

pub letters_some : (s : List ℕ) (t : Terms) (x : List SymbolAt) (i : ℕ) (l : Span) → TermSpelt s (term_in s t x i) → unit_in x i ≡ Unknown l → l.start < l.end
unfolding symbol_in
letters_some s t x i l w e = between_some s l.start l.end (some_letters s (told (noted_symbol x i).prefix) (unit_in x i) e w.spelt)

-- WHERE THE LETTERS ARE

module _ (s : List ℕ) (start end : ℕ) (p : Option ℕ) where
  abbrev NotedLetters : UnitAt → Type 0
  NotedLetters u =
      (first_letter u ≡ letters_from (unit_with s p u) start (end - start))
      × (last_letter u ≡ letters_from (unit_with s p u) start (end - start) + length (letters_of (unit_with s p u)))

  module _ {l : List ℕ} (e : between s start end ≡ l) (q : end - start ≡ length l) (f : start ≤ end) (g : end ≤ length s) where
    unknown_noted : (m : Span) → m.start ≤ m.end → m.end ≤ end → LettersAt s start end m.start m.end → SpelledAs l (unknown p (span_letters s m)) → NotedLetters (Unknown m)
    unfolding letters_from letters_of
    unknown_noted m h k w (SpelledAs.plain z i c) =
        let n : length (span_letters s m) ≡ m.end - m.start = length_between s m.start m.end (omega arith) in
        let size : end - start ≡ length (prefix_letters p) + length (span_letters s m) = q ∙ ap length i ∙ length-append (prefix_letters p) (span_letters s m) in
        let b = before_plain p (span_letters s m) (end - start) size in
        let y : m.end ≡ end = w.plain (ap (past unquoted) e ∙ z) in
        rw b (omega (arith, n, size, y))
    unknown_noted m h k w (SpelledAs.in_quotes r z c) =
        let n : length (span_letters s m) ≡ m.end - m.start = length_between s m.start m.end (omega arith) in
        let i : l ≡ prefix_letters p ++ (39 ∷ (span_letters s m ++ (39 ∷ []))) = run_past unquoted l ∙ rw (r, z) in
        let size : end - start ≡ length (prefix_letters p) + suc (length (span_letters s m) + 1) =
        q ∙ ap length i ∙ length-append (prefix_letters p) (39 ∷ (span_letters s m ++ (39 ∷ []))) ∙ ap (λ (j : ℕ). length (prefix_letters p) + suc j) (length-append (span_letters s m) (39 ∷ [])) in
        let b = before_quoted p (span_letters s m) (end - start) size in
        let y : m.start ≡ start + suc (length (run unquoted (between s start end))) = w.quoted 39 (span_letters s m ++ (39 ∷ [])) (ap (past unquoted) e ∙ z) in
        let o : length (run unquoted (between s start end)) ≡ length (prefix_letters p) = ap (λ (u : List ℕ). length (run unquoted u)) e ∙ ap length r in
        rw b (omega (arith, n, y, o))

    letters_noted : (u : UnitAt) → ((m : Span) → u ≡ Unknown m → (m.start ≤ m.end) × ((m.end ≤ end) × LettersAt s start end m.start m.end))
        → SpelledAs l (unit_with s p u) → NotedLetters u
    unfolding letters_from letters_of
    letters_noted (Known r) v w = (refl, refl)
    letters_noted (Unknown m) v w = let h = v m refl in unknown_noted m h.0 h.1.0 h.1.1 w

pub noted_at : (s : List ℕ) (t : Terms) (x : List SymbolAt) (i : ℕ) → InLabel s (term_at t i)
    → ((l : Span) → unit_in x i ≡ Unknown l → LettersIn s t i l) → TermSpelt s (term_in s t x i) → LettersNoted s t x i
unfolding symbol_in
noted_at s t x i v u w =
    let r = letters_noted s (term_at t i).start (term_at t i).end (told (noted_symbol x i).prefix) w.there w.sized v.forward v.within (unit_in x i)
    (λ l e. let o = u l e in (o.forward, (o.upto, o.there))) w.spelt in
    record { start = r.0; end = r.1 }
