-- Units as they are written: symbols compared, and the form that a unit takes: plain, quoted, or none.
use Prim.Native.Nat.{ℕ, ◌+◌, ◌-◌, ◌%◌, ◌≤◌}
use lib.Seq.{take_all}
use native.Mathlib.Omega.{arith}
use mathlib.Core.Path.{◌≡◌, refl, sym, ap, ◌∙◌}
use mathlib.Core.Bool.{Bool, true, false, ◌&&◌}
use mathlib.Core.List.{List, [], ◌∷◌, ◌++◌, append-nil}
use mathlib.Core.Option.{Option as Maybe, none, some}
use lib.Pointwise.{pointwise}
use Rattle.std.specs.Prelude.{Option, Some, None, Result, Ok, Err, MatchResult}
use Rattle.std.specs.Borrow.{Bor}
use Rattle.std.specs.Result.{result_ok}
use Rattle.std.proofs.lemmas.Option.{same_Some}
use lib.Dec.{eqb}
use lib.ListN.{length, length-append}
use borrow.Author.Tests.{eq-eqb, ne_eqb}
use Rattle.label.proofs.Basics.{none_some}
use Rattle.label.specs.Bytes.{same}
use Rattle.label.specs.Choice.{pick}
use Rattle.label.specs.Options.{told}
use Rattle.label.specs.Ranges.{between}
use Rattle.label.specs.Symbols.{known, unknown, symbol}
use Rattle.label.specs.Symbols as spec
use Rattle.label.specs.Units.{Name, unit_at}
use Rattle.label.specs.Letters.{prefix_letters}
use Rattle.label.specs.Writing.{same_prefix, same_symbol, reads_as, name_in, named_text, in_quotes, unknown_text, symbol_text, both_texts}
use Rattle.label.specs.Rows.{Style}
use Rattle.label.proofs.Between.{length_between}
use Rattle.label.specs.Limits.{most_bytes}
use Rattle.symbols.specs.declared.SymbolAt.{SymbolAt}
use Rattle.symbols.specs.Columns.{NameAt}
use Rattle.symbols.specs.declared.unit_table.Name as entry
use Rattle.symbols.specs.declared.Span.{Span}
use Rattle.symbols.specs.declared.UnitAt.{UnitAt}
use Rattle.symbols.specs.declared.UnitAt.TheVariants as unit
use Rattle.symbols.specs.Views.{span_letters, unit_with, symbol_in}
use Rattle.rewriting.specs.declared.form.NameForm.{NameForm}
use Rattle.rewriting.specs.declared.form.NameForm.TheVariants.{Plain, Quoted}
use Rattle.rewriting.specs.declared.form.UnitForm.{UnitForm}
use Rattle.rewriting.specs.declared.name.NameRange.{NameRange}
use Rattle.rewriting.specs.declared.unit.SourceTerm.{SourceTerm}
use Rattle.rewriting.specs.declared.text.Unkept.{Unkept}
use Rattle.rewriting.specs.Texts.{text_room, held, WritesForm}
use Rattle.rewriting.specs.Letters.{letters_of, most_in_prefix}
use Rattle.rewriting.specs.Names.{name_at, names_in, NamesOf, OwnOf}
use Rattle.rewriting.specs.Forms.{name_text, form_text, written_form, NameInside}
use Rattle.rewriting.specs.Units.{PrefixCode, UnitInside, LettersInside, Owns, plain_name, plain_text, PlainName, NameAlone, PlainOf}
use Rattle.rewriting.proofs.TextLaws.{same_Ok, ok_err, held_whole, from_start}
use Rattle.rewriting.proofs.LetterLaws.{letters_most}
use Rattle.rewriting.proofs.NameTable.{name_letters}

-- SYMBOLS COMPARED

same_place : (a b : Option ℕ) → a ≡ b → same_prefix (told a) (told b) ≡ true
same_place None b e = rw (← e) refl
same_place (Some a) b e = rw (← e) (eq-eqb a a refl)

other_place : (a b : Option ℕ) → (a ≡ b → ⊥) → same_prefix (told a) (told b) ≡ false
other_place None None h = absurd (h refl)
other_place None (Some b) h = refl
other_place (Some a) None h = refl
other_place (Some a) (Some b) h = ne_eqb a b (λ e. h (ap (λ (i : ℕ). Some i) e))

module _ (s t : List ℕ) (x y : SymbolAt) where
  abbrev alike : Bool
  alike = same_symbol (symbol_in s x) (symbol_in t y)

  pub other_prefix : (x.prefix ≡ y.prefix → ⊥) → false ≡ alike
  unfolding symbol_in same_symbol
  other_prefix h = go x.unit y.unit
    where
      go : (u v : UnitAt) → false ≡ same_symbol (unit_with s (told x.prefix) u) (unit_with t (told y.prefix) v)
      go (unit.Known u) (unit.Known v) = rw (other_place x.prefix y.prefix h)
      go (unit.Known u) (unit.Unknown l) = refl
      go (unit.Unknown k) (unit.Known v) = refl
      go (unit.Unknown k) (unit.Unknown l) = rw (other_place x.prefix y.prefix h)

  pub known_first : {u : ℕ} {l : Span} → x.unit ≡ unit.Known u → y.unit ≡ unit.Unknown l → false ≡ alike
  unfolding symbol_in same_symbol
  known_first a b = rw (a, b) refl

  pub known_second : {l : Span} {v : ℕ} → x.unit ≡ unit.Unknown l → y.unit ≡ unit.Known v → false ≡ alike
  unfolding symbol_in same_symbol
  known_second a b = rw (a, b) refl

  module _ (e : x.prefix ≡ y.prefix) where
    pub both_known : {u v : ℕ} → x.unit ≡ unit.Known u → y.unit ≡ unit.Known v → eqb u v ≡ alike
    unfolding symbol_in same_symbol
    both_known a b = rw (a, b, same_place x.prefix y.prefix e)

    pub both_unknown : {k l : Span} → x.unit ≡ unit.Unknown k → y.unit ≡ unit.Unknown l → same (span_letters s k) (span_letters t l) ≡ alike
    unfolding symbol_in same_symbol
    both_unknown a b = rw (a, b, same_place x.prefix y.prefix e)

-- slices are compared as letters
pub same_slices : (s t : List ℕ) → pointwise eqb s t ≡ same s t
unfolding same
same_slices [] [] = refl
same_slices [] (d ∷ t) = refl
same_slices (c ∷ s) [] = refl
same_slices (c ∷ s) (d ∷ t) = ap (λ (b : Bool). eqb c d && b) (same_slices s t)

-- THE TEXT OF A UNIT

between_whole : (t : List ℕ) → between t 0 (length t) ≡ t
between_whole t = let e : length t - 0 ≡ length t = omega arith in rw e (take_all (length t) t (omega arith))

same_text : {a c : List ℕ} → some a ≡ some c → a ≡ c
same_text h = cc

module _ (m u : ℕ) (p : Maybe ℕ) where
  named_none : (o : Maybe (List ℕ)) → both_texts (some (prefix_letters p)) o ≡ none → named_text m p u o ≡ none
  unfolding both_texts named_text
  named_none none e = refl
  named_none (some l) e = absurd (none_some (sym e))

  named_some : (o : Maybe (List ℕ)) (t : List ℕ) (b : Bool) → both_texts (some (prefix_letters p)) o ≡ some t → same_symbol (symbol m t) (known p u) ≡ b
      → named_text m p u o ≡ pick b (some t) none
  unfolding both_texts named_text reads_as
  named_some none t b e f = absurd (none_some e)
  named_some (some l) t b e f = let q : prefix_letters p ++ l ≡ t = cc in rw (q, f)

module _ (y : Style) (m : ℕ) (own s : List ℕ) (x : SymbolAt) where
  abbrev whole : spec.Symbol
  whole = symbol_in s x

  abbrev before : List ℕ
  before = prefix_letters (told x.prefix)

  -- no name
  no_plain : plain_text m own s x ≡ none → symbol_text y m own whole ≡ none
  unfolding plain_text symbol_in symbol_text both_texts
  no_plain e = go x.unit e
    where
      go : (u : UnitAt) → both_texts (some before) (plain_name m own s u) ≡ none → symbol_text y m own (unit_with s (told x.prefix) u) ≡ none
      go (unit.Known u) e = named_none m u (told x.prefix) (name_in m own (unit_at u).names) e
      go (unit.Unknown l) e = absurd (none_some (sym e))

  module _ (t : List ℕ) (e : plain_text m own s x ≡ some t) where
    known_text : {u : ℕ} → x.unit ≡ unit.Known u → (b : Bool) → same_symbol (symbol m t) whole ≡ b → symbol_text y m own whole ≡ pick b (some t) none
    unfolding plain_text symbol_in symbol_text
    known_text {u} q b f =
        rw q (named_some m u (told x.prefix) (name_in m own (unit_at u).names) t b (rw q at e) (rw q at f))

    unknown_is : {l : Span} → x.unit ≡ unit.Unknown l → (b : Bool) → same_symbol (symbol m t) whole ≡ b
        → symbol_text y m own whole ≡ pick b (some t) (pick y.quotes (some (before ++ in_quotes (span_letters s l))) none)
    unfolding plain_text symbol_in symbol_text unknown_text reads_as both_texts
    unknown_is {l} q b f =
        let r : before ++ span_letters s l ≡ t = same_text (rw q at e) in
        rw (q, r, rw q at f)

    written_plainly : same_symbol (symbol m t) whole ≡ true → symbol_text y m own whole ≡ some t
    written_plainly f = go x.unit refl
      where
        go : (u : UnitAt) → x.unit ≡ u → symbol_text y m own whole ≡ some t
        go (unit.Known u) q = known_text q true f
        go (unit.Unknown l) q = unknown_is q true f

-- THE FORM WITHOUT QUOTES

keyless : length (letters_of 8 0) ≡ 0
unfolding letters_of
keyless = refl

-- the letters of an unknown unit
pub plain_lettered : {m : ℕ} {r : SourceTerm} {l : Span} {code : ℕ} → PrefixCode r.unit.prefix code → r.unit.unit ≡ unit.Unknown l
    → PlainOf m r (Some (record { prefix = code % 65536; name = Plain 0 l }))
unfolding written_form form_text plain_text letters_of both_texts
plain_lettered w q = record { text = λ own o s. rw (q, w.letters); name = rw q (record { keyless = refl; letters = refl }); prefix = w.letters }

-- a known unit and the name that it takes
module _ (m : ℕ) (r : SourceTerm) {x : NameRange} {u : ℕ} (q : r.unit.unit ≡ unit.Known u) (n : NamesOf u x) (name : Option ℕ)
    (f : (l : List ℕ) → OwnOf l r.own → name_at name ≡ name_in m l (names_in x)) where
  takes : (own : List ℕ) → Owns own r → name_in m own (unit_at u).names ≡ name_at name
  takes own o = sym (f own (rw q at o.owns) ∙ ap (λ (xs : List Name). name_in m own xs) n.are)

  pub plain_unnamed : name ≡ None → PlainOf m r None
  unfolding written_form plain_text both_texts name_at
  plain_unnamed z = record { text = λ own o s. rw (q, takes own o, z); name = tt; prefix = tt }

  pub plain_named : (i : ℕ) → name ≡ Some i → {code : ℕ} {y : entry.Name} → PrefixCode r.unit.prefix code → NameAt i y
      → PlainOf m r (Some (record { prefix = code % 65536; name = Plain y.key (record { start = 0; end = 0 }) }))
  unfolding written_form form_text plain_text both_texts name_at
  plain_named i z w e = record {
    text = λ own o s. rw (q, takes own o, z, e.key_is, name_letters i, append-nil, w.letters);
    name = rw q (record { start = refl; end = refl });
    prefix = w.letters;
  }

-- its name stands alone, or its letters
pub plain_alone : {m : ℕ} {r : SourceTerm} {f : UnitForm} → PlainOf m r (Some f) → NameAlone r.unit.unit f.name
plain_alone {r = r} {f = f} w = go r.unit.unit f.name w.name
  where
    go : (u : UnitAt) (n : NameForm) → PlainName u n → NameAlone u n
    go (unit.Known u) (Plain k p) q = q
    go (unit.Known u) (Quoted k p) q = absurd q
    go (unit.Unknown l) (Plain k p) q = q
    go (unit.Unknown l) (Quoted k p) q = absurd q

module _ {m : ℕ} {s : List ℕ} {r : SourceTerm} {f : UnitForm} (w : PlainOf m r (Some f)) (v : LettersInside s r.unit) where
  pub plain_in : NameInside s f.name
  plain_in = go r.unit.unit f.name v.inside w.name
    where
      go : (u : UnitAt) (n : NameForm) → UnitInside s u → PlainName u n → NameInside s n
      go (unit.Known u) (Plain k p) a q = record { forward = omega (arith, q.start); within = omega (arith, q.end) }
      go (unit.Known u) (Quoted k p) a q = absurd q
      go (unit.Unknown l) (Plain k p) a q = rw q.letters a
      go (unit.Unknown l) (Quoted k p) a q = absurd q

  -- it is short enough for the array
  plain_short : length s ≤ most_bytes → length (form_text s f) ≤ text_room
  unfolding form_text
  plain_short h = rw length-append (go r.unit.unit f.name plain_in w.name)
    where
      go : (u : UnitAt) (n : NameForm) → NameInside s n → PlainName u n → length (letters_of most_in_prefix f.prefix) + length (name_text s n) ≤ text_room
      go (unit.Known u) (Plain k p) i q =
          rw length-append (omega (arith, letters_most 2 f.prefix, letters_most 8 k, length_between s p.start p.end i.within, q.start, q.end))
      go (unit.Unknown l) (Plain k p) i q =
          let none : length (letters_of 8 k) ≡ 0 = ap (λ (n : ℕ). length (letters_of 8 n)) q.keyless ∙ keyless in
          rw length-append (omega (arith, letters_most 2 f.prefix, none, length_between s p.start p.end i.within))
      go (unit.Known u) (Quoted k p) i q = absurd q
      go (unit.Unknown l) (Quoted k p) i q = absurd q

  -- so the array keeps it
  pub plain_kept : {t u : Result (List ℕ) Unkept} → length s ≤ most_bytes → u ≡ Ok [] → WritesForm text_room u (written_form s (Some f)) t → t ≡ Ok (form_text s f)
  unfolding written_form
  plain_kept h e d = from_start e d.writes ∙ ap (λ (o : Maybe (List ℕ)). held text_room o) (sym d.form) ∙ held_whole text_room (form_text s f) (plain_short h)

  module _ (y : Style) (own : List ℕ) (o : Owns own r) where
    abbrev target_text : Maybe (List ℕ)
    target_text = symbol_text y m own (symbol_in s r.unit)

    -- the target's reading t of the unit without quotes is compared with the unit
    module _ {t : List ℕ} (q : form_text s f ≡ t) (x : SymbolAt) (j : symbol_in t x ≡ symbol m (between t 0 (length t)))
        {c : Bool} (i : c ≡ same_symbol (symbol_in t x) (symbol_in s r.unit)) where
      compared : same_symbol (symbol m t) (symbol_in s r.unit) ≡ c
      compared = sym (i ∙ rw (j, between_whole t))

      here : plain_text m own s r.unit ≡ some t
      unfolding written_form
      here = sym (w.text own o s) ∙ ap (λ (l : List ℕ). some l) q

      pub reads_plain : c ≡ true → written_form s (Some f) ≡ target_text
      unfolding written_form
      reads_plain e = ap (λ (l : List ℕ). some l) q ∙ sym (written_plainly y m own s r.unit t here (compared ∙ e))

      pub reads_other : c ≡ false → {u : ℕ} → r.unit.unit ≡ unit.Known u → written_form s None ≡ target_text
      unfolding written_form
      reads_other e k = sym (known_text y m own s r.unit t here k false (compared ∙ e))

      module _ (e : c ≡ false) {l : Span} (k : r.unit.unit ≡ unit.Unknown l) where
        pub reads_quoted : y.quotes ≡ true → written_form s (Some (record { prefix = f.prefix; name = Quoted 0 l })) ≡ target_text
        unfolding written_form form_text letters_of
        reads_quoted g = rw w.prefix (sym (unknown_is y m own s r.unit t here k false (compared ∙ e) ∙ rw g))

        pub reads_not : y.quotes ≡ false → written_form s None ≡ target_text
        unfolding written_form
        reads_not g = sym (unknown_is y m own s r.unit t here k false (compared ∙ e) ∙ rw g)

-- what an array kept is what is lent of it
module _ {v : Result (List ℕ) Unkept} {t : List ℕ} (k : v ≡ Ok t) where
  pub lent_text : (r : Result (Bor (List ℕ)) Unkept) {x : Bor (List ℕ)} → MatchResult r (λ s. v ≡ Ok s.now) (λ e. v ≡ Err e) → Some x ≡ result_ok r → t ≡ x.now
  lent_text (Ok s) h e = let q : t ≡ s.now = same_Ok (sym k ∙ h) in let i = same_Some _ _ e in q ∙ ap (λ (y : Bor (List ℕ)). y.now) (sym i)
  lent_text (Err u) h e = absurd (cc)

  pub is_lent : (r : Result (Bor (List ℕ)) Unkept) → MatchResult r (λ s. v ≡ Ok s.now) (λ e. v ≡ Err e) → None ≡ result_ok r → ⊥
  is_lent (Ok s) h e = cc
  is_lent (Err u) h e = ok_err (sym k ∙ h)

-- a unit in a form has one
pub form_is : (s : List ℕ) (f : UnitForm) → written_form s (Some f) ≡ none → ⊥
unfolding written_form
form_is s f e = none_some (sym e)

-- no name
pub unnamed_plain : {m : ℕ} {r : SourceTerm} → PlainOf m r None → (s : List ℕ) (y : Style) (own : List ℕ) → Owns own r
    → written_form s None ≡ symbol_text y m own (symbol_in s r.unit)
unfolding written_form
unnamed_plain {m = m} {r = r} w s y own o = sym (no_plain y m own s r.unit (sym (w.text own o s)))
