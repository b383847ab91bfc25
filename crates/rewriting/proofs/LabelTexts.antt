-- A whole label as it is written: its terms one by one, and the factor before them.
use Prim.Native.Nat.{ℕ, zero, suc, ◌+◌, ◌-◌, ◌/◌, ◌≤◌, ◌<◌, min}
use native.Mathlib.Omega.{arith}
use native.Mathlib.Numerals.{add-one}
use native.Mathlib.Decide.{dec_le}
use Rattle.std.proofs.Math.Nat.{min-eq_left}
use mathlib.Core.Path.{◌≡◌, refl, sym, ap, ◌∙◌}
use mathlib.Core.List.{List, [], ◌∷◌, ◌++◌, map}
use mathlib.Core.Option.{Option as Maybe, none, some}
use Rattle.std.specs.Prelude.{Option, Result}
use lib.ListN.{length, get_or, length-append}
use Rattle.std.proofs.lemmas.List.{get_or_default}
use Rattle.label.specs.declared.Tens.{Tens}
use Rattle.label.specs.Limits.{most_bytes}
use Rattle.label.specs.Ranges.{between}
use Rattle.label.specs.Options.{told}
use Rattle.label.specs.Reading as spec
use Rattle.label.specs.Writing.{Writable, factor_text, symbol_text, both_texts, unit_text, more_text, label_text, own_letters, writable}
use Rattle.label.specs.Rows.{Style}
use Rattle.label.proofs.Between.{drop_between}
use Rattle.symbols.specs.declared.SymbolAt.{SymbolAt}
use Rattle.symbols.specs.declared.UnitAt.{UnitAt}
use Rattle.symbols.specs.declared.UnitAt.TheVariants as unit
use Rattle.symbols.specs.Views.{unit_with, symbol_in}
use Rattle.descent.specs.declared.terms.Term.{Term}
use Rattle.descent.specs.Terms.{count, term_at}
use Rattle.content.specs.Views.{noted_symbol, no_symbol, symbol_at, terms_in}
use Rattle.reading.specs.declared.read.Content.{Content}
use Rattle.rewriting.specs.declared.form.UnitForm.{UnitForm}
use Rattle.rewriting.specs.declared.name.Own.{Own}
use Rattle.rewriting.specs.declared.unit.SourceTerm.{SourceTerm}
use Rattle.rewriting.specs.declared.text.Unkept.{Unkept}
use Rattle.rewriting.specs.Texts.{Adds, Writes, WritesForm}
use Rattle.rewriting.specs.Names.{OwnOf}
use Rattle.rewriting.specs.Forms.{written_form, raised_text, joint_before}
use Rattle.rewriting.specs.Units.{PrefixCode, LettersInside, OwnsName, Owns}
use Rattle.rewriting.specs.Sources.{first_terms, read_term, source_terms, AllTerms, own_of, TermIs}
use Rattle.rewriting.proofs.TextLaws.{both_assoc, both_empty, both_start, both_none, writes_nothing, has_form, both_forms, loses_after, form_loses_after}

-- A TERM

-- the letters from a place on, or none where they end before it
capped : (s : List ℕ) (a e : ℕ) {b : ℕ} → b ≡ min a e → between s b e ≡ between s a e
capped s a e {b = b} h = go (dec_le a e)
  where
    go : Dec (a ≤ e) → between s b e ≡ between s a e
    go (yes k) = rw (h, min-eq_left k)
    go (no k) = let x : e - b ≡ 0 = omega arith in let y : e - a ≡ 0 = omega arith in rw (x, y)

module _ {s : List ℕ} {t : Term} {u : SymbolAt} {code : ℕ} (c : PrefixCode u.prefix code) {first : ℕ} (h : first ≡ min (t.start + code / 65536) t.end)
    {own : Own} (o : OwnOf (between s first t.end) own) where
  pub term_is : TermIs s t u (record { unit = u; own = own })
  unfolding own_letters symbol_in
  term_is = record { unit = refl; own = record { owns = go u.unit } }
    where
      go : (v : UnitAt) → OwnsName (own_letters (unit_with s (told u.prefix) v) (between s t.start t.end)) own v
      go (unit.Known v) = rw (← c.size, drop_between s t.start t.end (code / 65536), ← capped s (t.start + code / 65536) t.end h) o
      go (unit.Unknown l) = tt

-- term i, by what is noted of it
pub noted_at : (c : Content) (i : ℕ) (d : SymbolAt) → i < length c.symbols → get_or c.symbols i d ≡ noted_symbol c.symbols i
noted_at c i d h = get_or_default c.symbols i d no_symbol h

-- its letters are in the label, which is short
pub letters_inside : {s : List ℕ} {c : Content} {i : ℕ} {t : Term} {x : SymbolAt} {r : SourceTerm} → AllTerms s c → i < count c.terms
    → x ≡ noted_symbol c.symbols i → TermIs s t x r → LettersInside s r.unit × (length s ≤ most_bytes)
letters_inside {i = i} a h q v = (rw (v.unit, q) (a.terms i h).letters, (a.terms i h).short)

-- in the form that its unit takes
module _ (y : Style) (m : ℕ) (s : List ℕ) (c : Content) (i : ℕ) {x : SymbolAt} (q : x ≡ noted_symbol c.symbols i) {r : SourceTerm}
    (v : TermIs s (term_at c.terms i) x r) (o : Option UnitForm) (g : (own : List ℕ) → Owns own r → written_form s o ≡ symbol_text y m own (symbol_in s r.unit)) where
  symbol_written : symbol_text y m (writable s (read_term s c i)).own (symbol_at s c.symbols i) ≡ written_form s o
  unfolding writable
  symbol_written =
      sym (g (own_of s (term_at c.terms i) (noted_symbol c.symbols i)) (rw q at v.own)
      ∙ ap (λ (u : SymbolAt). symbol_text y m (own_of s (term_at c.terms i) (noted_symbol c.symbols i)) (symbol_in s u)) (v.unit ∙ q))

  pub term_raised : raised_text y s o (term_at c.terms i).exponent ≡ unit_text y m (writable s (read_term s c i))
  unfolding unit_text writable
  term_raised = rw symbol_written

-- ONE TERM MORE

-- what label_text has after the factor
unfoldable pub terms_text : Style → ℕ → List Writable → Maybe (List ℕ)
terms_text y m [] = some []
terms_text y m (w ∷ ws) = both_texts (unit_text y m w) (more_text y m ws)

more_snoc : (y : Style) (m : ℕ) (ws : List Writable) (v : Writable)
    → more_text y m (ws ++ v ∷ []) ≡ both_texts (more_text y m ws) (both_texts (some y.joint) (unit_text y m v))
unfolding more_text
more_snoc y m [] v = rw (both_empty (unit_text y m v)) (sym (both_start _))
more_snoc y m (w ∷ ws) v =
    rw (more_snoc y m ws v, both_assoc (some y.joint) (both_texts (unit_text y m w) (more_text y m ws)) (both_texts (some y.joint) (unit_text y m v)), both_assoc (unit_text y m w) (more_text y m ws) (both_texts (some y.joint) (unit_text y m v)))

terms_snoc : (y : Style) (m : ℕ) (ws : List Writable) (v : Writable)
    → terms_text y m (ws ++ v ∷ []) ≡ both_texts (terms_text y m ws) (both_texts (some (joint_before y (length ws))) (unit_text y m v))
unfolding terms_text more_text joint_before
terms_snoc y m [] v = rw (both_empty (unit_text y m v)) (sym (both_start _ ∙ both_start _))
terms_snoc y m (w ∷ ws) v =
    rw (more_snoc y m ws v) (sym (both_assoc (unit_text y m w) (more_text y m ws) (both_texts (some y.joint) (unit_text y m v))))

label_terms : (y : Style) (m : ℕ) (k : Tens) (ws : List Writable) → 1 ≤ length ws → label_text y m k ws ≡ both_texts (factor_text y k) (terms_text y m ws)
unfolding label_text terms_text
label_terms y m k [] h = absurd (omega arith)
label_terms y m k (w ∷ ws) h = refl

map_snoc : (s : List ℕ) (ts : List spec.Term) (t : spec.Term) → map (writable s) (ts ++ t ∷ []) ≡ map (writable s) ts ++ writable s t ∷ []
map_snoc s [] t = refl
map_snoc s (x ∷ ts) t = ap (λ (l : List Writable). writable s x ∷ l) (map_snoc s ts t)

terms_length : (s : List ℕ) (c : Content) (i : ℕ) → length (map (writable s) (first_terms s c i)) ≡ i
unfolding terms_in
terms_length s c zero = refl
terms_length s c (suc i) = rw (map_snoc s (first_terms s c i) (read_term s c i), length-append) (rw (terms_length s c i) (add-one i))

-- the first i terms as they are written
abbrev pub text_of : Style → ℕ → List ℕ → Content → ℕ → Maybe (List ℕ)
text_of y m s c i = terms_text y m (map (writable s) (first_terms s c i))

-- from the value v of the array, the first i terms are written
pub record Termed (n : ℕ) (y : Style) (m : ℕ) (s : List ℕ) (c : Content) (v w : Result (List ℕ) Unkept) (i : ℕ) : Type 0 where
  pub written : WritesForm n v (text_of y m s c i) w

module _ (y : Style) (m : ℕ) (s : List ℕ) (c : Content) where
  pub no_term_yet : {n : ℕ} {v : Result (List ℕ) Unkept} → Termed n y m s c v v 0
  unfolding terms_in terms_text
  no_term_yet = record { written = has_form refl writes_nothing }

  pub no_terms : {n : ℕ} {v : Result (List ℕ) Unkept} (k : Tens) → count c.terms ≡ 0 → WritesForm n v (label_text y m k (map (writable s) (source_terms s c))) v
  unfolding terms_in label_text
  no_terms k e = rw e (has_form refl writes_nothing)

  -- one term more
  more_of : (i : ℕ) → text_of y m s c (i + 1) ≡ both_texts (text_of y m s c i) (both_texts (some (joint_before y i)) (unit_text y m (writable s (read_term s c i))))
  unfolding terms_in
  more_of i = rw (
    add-one i,
    map_snoc s (first_terms s c i) (read_term s c i),
    terms_snoc y m (map (writable s) (first_terms s c i)) (writable s (read_term s c i)),
    terms_length s c i,
  )

  -- a term without a form leaves none to those after it
  none_after : (n i j : ℕ) → i + n ≡ j → text_of y m s c i ≡ none → text_of y m s c j ≡ none
  unfolding both_texts
  none_after zero i j e h = let q : i ≡ j = omega arith in rw (← q) h
  none_after (suc n) i j e h = none_after n (i + 1) j (omega arith) (more_of i ∙ rw h)

  label_is : (k : Tens) → 1 ≤ count c.terms → label_text y m k (map (writable s) (source_terms s c)) ≡ both_texts (factor_text y k) (text_of y m s c (count c.terms))
  label_is k h = label_terms y m k (map (writable s) (source_terms s c)) (rw (terms_length s c (count c.terms)) h)

  -- no form for the factor, or for a term
  pub factor_formless : (k : Tens) → 1 ≤ count c.terms → factor_text y k ≡ none → label_text y m k (map (writable s) (source_terms s c)) ≡ none
  unfolding both_texts
  factor_formless k h e = label_is k h ∙ rw e

  pub label_formless : (k : Tens) (i : ℕ) → i < count c.terms → unit_text y m (writable s (read_term s c i)) ≡ none
      → label_text y m k (map (writable s) (source_terms s c)) ≡ none
  label_formless k i h e =
      let q : text_of y m s c (i + 1) ≡ none = more_of i ∙ rw (e, both_none (some (joint_before y i)), both_none (text_of y m s c i)) in
      label_is k (omega arith) ∙ rw (none_after (count c.terms - (i + 1)) (i + 1) (count c.terms) (omega arith) q, both_none (factor_text y k))

module _ {n : ℕ} {y : Style} {m : ℕ} {s : List ℕ} {c : Content} {v w : Result (List ℕ) Unkept} {i : ℕ} (l : Termed n y m s c v w i) where
  pub next_term : {p q : Result (List ℕ) Unkept} → Writes n w (joint_before y i) p → WritesForm n p (unit_text y m (writable s (read_term s c i))) q → Termed n y m s c v q (i + 1)
  next_term a b = record { written = rw (more_of y m s c i) (both_forms l.written (both_forms (has_form refl a) b)) }

  -- a term without a form, after the others
  pub term_loses : {u p q : Result (List ℕ) Unkept} {o : Maybe (List ℕ)} → WritesForm n u o v → Writes n w (joint_before y i) p → Adds n p none q → Adds n u none q
  term_loses f a b = form_loses_after f (form_loses_after l.written (loses_after a b))

  written_upto : (j : ℕ) → j ≡ i → WritesForm n v (text_of y m s c j) w
  written_upto j e = rw e l.written

  pub all_terms : (k : Tens) {u : Result (List ℕ) Unkept} → 1 ≤ count c.terms → count c.terms ≡ i → WritesForm n u (factor_text y k) v
      → WritesForm n u (label_text y m k (map (writable s) (source_terms s c))) w
  all_terms k h e a = rw (label_is y m s c k h) (both_forms a (written_upto (count c.terms) e))
