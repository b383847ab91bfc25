-- What is answered for a written text and a lent buffer, and for a label that is read.
use Prim.Native.Nat.{ℕ, ◌≤◌, ◌<◌}
use native.Mathlib.Omega.{arith}
use mathlib.Core.Path.{◌≡◌, refl, sym, ap, ◌∙◌}
use mathlib.Core.Bool.{true, false}
use mathlib.Core.List.{List, [], ◌++◌, map}
use mathlib.Core.Option.{none}
use lib.Dec.{eqb}
use lib.ListN.{length, drop}
use borrow.Author.Tests.{le-leb, lt-leb, ne_eqb}
use Rattle.std.specs.Prelude.{Option, Some, None, Result, Ok, Err}
use Rattle.std.specs.Option.{ok_or}
use Rattle.label.specs.declared.Refusal.{Refusal}
use Rattle.label.specs.declared.Refusal.TheVariants.{ShortBuffer}
use Rattle.label.specs.declared.Tens.{Tens}
use Rattle.label.specs.Notations.{notation}
use Rattle.label.specs.Refusals.{number_of}
use Rattle.label.specs.Writing.{Writable, Rewriting, refuse_rewriting, unless, sized, rewriting, label_text, written_by, written, writable, fitted, buffer_with}
use Rattle.label.specs.Reading.{reading}
use Rattle.symbols.specs.declared.UnitAt.{UnitAt}
use Rattle.symbols.specs.declared.UnitAt.TheVariants as unit
use Rattle.descent.specs.Terms.{count, term_at, InLabel}
use Rattle.content.specs.Views.{unit_in}
use Rattle.content.proofs.Naming.{all_in_at}
use Rattle.reading.specs.declared.read.Answer.{Answer}
use Rattle.reading.specs.declared.read.Content.{Content}
use Rattle.reading.specs.Views.{reading_in}
use Rattle.reading.specs.Answers.{AcceptedReading}
use Rattle.reading.proofs.Answering.{refusal_some}
use Rattle.notations.specs.declared.rows.Style.{Style}
use Rattle.notations.specs.Styles.{style_in, StyleOf}
use Rattle.rewriting.specs.declared.text.Unkept.{Unkept}
use Rattle.rewriting.specs.Texts.{WritesForm}
use Rattle.rewriting.specs.Units.{UnitInside}
use Rattle.rewriting.specs.Sources.{AllTerms, source_terms}
use Rattle.rewriting.specs.Buffers.{AnswerIs, accepted, Answers, Delivers, answer_of}
use Rattle.rewriting.proofs.TextLaws.{from_start, held_some, held_over}

-- REFUSALS

-- a refusal has no text, so it fits any buffer
pub fitted_refusal : (size i : ℕ) → fitted size (refuse_rewriting i) ≡ refuse_rewriting i
unfolding fitted unless
fitted_refusal size i = rw (le-leb 0 size (omega arith))

-- what a refusal answers, and what it leaves of the buffer
pub refuses : {x : Rewriting} (i : ℕ) → x ≡ refuse_rewriting i → AnswerIs x (record { number = i; length = 0 })
refuses i e = rw e (record { number = refl; length_is = refl })

pub keeps : {x : Rewriting} (i : ℕ) (b : List ℕ) → x ≡ refuse_rewriting i → b ≡ buffer_with x b
unfolding buffer_with
keeps i b e = rw e

pub refused : {x : Rewriting} {b : List ℕ} (e : Refusal) → x ≡ refuse_rewriting (number_of e) → Delivers x b (Err e) b
refused {b = b} e h =
    let f : fitted (length b) (refuse_rewriting (number_of e)) ≡ refuse_rewriting (number_of e) = fitted_refusal (length b) (number_of e) in
    rw h (record { answers = f; buffer = keeps (number_of e) b f })

-- the same under another name
pub delivers_as : {x y : Rewriting} {b c : List ℕ} {r : Result ℕ Refusal} → x ≡ y → Delivers y b r c → Delivers x b r c
delivers_as e w = rw e w

-- the refusal in place of nothing
pub refusal_is : {A : Type 0} (r : Option A) (e f : Refusal) → r ≡ None → ◌≡◌ {A = Result A Refusal} (Err f) (ok_or r e) → f ≡ e
refusal_is None e f h q = cc
refusal_is (Some x) e f h q = absurd (cc)

-- A TEXT FOR A BUFFER

module _ (t b : List ℕ) where
  -- 14
  pub too_short : length b < length t → Delivers (accepted t) b (Err ShortBuffer) b
  unfolding fitted unless
  too_short h =
      let f : fitted (length b) (accepted t) ≡ refuse_rewriting 14 = rw (lt-leb (length t) (length b) h) in
      record { answers = f; buffer = keeps 14 b f }

  -- the bytes of the text, and all others as they were
  pub long_enough : (n : ℕ) (c : List ℕ) → length t ≤ length b → n ≡ length t → c ≡ t ++ drop (length t) b → Delivers (accepted t) b (Ok n) c
  unfolding fitted unless buffer_with
  long_enough n c h e g =
      let f : fitted (length b) (accepted t) ≡ accepted t = rw (le-leb (length t) (length b) h) in
      record { answers = rw f (refl, sym e); buffer = rw f g }

-- A WRITTEN TEXT

-- a result as an answer
pub answered : {x : Rewriting} (r : Result ℕ Refusal) → Answers x r → AnswerIs x (answer_of r)
answered (Ok n) w = record { number = sym w.0; length_is = sym w.1 }
answered (Err e) w = refuses (number_of e) w

module _ {m : ℕ} {y : Style} (v : StyleOf m y) (h : notation m ≡ true) (k : Tens) (ws : List Writable) where
  abbrev wanted : Rewriting
  wanted = unless (notation m) 1 (sized (written m k ws))

  wanted_is : wanted ≡ sized (label_text (style_in y) y.notation k ws)
  unfolding unless written written_by
  wanted_is = rw (h, v.is, v.number)

  -- 12
  pub formless_is : label_text (style_in y) y.notation k ws ≡ none → wanted ≡ refuse_rewriting 12
  unfolding sized
  formless_is e = wanted_is ∙ rw e

  module _ {u w : Result (List ℕ) Unkept} (e : u ≡ Ok []) (f : WritesForm 255 u (label_text (style_in y) y.notation k ws) w) where
    -- 13
    pub long_is : {x : Unkept} → w ≡ Err x → wanted ≡ refuse_rewriting 13
    unfolding sized unless
    long_is g =
        let l : 255 < length f.text = (held_over 255 f.text (sym g ∙ from_start e f.writes)).1 in
        wanted_is ∙ rw (f.form, lt-leb (length f.text) 255 l)

    -- the text that was written
    pub text_is : (t : List ℕ) → w ≡ Ok t → (wanted ≡ accepted t) × (length t ≤ 255)
    unfolding sized unless
    text_is t g =
        let l = held_some 255 f.text (sym g ∙ from_start e f.writes) in
        let short : length f.text ≤ 255 = l.1 in
        (wanted_is ∙ rw (f.form, le-leb (length f.text) 255 short, l.0), omega (arith, l.1, ap length l.0))

pub not_wanted : (m : ℕ) (x : Rewriting) → notation m ≡ false → unless (notation m) 1 x ≡ refuse_rewriting 1
unfolding unless
not_wanted m x h = rw h

-- A LABEL THAT IS READ

-- the refusal is due before all else
pub refused_first : {i : ℕ} (x : Rewriting) (e : Refusal) → number_of e ≡ i → unless (eqb i 0) i x ≡ refuse_rewriting (number_of e)
unfolding unless
refused_first {i = i} x e h = rw (← h, ne_eqb (number_of e) 0 (λ z. omega (arith, refusal_some e)))

module _ (n : ℕ) (s : List ℕ) (m : ℕ) where
  pub source_refused : (e : Refusal) → number_of e ≡ (reading n s).number → rewriting n s m ≡ refuse_rewriting (number_of e)
  unfolding rewriting
  source_refused e h = refused_first _ e h

module _ {n : ℕ} {s : List ℕ} {c : Content} {a : Answer} (w : AcceptedReading n s c a) where
  pub terms_are : AllTerms s c
  terms_are = record {
    few = w.within.few;
    terms = λ i h.
        let t = all_in_at c.terms (count c.terms) i w.within.inside h in
        record { short = w.within.short; few = omega (arith, w.within.few); inside = t; letters = record { inside = go i h t (unit_in c.symbols i) refl } };
  }
    where
      go : (i : ℕ) → i < count c.terms → InLabel s (term_at c.terms i) → (u : UnitAt) → unit_in c.symbols i ≡ u → UnitInside s u
      go i h t (unit.Known u) e = tt
      go i h t (unit.Unknown l) e =
          let v = w.letters i l h e in
          record { forward = omega (arith, v.some); within = omega (arith, v.upto, t.within) }

  pub source_read : (m : ℕ) → rewriting n s m ≡ unless (notation m) 1 (sized (written m a.k (map (writable s) (source_terms s c))))
  unfolding rewriting unless reading_in
  source_read m = rw (← w.is)
