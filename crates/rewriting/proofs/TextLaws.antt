-- Pieces of a text, one after the other.
use Prim.Native.Nat.{ℕ, ◌+◌, ◌≤◌, ◌<◌}
use native.Mathlib.Omega.{arith}
use native.Mathlib.Numerals.{add-one}
use mathlib.Core.Path.{◌≡◌, refl, sym, ap, ◌∙◌}
use mathlib.Core.Bool.{Bool, true, false}
use mathlib.Core.List.{List, [], ◌∷◌, ◌++◌, append_assoc, append-nil}
use mathlib.Core.Option.{Option as Maybe, none, some}
use lib.Dec.{leb}
use lib.ListN.{length, take, set, get_or, length-append}
use lib.Seq.{take-suc-set, length-take-le}
use borrow.Author.Tests.{le-leb, lt-leb, leb-true, leb-false}
use Rattle.std.proofs.lemmas.List.{take_more}
use Rattle.std.specs.Prelude.{Option, Some, None, Result, Ok, Err}
use Rattle.label.specs.Writing.{both_texts}
use Rattle.rewriting.specs.declared.text.Unkept.{Unkept}
use Rattle.rewriting.specs.declared.text.Unkept.TheVariants.{Overlong, WithoutForm}
use Rattle.rewriting.specs.Texts.{held, Adds, Writes, WritesForm, LosesForm, WritesText}

-- BOTH TEXTS

pub both_assoc : (a b c : Maybe (List ℕ)) → both_texts (both_texts a b) c ≡ both_texts a (both_texts b c)
unfolding both_texts
both_assoc none b c = refl
both_assoc (some s) none c = refl
both_assoc (some s) (some t) none = refl
both_assoc (some s) (some t) (some u) = ap (λ (l : List ℕ). some l) (append_assoc s t u)

pub both_empty : (a : Maybe (List ℕ)) → both_texts a (some []) ≡ a
unfolding both_texts
both_empty none = refl
both_empty (some s) = ap (λ (l : List ℕ). some l) (append-nil s)

pub both_start : (a : Maybe (List ℕ)) → both_texts (some []) a ≡ a
unfolding both_texts
both_start none = refl
both_start (some s) = refl

pub both_none : (a : Maybe (List ℕ)) → both_texts a none ≡ none
unfolding both_texts
both_none none = refl
both_none (some s) = refl

-- PIECES

-- nothing is written
pub writes_nothing : {n : ℕ} {v : Result (List ℕ) Unkept} → Writes n v [] v
writes_nothing = record { adds = λ x e. rw (both_empty x) e }

-- two pieces
pub adds_both : {n : ℕ} {u v w : Result (List ℕ) Unkept} {o p : Maybe (List ℕ)} → Adds n u o v → Adds n v p w → Adds n u (both_texts o p) w
adds_both {o = o} {p = p} a b = record { adds = λ x e. rw (← both_assoc x o p) (b.adds (both_texts x o) (a.adds x e)) }

pub writes_both : {n : ℕ} {u v w : Result (List ℕ) Unkept} {s t : List ℕ} → Writes n u s v → Writes n v t w → Writes n u (s ++ t) w
unfolding both_texts
writes_both a b = adds_both a b

-- the same piece under another name
pub writes_as : {n : ℕ} {v w : Result (List ℕ) Unkept} {s t : List ℕ} → s ≡ t → Writes n v t w → Writes n v s w
writes_as e a = rw e a

-- a piece that has a form
pub has_form : {n : ℕ} {v w : Result (List ℕ) Unkept} {o : Maybe (List ℕ)} {s : List ℕ} → o ≡ some s → Writes n v s w → WritesForm n v o w
has_form {s = s} e a = record { text = s; form = e; writes = a }

pub both_forms : {n : ℕ} {u v w : Result (List ℕ) Unkept} {o p : Maybe (List ℕ)} → WritesForm n u o v → WritesForm n v p w → WritesForm n u (both_texts o p) w
unfolding both_texts
both_forms a b = record { text = a.text ++ b.text; form = rw (a.form, b.form); writes = writes_both a.writes b.writes }

pub form_as : {n : ℕ} {v w : Result (List ℕ) Unkept} {o p : Maybe (List ℕ)} → o ≡ p → WritesForm n v p w → WritesForm n v o w
form_as e a = rw e a

-- a piece that has none
pub lacks_form : {n : ℕ} {v w : Result (List ℕ) Unkept} {o : Maybe (List ℕ)} → o ≡ none → Adds n v none w → LosesForm n v o w
lacks_form e a = record { formless = e; loses = a }

-- it leaves none to what came before it
pub loses_after : {n : ℕ} {u v w : Result (List ℕ) Unkept} {s : List ℕ} → Writes n u s v → Adds n v none w → Adds n u none w
unfolding both_texts
loses_after a b = adds_both a b

pub form_loses_after : {n : ℕ} {u v w : Result (List ℕ) Unkept} {o : Maybe (List ℕ)} → WritesForm n u o v → Adds n v none w → Adds n u none w
form_loses_after a b = loses_after a.writes b

-- a piece that has a form before one that may have none
pub then_text : {A : Type 0} {n : ℕ} {u v : Result (List ℕ) Unkept} {p : Maybe (List ℕ)} (o : Maybe (List ℕ)) (w : Result (List ℕ) Unkept) (r : Option A) → WritesForm n u p v → WritesText n v o r w
    → WritesText n u (both_texts p o) r w
then_text {p = p} o w None a b = lacks_form (ap (λ (q : Maybe (List ℕ)). both_texts p q) b.formless ∙ both_none p) (form_loses_after a b.loses)
then_text o w (Some x) a b = both_forms a b

-- a piece without a form before any other
pub then_nothing : {n : ℕ} {u w : Result (List ℕ) Unkept} {p : Maybe (List ℕ)} (o : Maybe (List ℕ)) → LosesForm n u p w → LosesForm n u (both_texts p o) w
unfolding both_texts
then_nothing o a = lacks_form (ap (λ (q : Maybe (List ℕ)). both_texts q o) a.formless) a.loses

-- WHAT THE ARRAY KEEPS

pub same_Ok : {E : Type 0} {x y : List ℕ} → ◌≡◌ {A = Result (List ℕ) E} (Ok x) (Ok y) → x ≡ y
same_Ok e = cc

pub ok_err : {E : Type 0} {x : List ℕ} {u : E} → ◌≡◌ {A = Result (List ℕ) E} (Ok x) (Err u) → ⊥
ok_err e = cc

pub held_whole : (n : ℕ) (x : List ℕ) → length x ≤ n → held n (some x) ≡ Ok x
unfolding held
held_whole n x h = rw (le-leb (length x) n h, held)

pub held_long : (n : ℕ) (x : List ℕ) → n < length x → held n (some x) ≡ Err Overlong
unfolding held
held_long n x h = rw (lt-leb (length x) n h, held)

-- a text that is kept is the whole text
pub held_some : (n : ℕ) (x : List ℕ) {y : List ℕ} → Ok y ≡ held n (some x) → (x ≡ y) × (length x ≤ n)
unfolding held
held_some n x {y} e = go (leb (length x) n) refl e
  where
    go : (b : Bool) → leb (length x) n ≡ b → Ok y ≡ (elim b as (λ (z : Bool). Result (List ℕ) Unkept) [ true ↦ Ok x | false ↦ Err Overlong ]) → (x ≡ y) × (length x ≤ n)
    go true p q = (cc, leb-true (length x) n p)
    go false p q = absurd (cc)

-- one that is not is longer
pub held_over : (n : ℕ) (x : List ℕ) {u : Unkept} → Err u ≡ held n (some x) → (u ≡ Overlong) × (n < length x)
unfolding held
held_over n x {u} e = go (leb (length x) n) refl e
  where
    go : (b : Bool) → leb (length x) n ≡ b → Err u ≡ (elim b as (λ (z : Bool). Result (List ℕ) Unkept) [ true ↦ Ok x | false ↦ Err Overlong ]) → (u ≡ Overlong) × (n < length x)
    go true p q = absurd (cc)
    go false p q = (cc, leb-false (length x) n p)

-- one without a form is not kept
formless_held : (n : ℕ) {y : List ℕ} → Ok y ≡ held n none → ⊥
unfolding held
formless_held n e = cc

-- a text from its start
pub from_start : {n : ℕ} {v w : Result (List ℕ) Unkept} {s : List ℕ} → v ≡ Ok [] → Writes n v s w → w ≡ held n (some s)
unfolding both_texts
from_start {n = n} e a = a.adds (some []) (e ∙ sym (held_whole n [] (omega arith)))

-- ONE BYTE

module _ {n : ℕ} {v : Result (List ℕ) Unkept} (byte : ℕ) where
  -- there is room
  pub push_fits : (b : List ℕ) (k : ℕ) → Ok (take k b) ≡ v → length b ≡ n → k < n → Writes n v (byte ∷ []) (Ok (take (k + 1) (set b k byte)))
  unfolding both_texts
  push_fits b k e h l = record { adds = λ o p. go o (e ∙ p) }
    where
      go : (o : Maybe (List ℕ)) → Ok (take k b) ≡ held n o → Ok (take (k + 1) (set b k byte)) ≡ held n (both_texts o (some (byte ∷ [])))
      go none p = absurd (formless_held n p)
      go (some x) p =
          let w = held_some n x p in
          let size : length x ≡ k = ap length w.0 ∙ length-take-le k b (omega arith) in
          rw (add-one k, take-suc-set b k byte (omega arith), ← w.0) (sym (held_whole n (x ++ byte ∷ []) (simp length-append (omega arith))))

  -- the array is full
  pub push_over : (b : List ℕ) (k : ℕ) → Ok (take k b) ≡ v → length b ≡ n → k ≤ n → n ≤ k → Writes n v (byte ∷ []) (Err Overlong)
  unfolding both_texts
  push_over b k e h l g = record { adds = λ o p. go o (e ∙ p) }
    where
      go : (o : Maybe (List ℕ)) → Ok (take k b) ≡ held n o → Err Overlong ≡ held n (both_texts o (some (byte ∷ [])))
      go none p = absurd (formless_held n p)
      go (some x) p =
          let w = held_some n x p in
          let size : length x ≡ k = ap length w.0 ∙ length-take-le k b (omega arith) in
          sym (held_long n (x ++ byte ∷ []) (simp length-append (omega arith)))

  -- the text was longer before, or had no form
  pub push_past : {u : Unkept} → Err u ≡ v → Writes n v (byte ∷ []) (Err u)
  unfolding both_texts
  push_past {u} e = record { adds = λ o p. go o (e ∙ p) }
    where
      go : (o : Maybe (List ℕ)) → Err u ≡ held n o → Err u ≡ held n (both_texts o (some (byte ∷ [])))
      go none p = p
      go (some x) p =
          let w = held_over n x p in
          rw w.0 (sym (held_long n (x ++ byte ∷ []) (simp length-append (omega (arith, w.1)))))

-- a piece without a form
pub form_lost : {n : ℕ} {v w : Result (List ℕ) Unkept} → w ≡ Err WithoutForm → Adds n v none w
unfolding held
form_lost e = record { adds = λ x p. rw (both_none x) e }

-- A PART OF A TEXT

-- one byte more of s
pub append_more : {n byte : ℕ} {u v w : Result (List ℕ) Unkept} (s : List ℕ) (i : ℕ) → Writes n u (take i s) v → i < length s → byte ≡ get_or s i byte
    → Writes n v (byte ∷ []) w → Writes n u (take (i + 1) s) w
append_more {byte = byte} s i a h e b = rw (take_more s i byte h, ← e) (writes_both a b)
