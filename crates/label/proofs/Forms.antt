-- What has a form is what is written: the function and the relation of specs/Writing.antt.
use Prim.Native.Nat.{ℕ}
use mathlib.Core.Path.{◌≡◌, refl, sym, ◌∙◌}
use mathlib.Core.Bool.{Bool, true, false}
use mathlib.Core.List.{List, [], ◌∷◌, ◌++◌}
use mathlib.Core.Option.{Option, none, some}
use lib.Dec.{T}
use borrow.Author.Tests.{eq-eqb}
use Rattle.label.specs.declared.Rules.{Rules}
use Rattle.label.specs.Bytes.{all, percent, quote}
use Rattle.label.specs.Choice.{pick}
use Rattle.label.specs.Notations.{member}
use Rattle.label.specs.Units.{Name, unit_at}
use Rattle.label.specs.Symbols.{Symbol, known, unknown, has_name, unquoted, symbol}
use Rattle.label.specs.Lexical.{Letters}
use Rattle.label.specs.Letters.{prefix_letters}
use Rattle.label.specs.Writing.{same_prefix, same_symbol, reads_as, name_among, name_in, named_text, in_quotes, unknown_text, symbol_text, ReadsAs, NameIn, FirstName, TakesName, Form}
use Rattle.label.specs.Rows.{Style}
use Rattle.label.proofs.Basics.{false_true, none_some, T→true}
use Rattle.label.proofs.General.{SpellingBy}
use Rattle.label.proofs.Ruled.{RuledBy, spelled_by, Suited}
use Rattle.label.proofs.Spelled.{SpellingRead, read_as, same_self, NamedText, named_parts, UnknownText, unknown_parts, symbol_read}
use Rattle.label.proofs.Owned.{all_right, letters_unquoted, letters_prefixed, Sourced}

-- SPELLINGS OF A NOTATION

read_reads : {m : ℕ} {r : Rules} {x : Symbol} {l : List ℕ} → RuledBy m r → SpellingRead m r x l → ReadsAs m l x
read_reads o w = record { spelling = o.spells w.derived; is = w.is }

-- QUOTES

-- a text with a quote
quote_quoted : (a b : List ℕ) → T (all unquoted (a ++ quote ∷ b)) → ⊥
unfolding all
quote_quoted a b t = all_right unquoted a (quote ∷ b) t

percent_unquoted : T (all unquoted (percent ∷ []))
unfolding all
percent_unquoted = tt

-- a spelling with a quote is a quoted one
quotes_flag : {r : Rules} {t : List ℕ} → SpellingBy r t → (a b : List ℕ) → t ≡ a ++ quote ∷ b → r.quotes ≡ true
quotes_flag (SpellingBy.letters d) a b e = absurd (quote_quoted a b (rw e at (letters_unquoted d)))
quotes_flag (SpellingBy.percent f) a b e = absurd (quote_quoted a b (rw e at percent_unquoted))
quotes_flag {r} (SpellingBy.quoted f d) a b e = T→true r.quotes f

-- READING AS

prefix_self : (p : Option ℕ) → same_prefix p p ≡ true
prefix_self none = refl
prefix_self (some i) = eq-eqb i i refl

same_symbol_self : (x : Symbol) → same_symbol x x ≡ true
unfolding same_symbol
same_symbol_self (known p u) = rw (prefix_self p, eq-eqb u u refl)
same_symbol_self (unknown p l) = rw (prefix_self p, same_self l)

pub as_read : (m : ℕ) (l : List ℕ) (x : Symbol) → symbol m l ≡ x → reads_as m l x ≡ true
unfolding reads_as
as_read m l x e = rw (e, same_symbol_self x)

-- what is not so read
pub not_read : {m : ℕ} {l : List ℕ} {x : Symbol} → reads_as m l x ≡ false → ReadsAs m l x → ⊥
not_read {m} {l} {x} e w = false_true (sym e ∙ as_read m l x w.is)

-- NAMES

module _ (m : ℕ) (x : Name) (xs : List Name) where
  among_yes : member m x.known_in ≡ true → name_among m (x ∷ xs) ≡ some x.letters
  unfolding name_among
  among_yes e = rw (e, name_among)

  among_no : member m x.known_in ≡ false → name_among m (x ∷ xs) ≡ name_among m xs
  unfolding name_among
  among_no e = rw (e, name_among)

first_among : {m : ℕ} {xs : List Name} {l : List ℕ} → FirstName m xs l → name_among m xs ≡ some l
first_among {m} (FirstName.this {x = x} {xs = xs} e) = among_yes m x xs e
first_among {m} (FirstName.later {x = x} {xs = xs} e f) = among_no m x xs e ∙ first_among f

among_first : (m : ℕ) (l : List ℕ) (xs : List Name) → name_among m xs ≡ some l → FirstName m xs l
unfolding name_among
among_first m l [] h = absurd (none_some h)
among_first m l (x ∷ xs) h = go (member m x.known_in) refl (λ h. among_first m l xs h) h
  where
    go : (b : Bool) → member m x.known_in ≡ b → (name_among m xs ≡ some l → FirstName m xs l)
        → elim b as (λ (z : Bool). Option (List ℕ)) [ true ↦ some x.letters | false ↦ name_among m xs ] ≡ some l → FirstName m (x ∷ xs) l
    go true e ih h = let q : x.letters ≡ l = cc in rw (← q) (FirstName.this {x = x} {xs = xs} e)
    go false e ih h = FirstName.later e (ih h)

-- THE FORM OF A UNIT

not_named : {m u : ℕ} {own : List ℕ} → has_name m own (unit_at u).names ≡ false → NameIn m u own → ⊥
not_named e (NameIn.named f) = false_true (sym e ∙ f)

takes_name : (m u : ℕ) (own l : List ℕ) → name_in m own (unit_at u).names ≡ some l → TakesName m u own l
unfolding name_in
takes_name m u own l h = go (has_name m own (unit_at u).names) refl h
  where
    go : (b : Bool) → has_name m own (unit_at u).names ≡ b → pick b (some own) (name_among m (unit_at u).names) ≡ some l → TakesName m u own l
    go true e h = let q : own ≡ l = cc in rw (← q) (TakesName.keeps (NameIn.named e))
    go false e h = TakesName.takes (not_named e) (among_first m l (unit_at u).names h)

name_taken : {m u : ℕ} {own l : List ℕ} → TakesName m u own l → name_in m own (unit_at u).names ≡ some l
unfolding name_in
name_taken (TakesName.keeps (NameIn.named f)) = rw f
name_taken {m} {u} {own} (TakesName.takes {l = l} g f) = go (has_name m own (unit_at u).names) refl
  where
    go : (b : Bool) → has_name m own (unit_at u).names ≡ b → pick b (some own) (name_among m (unit_at u).names) ≡ some l
    go true k = absurd (g (NameIn.named k))
    go false k = first_among f

named_form : {m u : ℕ} {p : Option ℕ} {own t : List ℕ} → NamedText m p u own t → ReadsAs m t (known p u) → Form m own (known p u) t
named_form {m} {u} {p} {own} w d = rw (← w.is) (Form.by_name {l = w.name} (takes_name m u own w.name w.taken) (rw (← w.is) at d))

unknown_form : {y : Style} {m : ℕ} {p : Option ℕ} {l own t : List ℕ} → UnknownText y m p l t → ReadsAs m t (unknown p l) → Form m own (unknown p l) t
unknown_form {l = l} (UnknownText.plainly e) d = Form.plainly {l = l} d
unknown_form {l = l} (UnknownText.quoted e f) d = Form.quoted {l = l} (not_read e) d

-- the text of a known unit
known_text : (y : Style) {m : ℕ} {p : Option ℕ} {u : ℕ} {own t : List ℕ} → Form m own (known p u) t → symbol_text y m own (known p u) ≡ some t
unfolding symbol_text named_text
known_text y {m = m} {own = own} (Form.by_name {p = p} {u = u} {l = l} g w) = rw (name_taken g, as_read m (prefix_letters p ++ l) (known p u) w.is)

module _ {m : ℕ} {y : Style} (o : Suited m y) where
  -- what is written is a form
  pub text_form : {own : List ℕ} {x : Symbol} (t : List ℕ) → Sourced own x → symbol_text y m own x ≡ some t → Form m own x t
  unfolding symbol_text
  text_form {own} {x} t s h = go s h (read_reads o.ruled (symbol_read o.suits o.ruled t s h))
    where
      go : {z : Symbol} → Sourced own z → symbol_text y m own z ≡ some t → ReadsAs m t z → Form m own z t
      go (Sourced.bare_name {u = u} n k) h d = named_form (named_parts m none u own t h) d
      go (Sourced.letter_name {p = p} {u = u} n k e) h d = named_form (named_parts m p u own t h) d
      go (Sourced.no_unit_name {p = p} {l = l} e n) h d = unknown_form (unknown_parts y m p l t h) d

  plain_text : (p : Option ℕ) (l : List ℕ) → ReadsAs m (prefix_letters p ++ l) (unknown p l) → unknown_text y m p l ≡ some (prefix_letters p ++ l)
  unfolding unknown_text
  plain_text p l w = rw (as_read m (prefix_letters p ++ l) (unknown p l) w.is)

  quoted_text : (p : Option ℕ) (l : List ℕ) → Letters l → (ReadsAs m (prefix_letters p ++ l) (unknown p l) → ⊥) → ReadsAs m (prefix_letters p ++ in_quotes l) (unknown p l)
      → unknown_text y m p l ≡ some (prefix_letters p ++ in_quotes l)
  unfolding unknown_text
  quoted_text p l d f w = go (reads_as m (prefix_letters p ++ l) (unknown p l)) refl
    where
      flag : y.quotes ≡ true
      flag = o.suits.agrees.quotes ∙ quotes_flag (spelled_by o.ruled w.spelling) (prefix_letters p) (l ++ quote ∷ []) refl

      go : (b : Bool) → reads_as m (prefix_letters p ++ l) (unknown p l) ≡ b
          → pick b (some (prefix_letters p ++ l)) (pick y.quotes (some (prefix_letters p ++ in_quotes l)) none) ≡ some (prefix_letters p ++ in_quotes l)
      go true e = absurd (f (record { spelling = o.ruled.spells (SpellingBy.letters (letters_prefixed p d)); is = read_as m (prefix_letters p ++ l) (unknown p l) e }))
      go false e = rw flag

  unknown_written : {p : Option ℕ} {l own t : List ℕ} → Letters l → Form m own (unknown p l) t → symbol_text y m own (unknown p l) ≡ some t
  unfolding symbol_text
  unknown_written d (Form.plainly {p = p} {l = l} w) = plain_text p l w
  unknown_written d (Form.quoted {p = p} {l = l} f w) = quoted_text p l d f w

  -- a form is what is written
  pub form_text : {own t : List ℕ} {x : Symbol} → Sourced own x → Form m own x t → symbol_text y m own x ≡ some t
  form_text (Sourced.bare_name n k) f = known_text y f
  form_text (Sourced.letter_name n k d) f = known_text y f
  form_text (Sourced.no_unit_name d n) f = unknown_written d f

  -- a unit has one form at most
  pub one_form : {own s t : List ℕ} {x : Symbol} → Sourced own x → Form m own x s → Form m own x t → s ≡ t
  one_form d f g = let e = sym (form_text d f) ∙ form_text d g in cc
