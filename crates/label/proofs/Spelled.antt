-- Spellings and exponents that a style writes: each is in the notation's grammar, and is read as what it was written for.
use Prim.Native.Nat.{ℕ, ◌*◌, ◌≤◌}
use native.Mathlib.Omega.{arith}
use native.Mathlib.Nat.{mul-le-mul}
use mathlib.Core.Path.{◌≡◌, refl, sym, ap, ◌∙◌}
use mathlib.Core.Bool.{Bool, true, false, ◌&&◌, ◌||◌}
use mathlib.Core.List.{List, [], ◌∷◌, ◌++◌, append_assoc}
use mathlib.Core.Option.{Option, none, some}
use lib.Dec.{T, eqb}
use lib.IntN.{nat_abs}
use borrow.Author.Tests.{eqb-true, eq-eqb}
use Rattle.label.specs.declared.Rules.{Rules}
use Rattle.label.specs.declared.Exponent.{Exponent}
use Rattle.label.specs.Bytes.{admitted, all, same, close_bracket, open_bracket, quote, slash}
use Rattle.label.specs.Choice.{pick}
use Rattle.label.specs.Notations.{member}
use Rattle.label.specs.Prefixes.{prefix_named, prefix_name}
use Rattle.label.specs.Units.{Name, unit_at}
use Rattle.label.specs.Symbols.{Symbol, known, unknown, has_name, symbol}
use Rattle.label.specs.Lexical.{Written, unwritten, whole, fraction, Letters, PrefixName, Quoted, Bracketed}
use Rattle.label.specs.Limits.{signed, negative, ratio, exponent_of, parts_of_one, most_sixtieths}
use Rattle.label.specs.Letters.{prefix_letters}
use Rattle.label.specs.Writing.{sign_text, figures, whole_text, fraction_text, power_text, exponent_text, same_prefix, same_symbol, reads_as, name_among, name_in, named_text, in_quotes, unknown_text, symbol_text}
use Rattle.label.specs.Rows.{Style}
use Rattle.label.proofs.Basics.{none_some, false_true, true→T, and_left, and_right, same_is}
use Rattle.label.proofs.General.{SpellingBy, ExponentBy}
use Rattle.label.proofs.Figures.{Digited, figures_of, Lowered, lowered, ratio_back, signed_size}
use Rattle.label.proofs.Texts.{quiet, all_append, unsigned_quiet, Fine, fine_quiet, fine_append, fine_brackets}
use Rattle.label.proofs.Styles.{Suits, integer_by}
use Rattle.label.proofs.Ruled.{RuledBy}
use Rattle.label.proofs.Owned.{same_prefix_is, letters_prefixed, prefix_unquoted, quoted_symbol, Sourced}
use Rattle.label.proofs.NameSpellings.{name_derived}

-- EXPONENTS

-- a text that is read as the exponent of e sixtieths with the sign b
pub record PowerRead (r : Rules) (z : Exponent) (t : List ℕ) : Type 0 where
  pub power : Written
  pub derived : ExponentBy r t power
  pub value : exponent_of false power ≡ some z
  pub fine : Fine t

unwritten_value : (e : ℕ) → Lowered e 1 1 → e ≤ most_sixtieths → exponent_of false unwritten ≡ some (record { 0 = signed false e })
unfolding exponent_of ratio
unwritten_value e w h = ratio_back false e 1 1 w (omega (arith, w.equal)) h

whole_value : (b : Bool) (e p : ℕ) (ds : List ℕ) → Digited p ds → Lowered e p 1 → 1 ≤ e → e ≤ most_sixtieths
    → exponent_of false (whole (record { negative = b; digits = ds })) ≡ some (record { 0 = signed b e })
unfolding exponent_of ratio
whole_value b e p ds d w l h = rw (d.value, d.short) (ratio_back b e p 1 w l h)

fraction_value : (b : Bool) (e p q : ℕ) (ds es : List ℕ) → Digited p ds → Digited q es → Lowered e p q → 1 ≤ e → e ≤ most_sixtieths
    → exponent_of false (fraction (record { negative = b; digits = ds }) es) ≡ some (record { 0 = signed b e })
unfolding exponent_of ratio
fraction_value b e p q ds es d f w l h = rw (d.value, d.short, f.value, f.short) (ratio_back b e p q w l h)

sign_quiet : (b : Bool) → T (all quiet (sign_text false b))
unfolding all quiet admitted
sign_quiet true = tt
sign_quiet false = tt

slash_quiet : (s : List ℕ) → T (all quiet s) → T (all quiet (slash ∷ s))
unfolding all quiet admitted
slash_quiet s t = t

unwritten_read : {r : Rules} {e p q : ℕ} → Lowered e p q → p ≡ 1 → q ≡ 1 → e ≤ most_sixtieths → PowerRead r (record { 0 = signed false e }) []
unfolding all
unwritten_read {e = e} w f g h = record { power = unwritten; derived = ExponentBy.none; value = unwritten_value e (rw (f, g) at w) h; fine = fine_quiet [] tt }

module _ {y : Style} {r : Rules} (v : Suits y r) (b : Bool) {e p q : ℕ} (w : Lowered e p q) (low : 1 ≤ e) (high : e ≤ most_sixtieths) where
  numerator_of : Digited p (figures p)
  numerator_of = figures_of p (omega (arith, w.equal, product)) (omega (arith, w.equal, most))
    where
      product : 1 ≤ e * q
      product = mul-le-mul low w.positive

      most : e * q ≤ most_sixtieths * parts_of_one
      most = mul-le-mul high w.within

  denominator_of : Digited q (figures q)
  denominator_of = figures_of q w.positive (omega (arith, w.within))

  -- a sign and digits
  numeral_quiet : T (all quiet (sign_text false b ++ figures p))
  numeral_quiet = all_append quiet (sign_text false b) (figures p) (sign_quiet b) (unsigned_quiet numerator_of.unsigned)

  whole_read : Lowered e p 1 → (x : Bool) → (y.wrapped && b) ≡ x
      → PowerRead r (record { 0 = signed b e }) (y.raise ++ pick x (open_bracket ∷ (sign_text false b ++ figures p) ++ close_bracket ∷ []) (sign_text false b ++ figures p))
  whole_read o true h = record {
    power = whole (record { negative = b; digits = figures p });
    derived = v.brackets (wide y.wrapped b y.fractions h) (Bracketed.an_integer (integer_by b numerator_of.unsigned));
    value = whole_value b e p (figures p) numerator_of o low high;
    fine = fine_append (fine_quiet y.raise v.agrees.quiet_raise) (fine_brackets (sign_text false b ++ figures p) numeral_quiet);
  }
    where
      wide : (x z a : Bool) → (x && z) ≡ true → (x || a) ≡ true
      wide x z a h = rw (and_left x z h)
  whole_read o false h = record {
    power = whole (record { negative = b; digits = figures p });
    derived = v.whole (integer_by b numerator_of.unsigned);
    value = whole_value b e p (figures p) numerator_of o low high;
    fine = fine_append (fine_quiet y.raise v.agrees.quiet_raise) (fine_quiet (sign_text false b ++ figures p) numeral_quiet);
  }

  fraction_read : y.fractions ≡ true → PowerRead r (record { 0 = signed b e }) (fraction_text y b p q)
  fraction_read h = record {
    power = fraction (record { negative = b; digits = figures p }) (figures q);
    derived = v.brackets (wide y.wrapped) (Bracketed.a_fraction (integer_by b numerator_of.unsigned) denominator_of.unsigned);
    value = fraction_value b e p q (figures p) (figures q) numerator_of denominator_of w low high;
    fine = fine_append (fine_quiet y.raise v.agrees.quiet_raise) brackets;
  }
    where
      wide : (x : Bool) → (x || y.fractions) ≡ true
      wide true = refl
      wide false = h

      brackets : Fine (open_bracket ∷ (sign_text false b ++ figures p) ++ slash ∷ figures q ++ close_bracket ∷ [])
      brackets = fine_brackets ((sign_text false b ++ figures p) ++ slash ∷ figures q)
          (all_append quiet (sign_text false b ++ figures p) (slash ∷ figures q) numeral_quiet (slash_quiet (figures q) (unsigned_quiet denominator_of.unsigned)))

  power_read : (t : List ℕ) → power_text y b p q ≡ some t → PowerRead r (record { 0 = signed b e }) t
  unfolding power_text
  power_read t h = go (eqb q 1) (eqb p 1) y.fractions refl refl refl h
    where
      omitted : (x : Bool) → eqb p 1 ≡ x → eqb q 1 ≡ true → (c : Bool) → b ≡ c → some (pick (pick c false x) [] (whole_text y b p)) ≡ some t → PowerRead r (record { 0 = signed b e }) t
      omitted true f g false k h =
          let u : [] ≡ t = cc in
          rw (← u, k) (unwritten_read w (eqb-true p 1 f) (eqb-true q 1 g) high)
      omitted false f g false k h = let u : whole_text y b p ≡ t = cc in rw (← u) (whole_read (rw (eqb-true q 1 g) at w) (y.wrapped && b) refl)
      omitted x f g true k h = let u : whole_text y b p ≡ t = cc in rw (← u) (whole_read (rw (eqb-true q 1 g) at w) (y.wrapped && b) refl)

      go : (x z a : Bool) → eqb q 1 ≡ x → eqb p 1 ≡ z → y.fractions ≡ a
          → pick x (some (pick (pick b false z) [] (whole_text y b p))) (pick a (some (fraction_text y b p q)) none) ≡ some t
          → PowerRead r (record { 0 = signed b e }) t
      go true z a f g k h = omitted z g f b refl h
      go false z true f g k h = let u : fraction_text y b p q ≡ t = cc in rw (← u) (fraction_read k)
      go false z false f g k h = absurd (none_some h)

-- an exponent that a label may have
pub record WithinBounds (e : Exponent) : Type 0 where
  pub low : 1 ≤ nat_abs e.0
  pub high : nat_abs e.0 ≤ most_sixtieths

pub exponent_read : {y : Style} {r : Rules} → Suits y r → (e : Exponent) → WithinBounds e → (t : List ℕ) → exponent_text y e ≡ some t → PowerRead r e t
unfolding exponent_text
exponent_read v e w t h = rw (signed_size e.0) at (power_read v (negative e.0) (lowered e) w.low w.high t h)

-- SPELLINGS

-- a text that notation m reads as the unit x
pub record SpellingRead (m : ℕ) (r : Rules) (x : Symbol) (l : List ℕ) : Type 0 where
  pub derived : SpellingBy r l
  pub is : symbol m l ≡ x

same_symbol_is : (x z : Symbol) → same_symbol x z ≡ true → x ≡ z
unfolding same_symbol
same_symbol_is (known p u) (known q v) e =
    cc (same_prefix_is p q (and_left (same_prefix p q) (eqb u v) e), eqb-true u v (and_right (same_prefix p q) (eqb u v) e))
same_symbol_is (known p u) (unknown q l) e = absurd (false_true e)
same_symbol_is (unknown p l) (known q v) e = absurd (false_true e)
same_symbol_is (unknown p l) (unknown q k) e =
    cc (same_prefix_is p q (and_left (same_prefix p q) (same l k) e), same_is l k (and_right (same_prefix p q) (same l k) e))

pub read_as : (m : ℕ) (l : List ℕ) (x : Symbol) → reads_as m l x ≡ true → symbol m l ≡ x
unfolding reads_as
read_as m l x h = same_symbol_is (symbol m l) x h

-- letters in quotes, after a prefix or none
pub quoted_read : {r : Rules} (m : ℕ) (p : Option ℕ) (l : List ℕ) → r.quotes ≡ true → Letters l → prefix_named (prefix_letters p) ≡ p → SpellingRead m r (unknown p l) (prefix_letters p ++ in_quotes l)
unfolding prefix_name
quoted_read m none l f d e = record { derived = SpellingBy.quoted (true→T f) (Quoted.quoted d); is = quoted_symbol m [] l (prefix_unquoted none) d ∙ ap (λ (q : Option ℕ). unknown q l) e }
quoted_read m (some i) l f d e =
    let n : PrefixName (prefix_letters (some i)) = PrefixName.named {p = prefix_letters (some i)} (rw e tt) in
    record {
      derived = SpellingBy.quoted (true→T f) (rw (append_assoc (prefix_letters (some i)) (quote ∷ l) (quote ∷ [])) at (Quoted.prefixed n d));
      is = quoted_symbol m (prefix_letters (some i)) l (prefix_unquoted (some i)) d ∙ ap (λ (q : Option ℕ). unknown q l) e;
    }

-- "A known unit keeps its spelling if the target knows it, else takes its other name there": a name that the target knows
pub same_self : (l : List ℕ) → same l l ≡ true
unfolding same
same_self [] = refl
same_self (c ∷ l) = rw (eq-eqb c c refl, same_self l)

pub among_named : (m : ℕ) (l : List ℕ) (xs : List Name) → name_among m xs ≡ some l → has_name m l xs ≡ true
unfolding name_among has_name
among_named m l [] h = absurd (none_some h)
among_named m l (x ∷ xs) h = go (member m x.known_in) refl (λ h. among_named m l xs h) h
  where
    others : (a b : Bool) → b ≡ true → (a || b) ≡ true
    others true b e = refl
    others false b e = e

    go : (b : Bool) → member m x.known_in ≡ b → (name_among m xs ≡ some l → has_name m l xs ≡ true)
        → elim b as (λ (z : Bool). Option (List ℕ)) [ true ↦ some x.letters | false ↦ name_among m xs ] ≡ some l → ((same l x.letters && b) || has_name m l xs) ≡ true
    go true e ih h = let q : x.letters ≡ l = cc in rw (q, same_self l)
    go false e ih h = others (same l x.letters && false) (has_name m l xs) (ih h)

pub name_named : (m : ℕ) (own l : List ℕ) (xs : List Name) → name_in m own xs ≡ some l → has_name m l xs ≡ true
unfolding name_in
name_named m own l xs h = go (has_name m own xs) refl h
  where
    go : (b : Bool) → has_name m own xs ≡ b → pick b (some own) (name_among m xs) ≡ some l → has_name m l xs ≡ true
    go true e h = let q : own ≡ l = cc in rw q at e
    go false e h = among_named m l xs h

-- a name's text, taken apart
pub record NamedText (m : ℕ) (p : Option ℕ) (u : ℕ) (own t : List ℕ) : Type 0 where
  pub name : List ℕ
  pub taken : name_in m own (unit_at u).names ≡ some name
  pub is : prefix_letters p ++ name ≡ t
  pub reads : reads_as m (prefix_letters p ++ name) (known p u) ≡ true

pub named_parts : (m : ℕ) (p : Option ℕ) (u : ℕ) (own t : List ℕ) → named_text m p u (name_in m own (unit_at u).names) ≡ some t → NamedText m p u own t
unfolding named_text
named_parts m p u own t h = go (name_in m own (unit_at u).names) refl h
  where
    at : (l : List ℕ) (b : Bool) → reads_as m (prefix_letters p ++ l) (known p u) ≡ b → name_in m own (unit_at u).names ≡ some l
        → pick b (some (prefix_letters p ++ l)) none ≡ some t → NamedText m p u own t
    at l true e f h = record { name = l; taken = f; is = (cc); reads = e }
    at l false e f h = absurd (none_some h)

    go : (o : Option (List ℕ)) → name_in m own (unit_at u).names ≡ o → named_text m p u o ≡ some t → NamedText m p u own t
    go none f h = absurd (none_some h)
    go (some l) f h = at l (reads_as m (prefix_letters p ++ l) (known p u)) refl f h

-- an unknown unit's text is plain or quoted
pub data UnknownText (y : Style) (m : ℕ) (p : Option ℕ) (l : List ℕ) : List ℕ → Type 0 where
  plainly : reads_as m (prefix_letters p ++ l) (unknown p l) ≡ true → UnknownText y m p l (prefix_letters p ++ l)
  quoted : reads_as m (prefix_letters p ++ l) (unknown p l) ≡ false → y.quotes ≡ true → UnknownText y m p l (prefix_letters p ++ in_quotes l)

pub unknown_parts : (y : Style) (m : ℕ) (p : Option ℕ) (l t : List ℕ) → unknown_text y m p l ≡ some t → UnknownText y m p l t
unfolding unknown_text
unknown_parts y m p l t h = go (reads_as m (prefix_letters p ++ l) (unknown p l)) y.quotes refl refl h
  where
    go : (a b : Bool) → reads_as m (prefix_letters p ++ l) (unknown p l) ≡ a → y.quotes ≡ b
        → pick a (some (prefix_letters p ++ l)) (pick b (some (prefix_letters p ++ in_quotes l)) none) ≡ some t → UnknownText y m p l t
    go true b e f h = let q : prefix_letters p ++ l ≡ t = cc in rw (← q) (UnknownText.plainly e)
    go false true e f h = let q : prefix_letters p ++ in_quotes l ≡ t = cc in rw (← q) (UnknownText.quoted e f)
    go false false e f h = absurd (none_some h)

module _ {y : Style} {r : Rules} {m : ℕ} (v : Suits y r) (o : RuledBy m r) where
  named_read : {own t : List ℕ} (p : Option ℕ) (u : ℕ) → Sourced own (known p u) → NamedText m p u own t → SpellingRead m r (known p u) t
  named_read {own} p u s w = rw (← w.is) (record {
    derived = name_derived p u w.name o s (name_named m own w.name (unit_at u).names w.taken);
    is = read_as m (prefix_letters p ++ w.name) (known p u) w.reads;
  })

  unknown_read : {p : Option ℕ} {l t : List ℕ} → Letters l → prefix_named (prefix_letters p) ≡ p → UnknownText y m p l t → SpellingRead m r (unknown p l) t
  unknown_read {p} {l} d n (UnknownText.plainly e) = record { derived = SpellingBy.letters (letters_prefixed p d); is = read_as m (prefix_letters p ++ l) (unknown p l) e }
  unknown_read {p} {l} d n (UnknownText.quoted e f) = quoted_read m p l (sym v.agrees.quotes ∙ f) d n

  -- what is written for a unit is read as that unit
  pub symbol_read : {own : List ℕ} {x : Symbol} (t : List ℕ) → Sourced own x → symbol_text y m own x ≡ some t → SpellingRead m r x t
  unfolding symbol_text
  symbol_read {own} t (Sourced.bare_name {u = u} n k) h = named_read none u (Sourced.bare_name n k) (named_parts m none u own t h)
  symbol_read {own} t (Sourced.letter_name {p = p} {u = u} n k d) h = named_read p u (Sourced.letter_name n k d) (named_parts m p u own t h)
  symbol_read t (Sourced.no_unit_name {p = p} {l = l} d n) h = unknown_read d n (unknown_parts y m p l t h)
