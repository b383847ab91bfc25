-- Every token that the grammar derives is found by the functions, whatever may follow it.
use Prim.Native.Nat.{ℕ, suc, ◌-◌}
use native.Mathlib.Omega.{arith}
use mathlib.Core.Path.{◌≡◌, refl, ◌∙◌, ap}
use mathlib.Core.Bool.{Bool, true, false, ◌&&◌, ◌||◌}
use mathlib.Core.List.{List, [], ◌∷◌, ◌++◌, append_assoc}
use mathlib.Core.Option.{some}
use lib.Dec.{T, eqb}
use lib.ListN.{length, length-append}
use borrow.Author.Tests.{eqb-true}
use Rattle.label.specs.declared.Rules.{Rules}
use Rattle.label.specs.Bytes.{letter, digit, nonzero, all, same, caret, close_bracket, digit_one, digit_zero, minus, open_bracket, plus, point, quote, slash, star}
use Rattle.label.specs.Choice.{pick}
use Rattle.label.specs.Prefixes.{Prefix, prefixes, placed, prefix_named, is_some, prefix_name}
use Rattle.label.specs.Lexical.{Numeral, Written, unwritten, whole, decimal, Factor, ten_to, zeros, Letters, PrefixName, Quoted, Unsigned, Signed, Integer, Digits, Sign, Decimal, Bracketed, Power, Plain}
use Rattle.label.specs.Parse.{Found, none, found, then, mapped, byte, unsigned, digits, numeral, after_sign, integer, closed, pointed, bracketed_on, below_one, bracketed_or, bracketed, power, sign, starred, exponent, quoted_on, quoted, lettered, spelling, plain_digits, plain_factor, wrapped, starred_factor, ten_factor, ten, factor}
use Rattle.label.proofs.Computing.{symbols_compute}
use Rattle.label.proofs.General.{SpellingBy, ExponentBy, WrappedBy, FactorBy}
use Rattle.label.proofs.Basics.{same_is, T→true, true→T, both, T_and, differs, nonzero_digit, digit_no_letter, Stops, run_of, past_of, NoStar, Ends, Unlettered}

-- NUMBERS

unsigned_complete : {s : List ℕ} → Unsigned s → (rest : List ℕ) → Stops digit rest → unsigned (s ++ rest) ≡ found s rest
unfolding unsigned
unsigned_complete (Unsigned.unsigned {c = c} {s = s} t a) rest h = rw (T→true (nonzero c) t, run_of digit s rest a h, past_of digit s rest a h)

digits_complete : {s : List ℕ} → Digits s → (rest : List ℕ) → Stops digit rest → digits (s ++ rest) ≡ found s rest
unfolding digits
digits_complete (Digits.digits {c = c} {s = s} t a) rest h = rw (T→true (digit c) t, run_of digit s rest a h, past_of digit s rest a h)

pub integer_complete : {e : List ℕ} {n : Numeral} → Integer e n → (rest : List ℕ) → Stops digit rest → integer (e ++ rest) ≡ found n rest
unfolding integer after_sign mapped nonzero
integer_complete (Integer.signed (Signed.positive u)) rest h = rw (unsigned_complete u rest h)
integer_complete (Integer.signed (Signed.negative u)) rest h = rw (unsigned_complete u rest h)
integer_complete (Integer.plain (Unsigned.unsigned {c = c} {s = s} t a)) rest h =
    rw (differs nonzero c minus t refl, differs nonzero c plus t refl, unsigned_complete (Unsigned.unsigned {c = c} {s = s} t a) rest h)

-- what begins with a sign or a digit: no letter, no quote, no opening bracket
data Numeric : List ℕ → Type 0 where
  numeric : {c : ℕ} {s : List ℕ} → (sign c || digit c) ≡ true → letter c ≡ false → eqb c quote ≡ false → eqb c open_bracket ≡ false → Numeric (c ∷ s)

integer_numeric : {e : List ℕ} {n : Numeral} → Integer e n → (rest : List ℕ) → Numeric (e ++ rest)
unfolding digit letter nonzero
integer_numeric (Integer.signed (Signed.positive u)) rest = Numeric.numeric refl refl refl refl
integer_numeric (Integer.signed (Signed.negative u)) rest = Numeric.numeric refl refl refl refl
integer_numeric (Integer.plain (Unsigned.unsigned {c = c} t a)) rest =
    Numeric.numeric {c = c} (rw (differs nonzero c plus t refl, differs nonzero c minus t refl) (nonzero_digit c t)) (digit_no_letter c (true→T (nonzero_digit c t)))
    (differs nonzero c quote t refl) (differs nonzero c open_bracket t refl)

-- POWERS

-- a value and the closing bracket
closed_complete : {A B : Type 0} (f : A → B) (x : Found A) (a : A) (rest : List ℕ) → x ≡ found a (close_bracket ∷ rest) → closed f x ≡ found (f a) rest
unfolding closed then byte
closed_complete f x a rest e = rw e

-- an opening bracket and what is found after it
record Opened (s : List ℕ) (w : Written) (rest : List ℕ) : Type 0 where
  inner : List ℕ
  opens : s ≡ open_bracket ∷ inner
  finds : bracketed inner ≡ found w rest

-- after any sign
sign_complete : {A : Type 0} {s : List ℕ} {b : Bool} → Sign s b → (f : Bool → List ℕ → Found A) (t : List ℕ) → after_sign f (s ++ digit_zero ∷ t) ≡ f b (digit_zero ∷ t)
unfolding after_sign
sign_complete Sign.positive f t = refl
sign_complete Sign.negative f t = refl
sign_complete Sign.none f t = refl

no_integer : {s : List ℕ} {b : Bool} → Sign s b → (t : List ℕ) → integer (s ++ digit_zero ∷ t) ≡ none
unfolding integer mapped unsigned nonzero
no_integer g t = sign_complete g (λ b u. mapped (numeral b) (unsigned u)) t

-- a decimal and the closing bracket
decimal_complete : {s d : List ℕ} {n : Numeral} → Decimal s n d → (rest : List ℕ) → bracketed (s ++ close_bracket ∷ rest) ≡ found (decimal n d) rest
unfolding bracketed bracketed_or bracketed_on pointed below_one then byte digit
decimal_complete (Decimal.below_one {s = s} {d = d} g h) rest =
    rw (append_assoc s (digit_zero ∷ point ∷ d) (close_bracket ∷ rest), no_integer g (point ∷ d ++ close_bracket ∷ rest), sign_complete g below_one (point ∷ d ++ close_bracket ∷ rest))
    (closed_complete _ _ d rest (digits_complete h (close_bracket ∷ rest) (Stops.other refl)))
decimal_complete (Decimal.pointed {s = s} {d = d} i g) rest =
    rw (append_assoc s (point ∷ d) (close_bracket ∷ rest), integer_complete i (point ∷ d ++ close_bracket ∷ rest) (Stops.other refl))
    (closed_complete _ _ d rest (digits_complete g (close_bracket ∷ rest) (Stops.other refl)))

bracketed_complete : {s : List ℕ} {w : Written} → Bracketed s w → (rest : List ℕ) → Opened (s ++ rest) w rest
unfolding bracketed bracketed_or bracketed_on digit
bracketed_complete (Bracketed.an_integer {s = s} i) rest =
    record { inner = _; opens = refl; finds = rw (append_assoc s (close_bracket ∷ []) rest, integer_complete i (close_bracket ∷ rest) (Stops.other refl)) }
bracketed_complete (Bracketed.a_decimal {s = s} g) rest =
    record { inner = _; opens = refl; finds = rw (append_assoc s (close_bracket ∷ []) rest) (decimal_complete g rest) }
bracketed_complete (Bracketed.a_fraction {s = s} {d = d} i u) rest =
    record {
      inner = _;
      opens = refl;
      finds = rw (append_assoc (s ++ slash ∷ d) (close_bracket ∷ []) rest, append_assoc s (slash ∷ d) (close_bracket ∷ rest), integer_complete i (slash ∷ d ++ close_bracket ∷ rest) (Stops.other refl))
          (closed_complete _ _ d rest (unsigned_complete u (close_bracket ∷ rest) (Stops.other refl)));
    }

-- a power that no bracket begins is the integer there, one that a bracket begins what is found after it
numeric_power : {s : List ℕ} {n : Numeral} {rest : List ℕ} → Numeric s → integer s ≡ found n rest → power s ≡ found (whole n) rest
unfolding power mapped
numeric_power (Numeric.numeric a b c d) e = rw (d, e)

opened_power : (s : List ℕ) {w : Written} {rest : List ℕ} (t : List ℕ) → s ≡ open_bracket ∷ t → bracketed t ≡ found w rest → power s ≡ found w rest
unfolding power
opened_power s t o f = rw o f

pub power_complete : {e : List ℕ} {w : Written} → Power e w → (rest : List ℕ) → Stops digit rest → power (e ++ rest) ≡ found w rest
power_complete (Power.integer i) rest h = numeric_power (integer_numeric i rest) (integer_complete i rest h)
power_complete (Power.bracketed b) rest h = let o = bracketed_complete b rest in opened_power _ o.inner o.opens o.finds

-- EXPONENTS

-- no digit, no letter, no quote and no power follows a unit
no_digit : {s : List ℕ} → Ends s → Stops digit s
unfolding digit
no_digit Ends.end = Stops.end
no_digit Ends.space = Stops.other refl
no_digit Ends.close = Stops.other refl
no_digit (Ends.star n) = Stops.other refl
no_digit Ends.point = Stops.other refl
no_digit Ends.slash = Stops.other refl

unlettered : {s : List ℕ} → Ends s → Unlettered s
unfolding letter
unlettered Ends.end = Unlettered.end
unlettered Ends.space = Unlettered.other refl refl
unlettered Ends.close = Unlettered.other refl refl
unlettered (Ends.star n) = Unlettered.other refl refl
unlettered Ends.point = Unlettered.other refl refl
unlettered Ends.slash = Unlettered.other refl refl

-- one star is no power
one_star : (b : Bool) {s : List ℕ} → NoStar s → pick b (starred (star ∷ s) s) (found unwritten (star ∷ s)) ≡ found unwritten (star ∷ s)
unfolding starred
one_star true NoStar.end = refl
one_star true (NoStar.other e) = rw e
one_star false n = refl

no_exponent : (r : Rules) {s : List ℕ} → Ends s → exponent r s ≡ found unwritten s
unfolding exponent digit
no_exponent r Ends.end = refl
no_exponent r Ends.space = refl
no_exponent r Ends.close = refl
no_exponent r (Ends.star n) = one_star r.stars n
no_exponent r Ends.point = refl
no_exponent r Ends.slash = refl

numeric_exponent : (r : Rules) {s : List ℕ} {n : Numeral} {rest : List ℕ} → r.direct ≡ true → Numeric s → integer s ≡ found n rest → exponent r s ≡ found (whole n) rest
unfolding exponent mapped
numeric_exponent r f (Numeric.numeric a b c d) e = rw (a, f, e)

opened_exponent : (r : Rules) (s : List ℕ) {w : Written} {rest : List ℕ} → r.brackets ≡ true → (t : List ℕ) → s ≡ open_bracket ∷ t → bracketed t ≡ found w rest → exponent r s ≡ found w rest
unfolding exponent digit
opened_exponent r s g t o f = rw (o, g) f

pub exponent_complete : (r : Rules) {e : List ℕ} {w : Written} → ExponentBy r e w → (rest : List ℕ) → Ends rest → exponent r (e ++ rest) ≡ found w rest
unfolding exponent digit starred
exponent_complete r ExponentBy.none rest h = no_exponent r h
exponent_complete r (ExponentBy.integer f i) rest h = numeric_exponent r (T→true r.direct f) (integer_numeric i rest) (integer_complete i rest (no_digit h))
exponent_complete r (ExponentBy.bracketed f b) rest h = let o = bracketed_complete b rest in opened_exponent r _ (T→true r.brackets f) o.inner o.opens o.finds
exponent_complete r (ExponentBy.stars f p) rest h = rw (T→true r.stars f) (power_complete p rest (no_digit h))
exponent_complete r (ExponentBy.caret f p) rest h = rw (T→true r.caret f) (power_complete p rest (no_digit h))

numeric_unlettered : {s : List ℕ} → Numeric s → Unlettered s
numeric_unlettered (Numeric.numeric a b c d) = Unlettered.other b c

pub exponent_unlettered : {r : Rules} {e : List ℕ} {w : Written} → ExponentBy r e w → (rest : List ℕ) → Ends rest → Unlettered (e ++ rest)
unfolding letter
exponent_unlettered ExponentBy.none rest h = unlettered h
exponent_unlettered (ExponentBy.integer f i) rest h = numeric_unlettered (integer_numeric i rest)
exponent_unlettered (ExponentBy.bracketed f b) rest h = rw (bracketed_complete b rest).opens (Unlettered.other refl refl)
exponent_unlettered (ExponentBy.stars f p) rest h = Unlettered.other refl refl
exponent_unlettered (ExponentBy.caret f p) rest h = Unlettered.other refl refl

-- SPELLINGS

-- one or more letters
some_letters : List ℕ → Bool
some_letters [] = false
some_letters (c ∷ s) = letter c && all letter s

names_lettered : List Prefix → Bool
names_lettered [] = true
names_lettered (p ∷ ps) = some_letters p.name && names_lettered ps

-- the computed test: every name of the table is one or more letters
prefixes_lettered : T (names_lettered prefixes)
unfolding names_lettered some_letters symbols_compute
prefixes_lettered = tt

-- the law: what is found in such a table is one or more letters
placed_lettered : (i : ℕ) (l : List ℕ) (ps : List Prefix) → T (names_lettered ps) → T (is_some (placed i l ps)) → T (some_letters l)
unfolding names_lettered placed
placed_lettered i l (p ∷ ps) t e = go (same l p.name) refl (both (some_letters p.name) (names_lettered ps) t) (λ t e. placed_lettered (suc i) l ps t e) e
  where
    go : (x : Bool) → same l p.name ≡ x → T (some_letters p.name) × T (names_lettered ps)
        → (T (names_lettered ps) → T (is_some (placed (suc i) l ps)) → T (some_letters l))
        → T (is_some (pick x (some i) (placed (suc i) l ps))) → T (some_letters l)
    go true q w ih e = rw (same_is l p.name q) w.0
    go false q w ih e = ih w.1 e
placed_lettered i l [] t e = elim e [ ]

-- a prefix name is letters
pub prefix_lettered : {p : List ℕ} → PrefixName p → Letters p
unfolding prefix_name prefix_named some_letters
prefix_lettered (PrefixName.named {p = p} t) = go p (placed_lettered 0 p prefixes prefixes_lettered t)
  where
    go : (l : List ℕ) → T (some_letters l) → Letters l
    go [] t = absurd t
    go (c ∷ s) t = let w = both (letter c) (all letter s) t in Letters.letters w.0 w.1

pub letters_all : {l : List ℕ} → Letters l → T (all letter l)
unfolding all
letters_all (Letters.letters {c = c} {s = s} t a) = T_and (letter c) (all letter s) t a

-- the letters after a quote, and the closing quote
quoted_complete : (p : List ℕ) {l : List ℕ} → Letters l → (rest : List ℕ) → quoted p (l ++ quote ∷ rest) ≡ found (p ++ quote ∷ l ++ quote ∷ []) rest
unfolding quoted quoted_on byte letter
quoted_complete p (Letters.letters {c = c} {s = s} t a) rest =
    let b = letters_all (Letters.letters {c = c} {s = s} t a) in
    rw (run_of letter (c ∷ s) (quote ∷ rest) b (Stops.other refl), past_of letter (c ∷ s) (quote ∷ rest) b (Stops.other refl))

-- letters that no letter follows
lettered_run : (r : Rules) {l : List ℕ} → Letters l → (rest : List ℕ) → Stops letter rest → spelling r (l ++ rest) ≡ lettered r l rest
unfolding spelling
lettered_run r (Letters.letters {c = c} {s = s} t a) rest h =
    let b = letters_all (Letters.letters {c = c} {s = s} t a) in
    rw (T→true (letter c) t, run_of letter (c ∷ s) rest b h, past_of letter (c ∷ s) rest b h)

no_letter : {s : List ℕ} → Unlettered s → Stops letter s
no_letter Unlettered.end = Stops.end
no_letter (Unlettered.other a b) = Stops.other a

lettered_complete : (r : Rules) (l : List ℕ) {rest : List ℕ} → Unlettered rest → lettered r l rest ≡ found l rest
unfolding lettered
lettered_complete r l Unlettered.end = refl
lettered_complete r l (Unlettered.other a b) = rw b

-- a quote after a prefix name
prefixed_complete : (r : Rules) (p s : List ℕ) → r.quotes ≡ true → PrefixName p → lettered r p (quote ∷ s) ≡ quoted p s
unfolding lettered
prefixed_complete r p s f (PrefixName.named t) = rw (f, T→true (prefix_name p) t)

quoted_spelling : (r : Rules) {l : List ℕ} → r.quotes ≡ true → Quoted l → (rest : List ℕ) → spelling r (l ++ rest) ≡ found l rest
unfolding spelling letter
quoted_spelling r f (Quoted.quoted {l = l} q) rest = rw (f, append_assoc l (quote ∷ []) rest) (quoted_complete [] q rest)
quoted_spelling r f (Quoted.prefixed {p = p} {l = l} n q) rest =
    rw (append_assoc (p ++ quote ∷ l) (quote ∷ []) rest, append_assoc p (quote ∷ l) (quote ∷ rest))
    (lettered_run r (prefix_lettered n) (quote ∷ l ++ quote ∷ rest) (Stops.other refl) ∙ prefixed_complete r p (l ++ quote ∷ rest) f n ∙ quoted_complete p q rest)

pub spelling_complete : (r : Rules) {l : List ℕ} → SpellingBy r l → (rest : List ℕ) → Unlettered rest → spelling r (l ++ rest) ≡ found l rest
unfolding spelling letter
spelling_complete r (SpellingBy.letters {l = l} q) rest h = lettered_run r q rest (no_letter h) ∙ lettered_complete r l h
spelling_complete r (SpellingBy.percent f) rest h = rw (T→true r.percent f)
spelling_complete r (SpellingBy.quoted f q) rest h = quoted_spelling r (T→true r.quotes f) q rest

-- FACTORS

-- what may follow a factor: no digit, no sign, no caret, no star
pub data Unfactored : List ℕ → Type 0 where
  other : {c : ℕ} {s : List ℕ} → digit c ≡ false → sign c ≡ false → eqb c caret ≡ false → eqb c star ≡ false → Unfactored (c ∷ s)

undigited : {s : List ℕ} → Unfactored s → Stops digit s
undigited (Unfactored.other d e f g) = Stops.other d

numeric_wrapped : (r : Rules) {s : List ℕ} {n : Numeral} {rest : List ℕ} → Numeric s → integer s ≡ found n rest → wrapped r s ≡ found (ten_to n) rest
unfolding wrapped mapped
numeric_wrapped r (Numeric.numeric a b c d) e = rw (d, e)

wrapped_complete : (r : Rules) {e : List ℕ} {n : Numeral} → WrappedBy r e n → (rest : List ℕ) → Stops digit rest → wrapped r (e ++ rest) ≡ found (ten_to n) rest
unfolding wrapped digit
wrapped_complete r (WrappedBy.bare i) rest h = numeric_wrapped r (integer_numeric i rest) (integer_complete i rest h)
wrapped_complete r (WrappedBy.bracketed {s = s} f i) rest h =
    rw (T→true r.wrapped f, append_assoc s (close_bracket ∷ []) rest) (closed_complete ten_to _ _ rest (integer_complete i (close_bracket ∷ rest) (Stops.other refl)))

-- the digits 10
ten_complete : (r : Rules) (s : List ℕ) → Stops digit s → factor r (digit_one ∷ digit_zero ∷ s) ≡ ten_factor r (digit_one ∷ digit_zero ∷ []) s
unfolding factor ten all digit
ten_complete r s h = rw (run_of digit (digit_one ∷ digit_zero ∷ []) s tt h, past_of digit (digit_one ∷ digit_zero ∷ []) s tt h)

signed_complete : (r : Rules) {e : List ℕ} {n : Numeral} → r.signed ≡ true → Signed e n → (rest : List ℕ) → Stops digit rest → factor r (digit_one ∷ digit_zero ∷ e ++ rest) ≡ found (ten_to n) rest
unfolding ten_factor mapped digit
signed_complete r f (Signed.positive {s = s} u) rest h =
    ten_complete r (plus ∷ s ++ rest) (Stops.other refl) ∙ rw (f, integer_complete (Integer.signed (Signed.positive u)) rest h)
signed_complete r f (Signed.negative {s = s} u) rest h =
    ten_complete r (minus ∷ s ++ rest) (Stops.other refl) ∙ rw (f, integer_complete (Integer.signed (Signed.negative u)) rest h)

-- 1 and k zeros
record Zeros (x : List ℕ) (k : ℕ) : Type 0 where
  after : List ℕ
  is : x ≡ digit_one ∷ after
  zero : T (all (λ d. eqb d digit_zero) after)
  long : length after ≡ k

all_append : (p : ℕ → Bool) (s t : List ℕ) → T (all p s) → T (all p t) → T (all p (s ++ t))
unfolding all
all_append p [] t a b = b
all_append p (c ∷ s) t a b = let w = both (p c) (all p s) a in T_and (p c) (all p (s ++ t)) w.0 (all_append p s t w.1 b)

plain_zeros : {x : List ℕ} {k : ℕ} → Plain x k → Zeros x k
unfolding all
plain_zeros Plain.one = record { after = []; is = refl; zero = tt; long = refl }
plain_zeros (Plain.ten_times p) = go (plain_zeros p)
  where
    go : {x : List ℕ} {k : ℕ} → Zeros x k → Zeros (x ++ digit_zero ∷ []) (suc k)
    go z = record {
      after = z.after ++ digit_zero ∷ [];
      is = rw z.is;
      zero = all_append _ z.after (digit_zero ∷ []) z.zero tt;
      long = simp (length-append, z.long) (omega arith);
    }

zeros_digits : (s : List ℕ) → T (all (λ d. eqb d digit_zero) s) → T (all digit s)
unfolding all digit
zeros_digits [] t = tt
zeros_digits (c ∷ s) t =
    let w = both (eqb c digit_zero) (all (λ d. eqb d digit_zero) s) t in
    T_and (digit c) (all digit s) (rw (eqb-true c digit_zero (T→true (eqb c digit_zero) w.0)) tt) (zeros_digits s w.1)

-- what no sign, caret or star follows is no power of ten
ten_plain : (r : Rules) (b : Bool) (ds : List ℕ) {rest : List ℕ} → Unfactored rest
    → pick b (ten_factor r ds rest) (plain_factor r ds rest) ≡ plain_factor r ds rest
unfolding ten_factor
ten_plain r true ds (Unfactored.other d e f g) = rw (e, f, g)
ten_plain r false ds h = refl

zeros_factor : (r : Rules) (z rest : List ℕ) (k : ℕ) → r.plain ≡ true → T (all (λ d. eqb d digit_zero) z) → length z ≡ k → plain_factor r (digit_one ∷ z) rest ≡ found (zeros k) rest
unfolding plain_factor plain_digits
zeros_factor r z rest k f t e =
    let p : suc (length z) - 1 ≡ k = omega arith in
    rw (T→true (all (λ d. eqb d digit_zero) z) t, f, p)

plain_complete : (r : Rules) {x : List ℕ} {k : ℕ} → r.plain ≡ true → Zeros x k → (rest : List ℕ) → Unfactored rest → factor r (x ++ rest) ≡ found (zeros k) rest
unfolding factor all digit
plain_complete r {k = k} f z rest h =
    let a = zeros_digits z.after z.zero in
    rw (z.is, run_of digit (digit_one ∷ z.after) rest a (undigited h), past_of digit (digit_one ∷ z.after) rest a (undigited h))
    (ten_plain r (ten (digit_one ∷ z.after)) (digit_one ∷ z.after) h ∙ zeros_factor r z.after rest k f z.zero z.long)

pub factor_complete : (r : Rules) {x : List ℕ} {f : Factor} → FactorBy r x f → (rest : List ℕ) → Unfactored rest → factor r (x ++ rest) ≡ found f rest
unfolding ten_factor starred_factor digit
factor_complete r (FactorBy.stars {e = e} w) rest h = ten_complete r (star ∷ star ∷ e ++ rest) (Stops.other refl) ∙ wrapped_complete r w rest (undigited h)
factor_complete r (FactorBy.caret {e = e} f w) rest h = ten_complete r (caret ∷ e ++ rest) (Stops.other refl) ∙ rw (wrapped_complete r w rest (undigited h), T→true r.caret f)
factor_complete r (FactorBy.signed f i) rest h = signed_complete r (T→true r.signed f) i rest (undigited h)
factor_complete r (FactorBy.plain f p) rest h = plain_complete r (T→true r.plain f) (plain_zeros p) rest h

-- a factor begins with a digit
pub factor_digit : {r : Rules} {x : List ℕ} {f : Factor} → FactorBy r x f → (rest : List ℕ) → (c : ℕ) × (s : List ℕ) × (x ++ rest ≡ c ∷ s) × (digit c ≡ true)
unfolding digit
factor_digit (FactorBy.stars w) rest = (49, _, refl, refl)
factor_digit (FactorBy.caret f w) rest = (49, _, refl, refl)
factor_digit (FactorBy.signed f i) rest = (49, _, refl, refl)
factor_digit (FactorBy.plain f p) rest = let z = plain_zeros p in (49, z.after ++ rest, ap (λ (l : List ℕ). l ++ rest) z.is, refl)
