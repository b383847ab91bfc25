-- Every token that the functions find has a derivation, and what is found is what the text begins with.
use Prim.Native.Nat.{ℕ, suc, ◌+◌, ◌-◌}
use native.Mathlib.Omega.{arith}
use mathlib.Core.Path.{◌≡◌, refl, ap, ◌∙◌}
use mathlib.Core.Bool.{Bool, true, false, ◌&&◌, ◌||◌}
use mathlib.Core.List.{List, [], ◌∷◌, ◌++◌, append_assoc, append-nil}
use lib.Dec.{T, eqb}
use lib.ListN.{length}
use borrow.Author.Tests.{eqb-true}
use Rattle.label.specs.declared.Rules.{Rules}
use Rattle.label.specs.Bytes.{letter, digit, nonzero, all, run, past, caret, close_bracket, digit_one, digit_zero, minus as minus_byte, open_bracket, percent, plus, point, quote, slash, star}
use Rattle.label.specs.Choice.{pick}
use Rattle.label.specs.Prefixes.{prefix_name}
use Rattle.label.specs.Lexical.{Numeral, Written, unwritten, whole, decimal, fraction, Factor, ten_to, zeros, Letters, PrefixName, Quoted, Unsigned, Signed, Integer, Digits, Sign, Decimal, Bracketed, Power, Plain}
use Rattle.label.specs.Parse.{Found, none, found, mapped, unsigned, digits, numeral, after_sign, byte, integer, closed, pointed, bracketed_on, below_one, bracketed_or, bracketed, power, sign, starred, exponent, quoted_on, quoted, lettered, spelling, plain_digits, plain_factor, wrapped, starred_factor, ten_factor, ten, factor}
use Rattle.label.proofs.General.{SpellingBy, ExponentBy, WrappedBy, FactorBy}
use Rattle.label.proofs.Basics.{false_true, true→T, both, and_left, and_right, none_found, then_found, mapped_found, byte_found, closed_found, run_past, run_all}

-- WHAT A TEXT BEGINS WITH

-- the text s begins with a text of which P says that it is an a, and rest follows
abbrev Begins : {A : Type 0} → (List ℕ → A → Type 0) → List ℕ → A → List ℕ → Type 0
Begins P s a rest = (e : List ℕ) × P e a × (s ≡ e ++ rest)

-- a text that is its own value
abbrev Itself : (List ℕ → Type 0) → List ℕ → List ℕ → Type 0
Itself P e d = P e × (e ≡ d)

-- a text that is an a once x comes before it
abbrev After : {A : Type 0} → List ℕ → (List ℕ → A → Type 0) → List ℕ → A → Type 0
After x P e a = P (x ++ e) a

join_texts : (s mid rest e f : List ℕ) → s ≡ e ++ mid → mid ≡ f ++ rest → s ≡ e ++ f ++ rest
join_texts s mid rest e f p q = rw (p, q, append_assoc e f rest)

-- the byte v in front
after : {A : Type 0} (P Q : List ℕ → A → Type 0) (c v : ℕ) (s : List ℕ) (a : A) (rest : List ℕ) → eqb c v ≡ true
    → ((e : List ℕ) → P e a → Q (v ∷ e) a) → Begins P s a rest → Begins Q (c ∷ s) a rest
after P Q c v s a rest t f w = (v ∷ w.0, f w.0 w.1, cc (eqb-true c v t))

mapped_sound : {A B : Type 0} (f : A → B) (P : List ℕ → A → Type 0) (Q : List ℕ → B → Type 0) (x : Found A) (s : List ℕ) (b : B) (rest : List ℕ)
    → ((e : List ℕ) (a : A) → P e a → Q e (f a)) → ((a : A) → x ≡ found a rest → Begins P s a rest) → mapped f x ≡ found b rest → Begins Q s b rest
mapped_sound f P Q x s b rest up ih h =
    let m = mapped_found f x b rest h in
    let w = ih m.value m.one in
    (w.0, rw m.is at (up w.0 m.value w.1), w.2)

closed_sound : {A B : Type 0} (f : A → B) (P : List ℕ → A → Type 0) (Q : List ℕ → B → Type 0) (x : Found A) (s : List ℕ) (b : B) (rest : List ℕ)
    → ((e : List ℕ) (a : A) → P e a → Q (e ++ close_bracket ∷ []) (f a)) → ((a : A) (t : List ℕ) → x ≡ found a t → Begins P s a t) → closed f x ≡ found b rest → Begins Q s b rest
closed_sound f P Q x s b rest up ih h =
    let m = closed_found f x b rest h in
    let w = ih m.value (close_bracket ∷ rest) m.one in
    (w.0 ++ close_bracket ∷ [], rw m.is at (up w.0 m.value w.1), join_texts s (close_bracket ∷ rest) rest w.0 (close_bracket ∷ []) w.2 refl)

-- NUMBERS

-- a first byte of the class p, and further digits
run_sound : (p : ℕ → Bool) (P : List ℕ → Type 0) → ((c : ℕ) (s : List ℕ) → T (p c) → T (all digit s) → P (c ∷ s))
    → (c : ℕ) (s d rest : List ℕ) → pick (p c) (found (c ∷ run digit s) (past digit s)) none ≡ found d rest → Begins (Itself P) (c ∷ s) d rest
run_sound p P make c s d rest h = go (p c) refl h
  where
    go : (b : Bool) → p c ≡ b → pick b (found (c ∷ run digit s) (past digit s)) none ≡ found d rest → Begins (Itself P) (c ∷ s) d rest
    go true e h = (c ∷ run digit s, (make c (run digit s) (true→T e) (run_all digit s), (cc)), cc (run_past digit s))
    go false e h = absurd (none_found h)

unsigned_sound : (s d rest : List ℕ) → unsigned s ≡ found d rest → Begins (Itself Unsigned) s d rest
unfolding unsigned
unsigned_sound [] d rest h = absurd (none_found h)
unsigned_sound (c ∷ s) d rest h = run_sound nonzero Unsigned (λ c s t a. Unsigned.unsigned t a) c s d rest h

digits_sound : (s d rest : List ℕ) → digits s ≡ found d rest → Begins (Itself Digits) s d rest
unfolding digits
digits_sound [] d rest h = absurd (none_found h)
digits_sound (c ∷ s) d rest h = run_sound digit Digits (λ c s t a. Digits.digits t a) c s d rest h

-- the byte v as the sign b, and an unsigned integer
signed_by : (b : Bool) (v c : ℕ) (s : List ℕ) (n : Numeral) (rest : List ℕ) → eqb c v ≡ true
    → ((d : List ℕ) → Unsigned d → Signed (v ∷ d) (numeral b d)) → mapped (numeral b) (unsigned s) ≡ found n rest → Begins Signed (c ∷ s) n rest
signed_by b v c s n rest t make h =
    after (After (v ∷ []) Signed) Signed c v s n rest t (λ e x. x)
    (mapped_sound (numeral b) (Itself Unsigned) (After (v ∷ []) Signed) (unsigned s) s n rest (λ e d u. rw (← u.1) (make e u.0)) (λ d q. unsigned_sound s d rest q) h)

-- an integer from its first byte on, with a sign where that byte is one
integer_by : (c : ℕ) (s : List ℕ) (n : Numeral) (rest : List ℕ) → integer (c ∷ s) ≡ found n rest → Begins (λ e n. pick (sign c) (Signed e n) (Integer e n)) (c ∷ s) n rest
unfolding integer after_sign
integer_by c s n rest h = go (eqb c plus) (eqb c minus_byte) refl refl h
  where
    minus : eqb c minus_byte ≡ true → mapped (numeral true) (unsigned s) ≡ found n rest → Begins Signed (c ∷ s) n rest
    minus t h = signed_by true minus_byte c s n rest t (λ d u. Signed.negative u) h

    go : (x y : Bool) → eqb c plus ≡ x → eqb c minus_byte ≡ y
        → pick y (mapped (numeral true) (unsigned s)) (pick x (mapped (numeral false) (unsigned s)) (mapped (numeral false) (unsigned (c ∷ s)))) ≡ found n rest
        → Begins (λ e n. pick (x || y) (Signed e n) (Integer e n)) (c ∷ s) n rest
    go true true p q h = minus q h
    go false true p q h = minus q h
    go true false p q h = signed_by false plus c s n rest p (λ d u. Signed.positive u) h
    go false false p q h =
        mapped_sound (numeral false) (Itself Unsigned) Integer (unsigned (c ∷ s)) (c ∷ s) n rest (λ e d u. rw (← u.1) (Integer.plain u.0)) (λ d q. unsigned_sound (c ∷ s) d rest q) h

signed_sound : (c : ℕ) (s : List ℕ) (n : Numeral) (rest : List ℕ) → sign c ≡ true → integer (c ∷ s) ≡ found n rest → Begins Signed (c ∷ s) n rest
signed_sound c s n rest t h = rw t at (integer_by c s n rest h)

pub integer_sound : (s : List ℕ) (n : Numeral) (rest : List ℕ) → integer s ≡ found n rest → (e : List ℕ) × Integer e n × (s ≡ e ++ rest)
unfolding integer after_sign mapped unsigned
integer_sound [] n rest h = absurd (none_found h)
integer_sound (c ∷ s) n rest h = let w = integer_by c s n rest h in (w.0, any (sign c) w.0 w.1, w.2)
  where
    any : (b : Bool) (e : List ℕ) → pick b (Signed e n) (Integer e n) → Integer e n
    any true e x = Integer.signed x
    any false e x = x

-- POWERS

-- the byte v, a text that is its own value, and a closing bracket, after the integer i
after_integer : (i : List ℕ) (f : List ℕ → Written) (P : List ℕ → Type 0) (c v : ℕ) (x : Found (List ℕ)) (s : List ℕ) (w : Written) (rest : List ℕ) → eqb c v ≡ true
    → ((d : List ℕ) → P d → Bracketed (open_bracket ∷ i ++ v ∷ d ++ close_bracket ∷ []) (f d)) → ((d t : List ℕ) → x ≡ found d t → Begins (Itself P) s d t)
    → closed f x ≡ found w rest → Begins (After (open_bracket ∷ i) Bracketed) (c ∷ s) w rest
after_integer i f P c v x s w rest t make ih h =
    after (After (v ∷ []) (After (open_bracket ∷ i) Bracketed)) (After (open_bracket ∷ i) Bracketed) c v s w rest t (λ e b. b)
    (closed_sound f (Itself P) (After (v ∷ []) (After (open_bracket ∷ i) Bracketed)) x s w rest (λ e d u. rw (← u.1, ← (append_assoc i (v ∷ e) (close_bracket ∷ []))) (make e u.0)) ih h)

-- what follows the digits before a decimal's point, which are the text i with its sign
pointed_sound : (n : Numeral) (i : List ℕ) → ((d : List ℕ) → Digits d → Decimal (i ++ point ∷ d) n d) → (s : List ℕ) (w : Written) (rest : List ℕ) → pointed n s ≡ found w rest
    → Begins (After (open_bracket ∷ i) Bracketed) s w rest
unfolding pointed
pointed_sound n i make [] w rest h = absurd (none_found h)
pointed_sound n i make (c ∷ s) w rest h = go (eqb c point) refl h
  where
    go : (x : Bool) → eqb c point ≡ x → pick x (closed (decimal n) (digits s)) none ≡ found w rest → Begins (After (open_bracket ∷ i) Bracketed) (c ∷ s) w rest
    go true p h = after_integer i (decimal n) Digits c point (digits s) s w rest p (λ d t. Bracketed.a_decimal (make d t)) (λ d t q. digits_sound s d t q) h
    go false p h = absurd (none_found h)

-- what follows the integer i of a power in brackets
bracketed_on_sound : (n : Numeral) (i : List ℕ) → Integer i n → (s : List ℕ) (w : Written) (rest : List ℕ) → bracketed_on n s ≡ found w rest
    → Begins (After (open_bracket ∷ i) Bracketed) s w rest
unfolding bracketed_on
bracketed_on_sound n i d [] w rest h = absurd (none_found h)
bracketed_on_sound n i d (c ∷ s) w rest h = go (eqb c close_bracket) (eqb c slash) refl refl h
  where
    go : (x y : Bool) → eqb c close_bracket ≡ x → eqb c slash ≡ y
        → pick x (found (whole n) s) (pick y (closed (fraction n) (unsigned s)) (pointed n (c ∷ s))) ≡ found w rest
        → Begins (After (open_bracket ∷ i) Bracketed) (c ∷ s) w rest
    go true y p q h =
        let same : whole n ≡ w = cc in
        (close_bracket ∷ [], rw same at (Bracketed.an_integer d), cc (eqb-true c close_bracket p))
    go false true p q h = after_integer i (fraction n) Unsigned c slash (unsigned s) s w rest q (λ e t. Bracketed.a_fraction d t) (λ e t q. unsigned_sound s e t q) h
    go false false p q h = pointed_sound n i (λ e t. Decimal.pointed d t) (c ∷ s) w rest h

-- a sign, and what is found after it
after_sign_sound : {A : Type 0} (f : Bool → List ℕ → Found A) (s : List ℕ) (a : A) (rest : List ℕ) → after_sign f s ≡ found a rest
    → (b : Bool) × (t : List ℕ) × Begins Sign s b t × (f b t ≡ found a rest)
unfolding after_sign
after_sign_sound f [] a rest h = (false, [], ([], Sign.none, refl), h)
after_sign_sound f (c ∷ s) a rest h = go (eqb c minus_byte) (eqb c plus) refl refl h
  where
    go : (x y : Bool) → eqb c minus_byte ≡ x → eqb c plus ≡ y → pick x (f true s) (pick y (f false s) (f false (c ∷ s))) ≡ found a rest
        → (b : Bool) × (t : List ℕ) × Begins Sign (c ∷ s) b t × (f b t ≡ found a rest)
    go true y p q h = (true, s, (minus_byte ∷ [], Sign.negative, cc (eqb-true c minus_byte p)), h)
    go false true p q h = (false, s, (plus ∷ [], Sign.positive, cc (eqb-true c plus q)), h)
    go false false p q h = (false, c ∷ s, ([], Sign.none, refl), h)

-- a decimal that a single 0 begins, after the sign i
below_one_sound : {i : List ℕ} {b : Bool} → Sign i b → (s : List ℕ) (w : Written) (rest : List ℕ) → below_one b s ≡ found w rest
    → Begins (After (open_bracket ∷ i) Bracketed) s w rest
unfolding below_one
below_one_sound {i} {b} g s w rest h =
    let m = then_found (byte digit_zero (numeral b (digit_zero ∷ [])) s) pointed w rest h in
    let z = byte_found digit_zero (numeral b (digit_zero ∷ [])) m.value s m.mid m.one in
    let d = pointed_sound (numeral b (digit_zero ∷ [])) (i ++ digit_zero ∷ []) (λ e t. rw (append_assoc i (digit_zero ∷ []) (point ∷ e)) (Decimal.below_one g t)) m.mid w rest (rw (← z.0) at m.two) in
    (digit_zero ∷ d.0, rw (append_assoc i (digit_zero ∷ []) d.0) at d.1, z.1 ∙ ap (λ (l : List ℕ). digit_zero ∷ l) d.2)

-- a power in brackets, from after the opening one, by the integer there
bracketed_or_sound : (x : Found Numeral) (s : List ℕ) (w : Written) (rest : List ℕ) → integer s ≡ x → bracketed_or (after_sign below_one s) x ≡ found w rest
    → Begins (After (open_bracket ∷ []) Bracketed) s w rest
unfolding bracketed_or
bracketed_or_sound none s w rest e h =
    let m = after_sign_sound below_one s w rest h in
    let i = m.2 in
    let b = below_one_sound i.1 m.1 w rest m.3 in
    (i.0 ++ b.0, b.1, join_texts s m.1 rest i.0 b.0 i.2 b.2)
bracketed_or_sound (found n t) s w rest e h =
    let i = integer_sound s n t e in
    let b = bracketed_on_sound n i.0 i.1 t w rest h in
    (i.0 ++ b.0, b.1, join_texts s t rest i.0 b.0 i.2 b.2)

bracketed_sound : (s : List ℕ) (w : Written) (rest : List ℕ) → bracketed s ≡ found w rest → Begins (After (open_bracket ∷ []) Bracketed) s w rest
unfolding bracketed
bracketed_sound s w rest h = bracketed_or_sound (integer s) s w rest refl h

pub power_sound : (s : List ℕ) (w : Written) (rest : List ℕ) → power s ≡ found w rest → (e : List ℕ) × Power e w × (s ≡ e ++ rest)
unfolding power
power_sound [] w rest h = absurd (none_found h)
power_sound (c ∷ s) w rest h = go (eqb c open_bracket) refl h
  where
    go : (x : Bool) → eqb c open_bracket ≡ x → pick x (bracketed s) (mapped whole (integer (c ∷ s))) ≡ found w rest → Begins Power (c ∷ s) w rest
    go true p h = after (After (open_bracket ∷ []) Bracketed) Power c open_bracket s w rest p (λ e b. Power.bracketed b) (bracketed_sound s w rest h)
    go false p h = mapped_sound whole Integer Power (integer (c ∷ s)) (c ∷ s) w rest (λ e n i. Power.integer i) (λ n q. integer_sound (c ∷ s) n rest q) h

-- no power
unpowered : (r : Rules) (s : List ℕ) (w : Written) (rest : List ℕ) → found unwritten s ≡ found w rest → Begins (ExponentBy r) s w rest
unpowered r s w rest h =
    let same : unwritten ≡ w = cc in
    ([], rw (← same) ExponentBy.none, (cc))

-- two stars and a power, or no power; c is the first star
starred_sound : (r : Rules) (c : ℕ) (s : List ℕ) (w : Written) (rest : List ℕ) → r.stars ≡ true → eqb c star ≡ true → starred (c ∷ s) s ≡ found w rest → Begins (ExponentBy r) (c ∷ s) w rest
unfolding starred
starred_sound r c [] w rest f p h = unpowered r (c ∷ []) w rest h
starred_sound r c (d ∷ s) w rest f p h = go (eqb d star) refl h
  where
    go : (x : Bool) → eqb d star ≡ x → pick x (power s) (found unwritten (c ∷ d ∷ s)) ≡ found w rest → Begins (ExponentBy r) (c ∷ d ∷ s) w rest
    go true q h =
        after (After (star ∷ []) (ExponentBy r)) (ExponentBy r) c star (d ∷ s) w rest p (λ e b. b)
        (after Power (After (star ∷ []) (ExponentBy r)) d star s w rest q (λ e b. ExponentBy.stars (true→T f) b) (power_sound s w rest h))
    go false q h = unpowered r (c ∷ d ∷ s) w rest h

pub exponent_sound : (r : Rules) (s : List ℕ) (w : Written) (rest : List ℕ) → exponent r s ≡ found w rest → (e : List ℕ) × ExponentBy r e w × (s ≡ e ++ rest)
unfolding exponent
exponent_sound r [] w rest h = unpowered r [] w rest h
exponent_sound r (c ∷ s) w rest h =
    go ((sign c || digit c) && r.direct) (eqb c open_bracket && r.brackets) (eqb c caret && r.caret) (eqb c star && r.stars) refl refl refl refl h
  where
    go : (a b x y : Bool) → ((sign c || digit c) && r.direct) ≡ a → (eqb c open_bracket && r.brackets) ≡ b → (eqb c caret && r.caret) ≡ x → (eqb c star && r.stars) ≡ y
        → pick a (mapped whole (integer (c ∷ s))) (pick b (bracketed s) (pick x (power s) (pick y (starred (c ∷ s) s) (found unwritten (c ∷ s))))) ≡ found w rest
        → Begins (ExponentBy r) (c ∷ s) w rest
    go true b x y p q o l h =
        mapped_sound whole Integer (ExponentBy r) (integer (c ∷ s)) (c ∷ s) w rest
        (λ e n i. ExponentBy.integer (true→T (and_right (sign c || digit c) r.direct p)) i) (λ n q. integer_sound (c ∷ s) n rest q) h
    go false true x y p q o l h =
        after (After (open_bracket ∷ []) Bracketed) (ExponentBy r) c open_bracket s w rest (and_left (eqb c open_bracket) r.brackets q)
        (λ e b. ExponentBy.bracketed (true→T (and_right (eqb c open_bracket) r.brackets q)) b) (bracketed_sound s w rest h)
    go false false true y p q o l h =
        after Power (ExponentBy r) c caret s w rest (and_left (eqb c caret) r.caret o) (λ e b. ExponentBy.caret (true→T (and_right (eqb c caret) r.caret o)) b) (power_sound s w rest h)
    go false false false true p q o l h = starred_sound r c s w rest (and_right (eqb c star) r.stars l) (and_left (eqb c star) r.stars l) h
    go false false false false p q o l h = unpowered r (c ∷ s) w rest h

-- SPELLINGS

quoted_text : (p : List ℕ) (c : ℕ) (s l t out rest : List ℕ) → c ≡ quote → s ≡ l ++ t → t ≡ quote ∷ rest → p ++ quote ∷ l ++ quote ∷ [] ≡ out → p ++ c ∷ s ≡ out ++ rest
quoted_text p c s l t out rest e a b q = rw (← q, e, a, b, append_assoc (p ++ quote ∷ l) (quote ∷ []) rest, append_assoc p (quote ∷ l) (quote ∷ rest))

-- letters and a closing quote, after p and the first quote c
quoted_sound : (r : Rules) (p : List ℕ) (c : ℕ) (s out rest : List ℕ) → (eqb c quote && r.quotes) ≡ true → ((l : List ℕ) → Letters l → Quoted (p ++ quote ∷ l ++ quote ∷ []))
    → quoted p s ≡ found out rest → SpellingBy r out × (p ++ c ∷ s ≡ out ++ rest)
unfolding quoted quoted_on all
quoted_sound r p c s out rest e make h = go (run letter s) (past letter s) (run_all letter s) (run_past letter s) h
  where
    go : (l t : List ℕ) → T (all letter l) → s ≡ l ++ t → quoted_on p l t ≡ found out rest → SpellingBy r out × (p ++ c ∷ s ≡ out ++ rest)
    go [] t a q h = absurd (none_found h)
    go (d ∷ l) t a q h =
        let m = byte_found quote (p ++ quote ∷ d ∷ l ++ quote ∷ []) out t rest h in
        let b = both (letter d) (all letter l) a in (
          SpellingBy.quoted (true→T (and_right (eqb c quote) r.quotes e)) (rw m.0 at (make (d ∷ l) (Letters.letters b.0 b.1))),
          quoted_text p c s (d ∷ l) t out rest (eqb-true c quote (and_left (eqb c quote) r.quotes e)) q m.1 m.0,
        )

-- the letters l, or a quoted spelling that they begin
lettered_sound : (r : Rules) (l s out rest : List ℕ) → Letters l → lettered r l s ≡ found out rest → SpellingBy r out × (l ++ s ≡ out ++ rest)
unfolding lettered
lettered_sound r l [] out rest d h = let same : l ≡ out = cc in (rw (← same) (SpellingBy.letters d), cc)
lettered_sound r l (c ∷ s) out rest d h = go (eqb c quote && r.quotes) (prefix_name l) refl refl h
  where
    go : (x y : Bool) → (eqb c quote && r.quotes) ≡ x → prefix_name l ≡ y
        → pick x (pick y (quoted l s) none) (found l (c ∷ s)) ≡ found out rest → SpellingBy r out × (l ++ c ∷ s ≡ out ++ rest)
    go true true p q h = quoted_sound r l c s out rest p (λ t d. Quoted.prefixed (PrefixName.named (true→T q)) d) h
    go true false p q h = absurd (none_found h)
    go false y p q h = let same : l ≡ out = cc in (rw (← same) (SpellingBy.letters d), cc)

letters_run : (c : ℕ) (s : List ℕ) → letter c ≡ true → Letters (run letter (c ∷ s))
unfolding run
letters_run c s e = rw e (Letters.letters (true→T e) (run_all letter s))

percent_sound : (r : Rules) (c : ℕ) (s l rest : List ℕ) → (eqb c percent && r.percent) ≡ true → found (c ∷ []) s ≡ found l rest → SpellingBy r l × (c ∷ s ≡ l ++ rest)
percent_sound r c s l rest e h =
    let same : c ∷ [] ≡ l = cc in
    (rw (← same, eqb-true c percent (and_left (eqb c percent) r.percent e)) (SpellingBy.percent (true→T (and_right (eqb c percent) r.percent e))), rw (← same) (cc))

pub spelling_sound : (r : Rules) (s l rest : List ℕ) → spelling r s ≡ found l rest → SpellingBy r l × (s ≡ l ++ rest)
unfolding spelling
spelling_sound r [] l rest h = absurd (none_found h)
spelling_sound r (c ∷ s) l rest h = go (letter c) (eqb c percent && r.percent) (eqb c quote && r.quotes) refl refl refl h
  where
    go : (x y z : Bool) → letter c ≡ x → (eqb c percent && r.percent) ≡ y → (eqb c quote && r.quotes) ≡ z
        → pick x (lettered r (run letter (c ∷ s)) (past letter (c ∷ s))) (pick y (found (c ∷ []) s) (pick z (quoted [] s) none)) ≡ found l rest
        → SpellingBy r l × (c ∷ s ≡ l ++ rest)
    go true y z p q o h =
        let w = lettered_sound r (run letter (c ∷ s)) (past letter (c ∷ s)) l rest (letters_run c s p) h in
        (w.0, run_past letter (c ∷ s) ∙ w.1)
    go false true z p q o h = percent_sound r c s l rest q h
    go false false true p q o h = quoted_sound r [] c s l rest o (λ t d. Quoted.quoted d) h
    go false false false p q o h = absurd (none_found h)

-- FACTORS

-- more zeros after a plain factor
plain_zeros : (x z : List ℕ) (k : ℕ) → Plain x k → all (λ d. eqb d digit_zero) z ≡ true → Plain (x ++ z) (k + length z)
unfolding all
plain_zeros x [] k p a = let e : k + 0 ≡ k = omega arith in rw (e, append-nil x) p
plain_zeros x (c ∷ z) k p a =
    let e : k + suc (length z) ≡ suc k + length z = omega arith in
    let b : c ≡ 48 = eqb-true c digit_zero (and_left (eqb c digit_zero) (all (λ d. eqb d digit_zero) z) a) in
    let w = plain_zeros (x ++ digit_zero ∷ []) z (suc k) (Plain.ten_times p) (and_right (eqb c digit_zero) (all (λ d. eqb d digit_zero) z) a) in
    rw (e, b) (rw (append_assoc x (digit_zero ∷ []) z) at w)

plain_sound : (ds : List ℕ) → plain_digits ds ≡ true → Plain ds (length ds - 1)
unfolding plain_digits
plain_sound [] e = absurd (false_true e)
plain_sound (c ∷ s) e =
    let b : c ≡ 49 = eqb-true c digit_one (and_left (eqb c digit_one) (all (λ d. eqb d digit_zero) s) e) in
    let k : suc (length s) - 1 ≡ 0 + length s = omega arith in
    rw (k, b) (plain_zeros (digit_one ∷ []) s 0 Plain.one (and_right (eqb c digit_one) (all (λ d. eqb d digit_zero) s) e))

-- the digits ds are the factor, and nothing more is found after them
plain_factor_sound : (r : Rules) (ds s : List ℕ) (f : Factor) (rest : List ℕ) → plain_factor r ds s ≡ found f rest → Begins (After ds (FactorBy r)) s f rest
unfolding plain_factor
plain_factor_sound r ds s f rest h = go (plain_digits ds && r.plain) refl h
  where
    go : (b : Bool) → (plain_digits ds && r.plain) ≡ b → pick b (found (zeros (length ds - 1)) s) none ≡ found f rest → Begins (After ds (FactorBy r)) s f rest
    go true e h =
        let same : zeros (length ds - 1) ≡ f = cc in
        ([], rw (← same, append-nil ds) (FactorBy.plain (true→T (and_right (plain_digits ds) r.plain e)) (plain_sound ds (and_left (plain_digits ds) r.plain e))), (cc))
    go false e h = absurd (none_found h)

-- an integer, bare or in brackets, of which Q holds as a power of ten
wrapped_sound : (r : Rules) (Q : List ℕ → Factor → Type 0) → ((e : List ℕ) (n : Numeral) → WrappedBy r e n → Q e (ten_to n))
    → (s : List ℕ) (f : Factor) (rest : List ℕ) → wrapped r s ≡ found f rest → Begins Q s f rest
unfolding wrapped
wrapped_sound r Q make [] f rest h = absurd (none_found h)
wrapped_sound r Q make (c ∷ s) f rest h = go (eqb c open_bracket && r.wrapped) refl h
  where
    go : (b : Bool) → (eqb c open_bracket && r.wrapped) ≡ b → pick b (closed ten_to (integer s)) (mapped ten_to (integer (c ∷ s))) ≡ found f rest → Begins Q (c ∷ s) f rest
    go true e h =
        after (After (open_bracket ∷ []) Q) Q c open_bracket s f rest (and_left (eqb c open_bracket) r.wrapped e) (λ e q. q)
        (closed_sound ten_to Integer (After (open_bracket ∷ []) Q) (integer s) s f rest
        (λ x n i. make (open_bracket ∷ x ++ close_bracket ∷ []) n (WrappedBy.bracketed (true→T (and_right (eqb c open_bracket) r.wrapped e)) i)) (λ n t q. integer_sound s n t q) h)
    go false e h = mapped_sound ten_to Integer Q (integer (c ∷ s)) (c ∷ s) f rest (λ x n i. make x n (WrappedBy.bare i)) (λ n q. integer_sound (c ∷ s) n rest q) h

-- two stars after the digits 10; c is the first star
starred_factor_sound : (r : Rules) (c : ℕ) (s : List ℕ) (f : Factor) (rest : List ℕ) → eqb c star ≡ true → starred_factor r s ≡ found f rest
    → Begins (After (digit_one ∷ digit_zero ∷ []) (FactorBy r)) (c ∷ s) f rest
unfolding starred_factor
starred_factor_sound r c [] f rest p h = absurd (none_found h)
starred_factor_sound r c (d ∷ s) f rest p h = go (eqb d star) refl h
  where
    go : (b : Bool) → eqb d star ≡ b → pick b (wrapped r s) none ≡ found f rest → Begins (After (digit_one ∷ digit_zero ∷ []) (FactorBy r)) (c ∷ d ∷ s) f rest
    go true q h =
        after (After (digit_one ∷ digit_zero ∷ star ∷ []) (FactorBy r)) (After (digit_one ∷ digit_zero ∷ []) (FactorBy r)) c star (d ∷ s) f rest p (λ e b. b)
        (after (After (digit_one ∷ digit_zero ∷ star ∷ star ∷ []) (FactorBy r)) (After (digit_one ∷ digit_zero ∷ star ∷ []) (FactorBy r)) d star s f rest q (λ e b. b)
        (wrapped_sound r (After (digit_one ∷ digit_zero ∷ star ∷ star ∷ []) (FactorBy r)) (λ e n w. FactorBy.stars w) s f rest h))
    go false q h = absurd (none_found h)

-- what is found after the digits 10
ten_factor_sound : (r : Rules) (s : List ℕ) (f : Factor) (rest : List ℕ) → ten_factor r (digit_one ∷ digit_zero ∷ []) s ≡ found f rest → Begins (After (digit_one ∷ digit_zero ∷ []) (FactorBy r)) s f rest
unfolding ten_factor
ten_factor_sound r [] f rest h = plain_factor_sound r (digit_one ∷ digit_zero ∷ []) [] f rest h
ten_factor_sound r (c ∷ s) f rest h = go (sign c && r.signed) (eqb c caret && r.caret) (eqb c star) refl refl refl h
  where
    go : (x y z : Bool) → (sign c && r.signed) ≡ x → (eqb c caret && r.caret) ≡ y → eqb c star ≡ z
        → pick x (mapped ten_to (integer (c ∷ s))) (pick y (wrapped r s) (pick z (starred_factor r s) (plain_factor r (digit_one ∷ digit_zero ∷ []) (c ∷ s)))) ≡ found f rest
        → Begins (After (digit_one ∷ digit_zero ∷ []) (FactorBy r)) (c ∷ s) f rest
    go true y z p q o h =
        mapped_sound ten_to Signed (After (digit_one ∷ digit_zero ∷ []) (FactorBy r)) (integer (c ∷ s)) (c ∷ s) f rest
        (λ e n i. FactorBy.signed (true→T (and_right (sign c) r.signed p)) i) (λ n q. signed_sound c s n rest (and_left (sign c) r.signed p) q) h
    go false true z p q o h =
        after (After (digit_one ∷ digit_zero ∷ caret ∷ []) (FactorBy r)) (After (digit_one ∷ digit_zero ∷ []) (FactorBy r)) c caret s f rest (and_left (eqb c caret) r.caret q) (λ e b. b)
        (wrapped_sound r (After (digit_one ∷ digit_zero ∷ caret ∷ []) (FactorBy r)) (λ e n w. FactorBy.caret (true→T (and_right (eqb c caret) r.caret q)) w) s f rest h)
    go false false true p q o h = starred_factor_sound r c s f rest o h
    go false false false p q o h = plain_factor_sound r (digit_one ∷ digit_zero ∷ []) (c ∷ s) f rest h

ten_digits : (ds : List ℕ) → ten ds ≡ true → ds ≡ digit_one ∷ digit_zero ∷ []
unfolding ten
ten_digits [] e = absurd (false_true e)
ten_digits (c ∷ []) e = absurd (false_true e)
ten_digits (c ∷ d ∷ []) e = cc (eqb-true c digit_one (and_left (eqb c digit_one) (eqb d digit_zero) e), eqb-true d digit_zero (and_right (eqb c digit_one) (eqb d digit_zero) e))
ten_digits (c ∷ d ∷ x ∷ s) e = absurd (false_true e)

pub factor_sound : (r : Rules) (s : List ℕ) (f : Factor) (rest : List ℕ) → factor r s ≡ found f rest → (x : List ℕ) × FactorBy r x f × (s ≡ x ++ rest)
unfolding factor
factor_sound r s f rest h = go (run digit s) (past digit s) (ten (run digit s)) refl (run_past digit s) h
  where
    on : (ds t : List ℕ) → s ≡ ds ++ t → Begins (After ds (FactorBy r)) t f rest → Begins (FactorBy r) s f rest
    on ds t q w = (ds ++ w.0, w.1, join_texts s t rest ds w.0 q w.2)

    go : (ds t : List ℕ) (b : Bool) → ten ds ≡ b → s ≡ ds ++ t → pick b (ten_factor r ds t) (plain_factor r ds t) ≡ found f rest → Begins (FactorBy r) s f rest
    go ds t true e q h = let z = ten_digits ds e in on (digit_one ∷ digit_zero ∷ []) t (rw z at q) (ten_factor_sound r t f rest (rw z at h))
    go ds t false e q h = on ds t q (plain_factor_sound r ds t f rest h)
