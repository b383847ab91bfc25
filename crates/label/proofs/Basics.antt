-- Laws of tests, classes of bytes, runs, and what is found.
use Prim.Native.Nat.{ℕ, zero, suc, ◌-◌, ◌≤◌, ◌<◌}
use native.Mathlib.Omega.{arith}
use native.Mathlib.Decide.{dec_lt}
use native.Mathlib.Nat.{zero-sub, sub-zero, suc-sub-suc}
use mathlib.Core.Path.{◌≡◌, refl, sym, ◌∙◌, ap}
use mathlib.Core.Bool.{Bool, true, false, ◌&&◌, not}
use mathlib.Core.List.{List, [], ◌∷◌, ◌++◌}
use mathlib.Core.Option.{Option, none as nothing, some}
use lib.Dec.{T, eqb, leb, leb→le}
use lib.ListN.{take, drop}
use lib.Seq.{take-nil}
use borrow.Author.Tests.{eqb-true, lt-leb, le-leb}
use Rattle.label.specs.Bytes.{digit_zero, digit_one, digit_nine, within, letter, digit, nonzero, all, run_on, run, past_on, past, same, close_bracket, point as point_byte, quote, slash as slash_byte, space as space_byte, star as star_byte}
use Rattle.label.specs.Parse.{Found, none, found, then, mapped, byte, closed}
use Rattle.label.specs.Choice.{pick}

-- TESTS

pub false_true : false ≡ true → ⊥
false_true e = let z : ◌≡◌ {A = ℕ} 0 1 = cc in omega arith

pub T→true : (b : Bool) → T b → b ≡ true
T→true true t = refl
T→true false t = elim t [ ]

pub true→T : {b : Bool} → b ≡ true → T b
true→T e = rw e tt

pub T_not : (b : Bool) → T (not b) → b ≡ false
T_not false t = refl
T_not true t = elim t [ ]

pub both : (a b : Bool) → T (a && b) → T a × T b
both true true t = (tt, tt)
both false b t = elim t [ ]
both true false t = elim t [ ]

pub T_and : (a b : Bool) → T a → T b → T (a && b)
T_and true true t u = tt
T_and false b t u = elim t [ ]
T_and true false t u = elim u [ ]

pub and_left : (x y : Bool) → (x && y) ≡ true → x ≡ true
and_left true y e = refl
and_left false y e = e

pub and_right : (x y : Bool) → (x && y) ≡ true → y ≡ true
and_right true y e = e
and_right false y e = absurd (false_true e)

-- a test passed by every number below n
unfoldable pub all_below : (ℕ → Bool) → ℕ → Bool
all_below p zero = true
all_below p (suc n) = p n && all_below p n

pub at_below : (p : ℕ → Bool) (n : ℕ) → all_below p n ≡ true → (i : ℕ) → i < n → p i ≡ true
unfolding all_below
at_below p zero t i h = absurd (omega arith)
at_below p (suc n) t i h = go (λ g. at_below p n (and_right (p n) (all_below p n) t) i g) (dec_lt i n)
  where
    go : (i < n → p i ≡ true) → Dec (i < n) → p i ≡ true
    go ih (yes g) = ih g
    go ih (no g) = let q : i ≡ n = omega arith in rw q (and_left (p n) (all_below p n) t)

-- FOUND

pub none_found : {A : Type 0} {a : A} {s : List ℕ} → ◌≡◌ {A = Found A} none (found a s) → ⊥
none_found e = let z : ◌≡◌ {A = ℕ} 0 1 = cc in omega arith

pub none_some : {A : Type 0} {a : A} → ◌≡◌ {A = Option A} nothing (some a) → ⊥
none_some e = let z : ◌≡◌ {A = ℕ} 0 1 = cc in omega arith

-- both halves of one thing and then another
pub record Then (A B : Type 0) (x : Found A) (f : A → List ℕ → Found B) (b : B) (u : List ℕ) : Type 0 where
  pub value : A
  pub mid : List ℕ
  pub one : x ≡ found value mid
  pub two : f value mid ≡ found b u

pub then_found : {A B : Type 0} (x : Found A) (f : A → List ℕ → Found B) (b : B) (u : List ℕ) → then x f ≡ found b u → Then A B x f b u
unfolding then
then_found none f b u h = absurd (none_found h)
then_found (found a s) f b u h = record { value = a; mid = s; one = refl; two = h }

pub record Mapped (A B : Type 0) (f : A → B) (x : Found A) (b : B) (u : List ℕ) : Type 0 where
  pub value : A
  pub one : x ≡ found value u
  pub is : f value ≡ b

pub mapped_found : {A B : Type 0} (f : A → B) (x : Found A) (b : B) (u : List ℕ) → mapped f x ≡ found b u → Mapped A B f x b u
unfolding mapped
mapped_found f none b u h = absurd (none_found h)
mapped_found f (found a s) b u h = record { value = a; one = (cc); is = (cc) }

pub byte_found : {A : Type 0} (c : ℕ) (a b : A) (s u : List ℕ) → byte c a s ≡ found b u → (a ≡ b) × (s ≡ c ∷ u)
unfolding byte
byte_found c a b [] u h = absurd (none_found h)
byte_found c a b (d ∷ s) u h = go (eqb d c) refl h
  where
    go : (x : Bool) → eqb d c ≡ x → pick x (found a s) none ≡ found b u → (a ≡ b) × (d ∷ s ≡ c ∷ u)
    go true e h = ((cc), (cc (eqb-true d c e)))
    go false e h = absurd (none_found h)

-- a value, then a closing bracket
pub record Closed (A B : Type 0) (f : A → B) (x : Found A) (b : B) (u : List ℕ) : Type 0 where
  pub value : A
  pub one : x ≡ found value (close_bracket ∷ u)
  pub is : f value ≡ b

pub closed_found : {A B : Type 0} (f : A → B) (x : Found A) (b : B) (u : List ℕ) → closed f x ≡ found b u → Closed A B f x b u
unfolding closed
closed_found f x b u h =
    let w = then_found x (λ a s. byte close_bracket (f a) s) b u h in
    let v = byte_found close_bracket (f w.value) b w.mid u w.two in
    record { value = w.value; one = w.one ∙ ap (λ (l : List ℕ). found w.value l) v.1; is = v.0 }

-- CLASSES

-- a byte of a class is not a byte v that fails the class's test
pub differs : (p : ℕ → Bool) (c v : ℕ) → T (p c) → p v ≡ false → eqb c v ≡ false
differs p c v t e = go (eqb c v) refl
  where
    go : (b : Bool) → eqb c v ≡ b → eqb c v ≡ false
    go true h = absurd (rw (eqb-true c v h, e) at t)
    go false h = h

within_bounds : (a b c : ℕ) → T (within a b c) → (a ≤ c) × (c ≤ b)
within_bounds a b c t =
    let w = both (leb a c) (leb c b) t in
    (leb→le a c w.0, leb→le c b w.1)

pub nonzero_bounds : (c : ℕ) → T (nonzero c) → (digit_one ≤ c) × (c ≤ digit_nine)
unfolding nonzero
nonzero_bounds c t = within_bounds digit_one digit_nine c t

pub digit_bounds : (c : ℕ) → T (digit c) → (digit_zero ≤ c) × (c ≤ digit_nine)
unfolding digit
digit_bounds c t = within_bounds digit_zero digit_nine c t

pub nonzero_digit : (c : ℕ) → T (nonzero c) → digit c ≡ true
unfolding digit
nonzero_digit c t =
    let w = nonzero_bounds c t in
    rw (le-leb 48 c (omega arith), le-leb c 57 w.1)

pub digit_no_letter : (c : ℕ) → T (digit c) → letter c ≡ false
unfolding letter
digit_no_letter c t =
    let w = digit_bounds c t in
    rw (lt-leb 65 c (omega arith), lt-leb 97 c (omega arith))

pub letter_no_digit : (c : ℕ) → T (letter c) → digit c ≡ false
letter_no_digit c t = go (digit c) refl
  where
    go : (b : Bool) → digit c ≡ b → digit c ≡ false
    go true e = absurd (false_true (sym (digit_no_letter c (true→T e)) ∙ T→true (letter c) t))
    go false e = e

-- the same bytes are one text
pub same_is : (s t : List ℕ) → same s t ≡ true → s ≡ t
unfolding same
same_is [] [] e = refl
same_is [] (d ∷ t) e = absurd (false_true e)
same_is (c ∷ s) [] e = absurd (false_true e)
same_is (c ∷ s) (d ∷ t) e = go (eqb c d) refl (λ e. same_is s t e) e
  where
    go : (x : Bool) → eqb c d ≡ x → (same s t ≡ true → s ≡ t) → (x && same s t) ≡ true → c ∷ s ≡ d ∷ t
    go true p ih e = cc (eqb-true c d p, ih e)
    go false p ih e = absurd (false_true e)

-- RUNS

-- the byte after a run of a class is not of the class
pub data Stops (p : ℕ → Bool) : List ℕ → Type 0 where
  end : Stops p []
  other : {c : ℕ} {s : List ℕ} → p c ≡ false → Stops p (c ∷ s)

-- s is the run where the class stops after it, and the rest follows
run_and_past : (p : ℕ → Bool) (s rest : List ℕ) → T (all p s) → Stops p rest → (run p (s ++ rest) ≡ s) × (past p (s ++ rest) ≡ rest)
unfolding run past all
run_and_past p [] rest t end = (refl, refl)
run_and_past p [] rest t (other e) = rw e (refl, refl)
run_and_past p (c ∷ s) rest t h =
    let w = both (p c) (all p s) t in
    let ih = run_and_past p s rest w.1 h in
    rw (T→true (p c) w.0) (ap (λ (l : List ℕ). c ∷ l) ih.0, ih.1)

pub run_of : (p : ℕ → Bool) (s rest : List ℕ) → T (all p s) → Stops p rest → run p (s ++ rest) ≡ s
run_of p s rest t h = (run_and_past p s rest t h).0

pub past_of : (p : ℕ → Bool) (s rest : List ℕ) → T (all p s) → Stops p rest → past p (s ++ rest) ≡ rest
past_of p s rest t h = (run_and_past p s rest t h).1

-- a run and what follows it make the text, and the run is of the class
pub run_past : (p : ℕ → Bool) (s : List ℕ) → s ≡ run p s ++ past p s
unfolding run past
run_past p [] = refl
run_past p (c ∷ s) = go (p c) refl (run_past p s)
  where
    go : (b : Bool) → p c ≡ b → s ≡ run p s ++ past p s → c ∷ s ≡ run_on b c (run p s) ++ past_on b (past p s) (c ∷ s)
    go true e ih = ap (λ (l : List ℕ). c ∷ l) ih
    go false e ih = refl

pub run_all : (p : ℕ → Bool) (s : List ℕ) → T (all p (run p s))
unfolding run all
run_all p [] = tt
run_all p (c ∷ s) = go (p c) refl (run_all p s)
  where
    go : (b : Bool) → p c ≡ b → T (all p (run p s)) → T (all p (run_on b c (run p s)))
    go true e ih = T_and (p c) (all p (run p s)) (true→T e) ih
    go false e ih = tt

-- PARTS

pub drop_take : (k m : ℕ) (l : List ℕ) → drop k (take m l) ≡ take (m - k) (drop k l)
drop_take zero m l = rw (sub-zero m)
drop_take (suc k) zero l = rw (zero-sub (suc k))
drop_take (suc k) (suc m) [] = rw (take-nil {A = ℕ} (suc m - suc k))
drop_take (suc k) (suc m) (c ∷ l) = rw (suc-sub-suc m k) (drop_take k m l)

-- WHAT MAY FOLLOW A UNIT OR A GROUP IN ANY NOTATION

-- the text does not begin with a star
pub data NoStar : List ℕ → Type 0 where
  end : NoStar []
  other : {c : ℕ} {s : List ℕ} → eqb c star_byte ≡ false → NoStar (c ∷ s)

-- the end, a space, a closing bracket, a star that is not two, a point, a slash
pub data Ends : List ℕ → Type 0 where
  end : Ends []
  space : {s : List ℕ} → Ends (space_byte ∷ s)
  close : {s : List ℕ} → Ends (close_bracket ∷ s)
  star : {s : List ℕ} → NoStar s → Ends (star_byte ∷ s)
  point : {s : List ℕ} → Ends (point_byte ∷ s)
  slash : {s : List ℕ} → Ends (slash_byte ∷ s)

-- the text goes on with no letter and no quote
pub data Unlettered : List ℕ → Type 0 where
  end : Unlettered []
  other : {c : ℕ} {s : List ℕ} → letter c ≡ false → eqb c quote ≡ false → Unlettered (c ∷ s)
