-- Parts of a text, what follows a place of it, and that its bytes are bytes.
use Prim.Native.Nat.{ℕ, zero, suc, ◌≤◌, ◌<◌, ◌-◌, ◌+◌}
use native.Mathlib.Omega.{arith}
use native.Mathlib.Nat.{sub_self}
use native.Mathlib.Numerals.{add-one}
use native.Mathlib.Decide.{dec_lt}
use mathlib.Core.Path.{◌≡◌}
use mathlib.Core.List.{List, [], ◌∷◌, ◌++◌}
use lib.ListN.{length, take, drop, get_or, drop_of_length-le, length-drop, get_or-eq_default}
use lib.Seq.{drop-cons, take-add, drop-drop, take-take, length-take-le}
use mir.Syntax.{w8}
use mir.Val.{Fits}
use Rattle.label.specs.Ranges.{between}
use Rattle.label.proofs.Basics.{drop_take}

-- WHAT FOLLOWS A PLACE

-- inside the text, its byte and what follows that
pub here : (s : List ℕ) (i : ℕ) → i < length s → drop i s ≡ get_or s i 0 ∷ drop (i + 1) s
here s i h = rw (add-one i) (drop-cons s i 0 h)

-- at the end of the text or after it, nothing
pub beyond : (s : List ℕ) (i : ℕ) → length s ≤ i → drop i s ≡ []
beyond s i h = drop_of_length-le s h

-- from the end on the byte is 0
pub byte_outside : (s : List ℕ) (i : ℕ) → length s ≤ i → get_or s i 0 ≡ 0
byte_outside s i h = get_or-eq_default s 0 h

-- a byte that is not 0 is inside
pub byte_inside : (s : List ℕ) (i : ℕ) → (get_or s i 0 ≡ 0 → ⊥) → i < length s
byte_inside s i n = go (dec_lt i (length s))
  where
    go : Dec (i < length s) → i < length s
    go (yes h) = h
    go (no h) = absurd (n (byte_outside s i (omega arith)))

-- PARTS

pub length_between : (s : List ℕ) (a e : ℕ) → e ≤ length s → length (between s a e) ≡ e - a
length_between s a e h = length-take-le (e - a) (drop a s) (omega (arith, length-drop a s))

pub between_none : (s : List ℕ) (a : ℕ) → between s a a ≡ []
between_none s a = rw (sub_self a)

-- two parts that meet
pub between_join : (s : List ℕ) (a m e : ℕ) → a ≤ m → m ≤ e → between s a m ++ between s m e ≡ between s a e
between_join s a m e h g =
    let x : e - a ≡ (m - a) + (e - m) = omega arith in
    let y : a + (m - a) ≡ m = omega arith in
    rw (x, take-add (m - a) (e - m) (drop a s), drop-drop (m - a) a s, y)

-- the first byte of a part
pub between_cons : (s : List ℕ) (a e : ℕ) → a < e → e ≤ length s → between s a e ≡ get_or s a 0 ∷ between s (a + 1) e
between_cons s a e h g =
    let x : e - a ≡ suc (e - (a + 1)) = omega arith in
    rw (x, here s a (omega arith))

pub between_one : (s : List ℕ) (a : ℕ) → a < length s → between s a (a + 1) ≡ get_or s a 0 ∷ []
between_one s a h = rw (between_cons s a (a + 1) (omega arith) (omega arith), between_none s (a + 1))

-- the last byte of a part
pub between_more : (s : List ℕ) (a e : ℕ) → a ≤ e → e < length s → between s a (e + 1) ≡ between s a e ++ (get_or s e 0 ∷ [])
between_more s a e h g = rw (← between_join s a e (e + 1) h (omega arith), between_one s e g)

-- the first k bytes of a part, and those after them
pub take_between : (s : List ℕ) (a e k : ℕ) → a + k ≤ e → take k (between s a e) ≡ between s a (a + k)
take_between s a e k h =
    let x : a + k - a ≡ k = omega arith in
    rw (x, take-take k (e - a) (drop a s) (omega arith))

pub drop_between : (s : List ℕ) (a e k : ℕ) → drop k (between s a e) ≡ between s (a + k) e
drop_between s a e k =
    let x : e - a - k ≡ e - (a + k) = omega arith in
    rw (drop_take k (e - a) (drop a s), drop-drop k a s, x)

-- BYTES

-- every element is below 256
abbrev pub Bytes : List ℕ → Type 0
Bytes s = (i : ℕ) → get_or s i 0 < 256

take_bytes : (k : ℕ) (s : List ℕ) → Bytes s → Bytes (take k s)
take_bytes zero s b i = omega arith
take_bytes (suc k) [] b i = omega arith
take_bytes (suc k) (c ∷ s) b zero = b 0
take_bytes (suc k) (c ∷ s) b (suc i) = take_bytes k s (λ j. b (suc j)) i

drop_bytes : (k : ℕ) (s : List ℕ) → Bytes s → Bytes (drop k s)
drop_bytes zero s b i = b i
drop_bytes (suc k) [] b i = b i
drop_bytes (suc k) (c ∷ s) b i = drop_bytes k s (λ j. b (suc j)) i

bytes_between : (s : List ℕ) (a e : ℕ) → Bytes s → Bytes (between s a e)
bytes_between s a e b = take_bytes (e - a) (drop a s) (drop_bytes a s b)

-- the bytes of a slice fit a byte
pub fits_between : (s : List ℕ) (a e : ℕ) → ((i : ℕ) → Fits w8 (get_or s i 0)) → Bytes (between s a e)
fits_between s a e f = bytes_between s a e (λ i. (f i).fits)
