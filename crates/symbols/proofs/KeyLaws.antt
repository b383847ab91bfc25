-- Keys: how one is made byte by byte, that the letters come back from it, and that spellings by their lengths and keys agree exactly if the
-- bytes do.
use Prim.Native.Nat.{ℕ, zero, suc, ◌+◌, ◌*◌, ◌/◌, ◌%◌, ◌<◌, ◌≤◌, ◌^◌}
use native.Mathlib.Omega.{arith}
use native.Mathlib.Nat.{pow-suc, div-one, div-div-eq-div-mul, pow-le-pow_right, lt_of_lt_of_le}
use mathlib.Core.Path.{◌≡◌, refl, sym, ap, ◌∙◌}
use mathlib.Core.Bool.{Bool, true, false, ◌&&◌}
use mathlib.Core.List.{List, [], ◌∷◌}
use lib.Dec.{T, leb, ltb, eqb, leb→le, ltb→lt}
use native.Mathlib.Numerals.{add-one}
use lib.ListN.{length, drop, get_or, drop_of_length-le}
use lib.Seq.{drop-cons}
use mir.Syntax.{w8}
use mir.Val.{Fits}
use borrow.Author.Tests.{eqb-false}
use Rattle.label.proofs.Basics.{both, same_is}
use Rattle.label.specs.Bytes.{all, same}
use Rattle.symbols.specs.Keys.{most_letters, key_from, key_of, spelling, agrees}
use Rattle.label.proofs.Between.{Bytes}

-- MAKING A KEY

-- of the bytes l those before i make the number k
pub record Keyed (l : List ℕ) (k i : ℕ) : Type 0 where
  pub same : key_from k (drop i l) ≡ key_of l
  pub size : k < 256 ^ i

module _ {l : List ℕ} {k i : ℕ} (w : Keyed l k i) where
  -- a number of fewer than eight bytes leaves room for one more
  pub room : i < length l → length l ≤ most_letters → k < 256 ^ 7
  room h f =
      let j : i ≤ 7 = omega arith in
      lt_of_lt_of_le w.size (pow-le-pow_right {n = 256} (omega arith) j)

  pub keyed_more : i < length l → get_or l i 0 < 256 → Keyed l (k * 256 + get_or l i 0) (i + 1)
  unfolding key_from
  keyed_more h b = record {
    same = rw (add-one i) (rw (drop-cons l i 0 h) at w.same);
    size = rw (add-one i, pow-suc 256 i) (omega (arith, w.size));
  }

  pub keyed_end : length l ≤ i → k ≡ key_of l
  unfolding key_from
  keyed_end h = rw (drop_of_length-le l {i = i} h) at w.same

-- COMPARING KEYS

-- letters that a key can hold
unfoldable pub keyable : List ℕ → Bool
keyable l = leb (length l) most_letters && all (λ c. ltb c 256) l

all_bytes : (l : List ℕ) → T (all (λ c. ltb c 256) l) → Bytes l
unfolding all
all_bytes [] t i = omega arith
all_bytes (c ∷ l) t zero = ltb→lt c 256 (both (ltb c 256) (all (λ c. ltb c 256) l) t).0
all_bytes (c ∷ l) t (suc i) = all_bytes l (both (ltb c 256) (all (λ c. ltb c 256) l) t).1 i

-- a spelling of more letters is another
pub long_other : (l t : List ℕ) → most_letters < length l → T (keyable t) → same l t ≡ false
unfolding keyable
long_other l t h k = go (same l t) refl
  where
    short : length t ≤ most_letters
    short = leb→le (length t) most_letters (both (leb (length t) most_letters) _ k).0

    go : (x : Bool) → same l t ≡ x → x ≡ false
    go true e = absurd (omega (arith, short, ap length (same_is l t e)))
    go false e = refl

-- SPELLINGS FROM KEYS

pub length_spelling : (n k : ℕ) → length (spelling n k) ≡ n
unfolding spelling
length_spelling zero k = refl
length_spelling (suc n) k = ap suc (length_spelling n k)

-- what a number has before the bytes s
before_bytes : (k : ℕ) (s : List ℕ) → Bytes s → key_from k s / 256 ^ length s ≡ k
unfolding key_from
before_bytes k [] b = div-one k
before_bytes k (c ∷ s) b =
    let e : key_from (k * 256 + c) s / 256 ^ length s ≡ k * 256 + c = before_bytes (k * 256 + c) s (λ i. b (suc i)) in
    let f : c < 256 = b 0 in
    ap (λ (m : ℕ). key_from (k * 256 + c) s / m) (pow-suc 256 (length s)) ∙ sym (div-div-eq-div-mul _ (256 ^ length s) 256) ∙ rw e (omega arith)

-- letters come back from their key
spelling_key : (k : ℕ) (l : List ℕ) → Bytes l → spelling (length l) (key_from k l) ≡ l
unfolding spelling key_from
spelling_key k [] b = refl
spelling_key k (c ∷ l) b =
    let f : c < 256 = b 0 in
    let e : (k * 256 + c) % 256 ≡ c = omega arith in
    rw (before_bytes (k * 256 + c) l (λ i. b (suc i)), e, spelling_key (k * 256 + c) l (λ i. b (suc i)))

-- COMPARING SPELLINGS

-- spellings of two lengths differ
pub other_length : (size number symbol_size symbol_number : ℕ) → (size ≡ symbol_size → ⊥) → agrees size number symbol_size symbol_number ≡ false
other_length size number symbol_size symbol_number h = go (agrees size number symbol_size symbol_number) refl
  where
    go : (x : Bool) → agrees size number symbol_size symbol_number ≡ x → x ≡ false
    go true e =
        absurd (h (sym (length_spelling size number) ∙ ap length (same_is _ _ e) ∙ length_spelling symbol_size symbol_number))
    go false e = refl

-- the spelling l is of bytes, and has that size and key
pub record SpellingKey (l : List ℕ) (size number : ℕ) : Type 0 where
  pub bytes : Bytes l
  pub size_is : size ≡ length l
  pub number_is : number ≡ key_of l

-- its letters come back from them
pub spelled_by_key : {l : List ℕ} {size number : ℕ} → SpellingKey l size number → spelling size number ≡ l
spelled_by_key {l} w = rw (w.size_is, w.number_is) (spelling_key 0 l w.bytes)

-- and so do those of a symbol
pub symbol_by_key : (t : List ℕ) → T (keyable t) → spelling (length t) (key_of t) ≡ t
unfolding keyable
symbol_by_key t k = spelling_key 0 t (all_bytes t (both (leb (length t) most_letters) _ k).1)

-- A spelling and a symbol, by their lengths and keys, agree exactly if they are the same.
pub agrees_spelled : {l : List ℕ} {size number : ℕ} → SpellingKey l size number → (t : List ℕ) → T (keyable t)
    → agrees size number (length t) (key_of t) ≡ same l t
agrees_spelled w t k = rw (spelled_by_key w, symbol_by_key t k)

-- a symbol with another key is another
pub other_key : {l : List ℕ} {size number : ℕ} → SpellingKey l size number → (t : List ℕ) → eqb number (key_of t) ≡ false → same l t ≡ false
other_key {l} {size} {number} w t h = go (same l t) refl
  where
    go : (x : Bool) → same l t ≡ x → x ≡ false
    go true e = absurd (eqb-false number (key_of t) h (w.number_is ∙ ap key_of (same_is l t e)))
    go false e = refl

-- a slice of bytes
pub spelled : {l : List ℕ} {size number : ℕ} → ((i : ℕ) → Fits w8 (get_or l i 0)) → size ≡ length l → number ≡ key_of l → SpellingKey l size number
spelled f s e = record { bytes = λ i. (f i).fits; size_is = s; number_is = e }
