-- Two spellings compared pair by pair: what is looked at, and what each pair tells.
use Prim.Native.Nat.{ℕ, zero, suc, ◌+◌, ◌*◌, ◌-◌, ◌/◌, ◌%◌, ◌^◌, ◌≤◌, ◌<◌}
use native.Mathlib.Omega.{arith}
use native.Mathlib.Nat.{pow-suc, div-eq_of_lt, pow-le-pow_right, lt_of_lt_of_le}
use native.Mathlib.Numerals.{add-one}
use mathlib.Core.Path.{◌≡◌, refl, sym, ap, ◌∙◌}
use mathlib.Core.Bool.{Bool, true, false}
use mathlib.Core.List.{List, [], ◌∷◌, ◌++◌, append_assoc}
use lib.Dec.{T}
use lib.ListN.{length, length-append}
use lib.Pow.{pow-add}
use borrow.Author.Tests.{eq-eqb, ne_eqb}
use Rattle.label.specs.Bytes.{bytes, same}
use Rattle.label.proofs.Spelled.{same_self}
use Rattle.symbols.specs.Keys.{most_letters, key_of, letter_at, spelling, agrees, upto_difference, pairs_looked_at}
use Rattle.symbols.proofs.KeyLaws.{keyable, length_spelling, other_length, SpellingKey, spelled_by_key, symbol_by_key}

-- WHICH PAIRS ARE LOOKED AT

-- "none where the lengths differ"
pub no_pairs : (s t : List ℕ) → (length s ≡ length t → ⊥) → pairs_looked_at s t ≡ 0
unfolding pairs_looked_at
no_pairs s t h = rw (ne_eqb _ _ h)

-- "those up to and with the first difference": after the beginning u that the two share
pub pairs_upto : (u s t : List ℕ) (c d : ℕ) → (c ≡ d → ⊥) → length s ≡ length t → pairs_looked_at (u ++ c ∷ s) (u ++ d ∷ t) ≡ suc (length u)
unfolding pairs_looked_at upto_difference
pairs_upto u s t c d h e = rw (eq-eqb _ _ (lengths u)) (go u)
  where
    lengths : (u : List ℕ) → length (u ++ c ∷ s) ≡ length (u ++ d ∷ t)
    lengths [] = ap suc e
    lengths (x ∷ u) = ap suc (lengths u)

    go : (u : List ℕ) → upto_difference (u ++ c ∷ s) (u ++ d ∷ t) ≡ suc (length u)
    go [] = rw (ne_eqb _ _ h)
    go (x ∷ u) = rw (eq-eqb x x refl, go u)

-- "or all if there is none"
pub all_pairs : (s : List ℕ) → pairs_looked_at s s ≡ length s
unfolding pairs_looked_at upto_difference
all_pairs s = rw (eq-eqb (length s) (length s) refl) (go s)
  where
    go : (s : List ℕ) → upto_difference s s ≡ length s
    go [] = refl
    go (x ∷ s) = rw (eq-eqb x x refl, go s)

-- these are the pairs of a spelling and a symbol that are given by their lengths and keys
pub pairs_spelled : {l : List ℕ} {size number : ℕ} → SpellingKey l size number → (t : List ℕ) → T (keyable t)
    → pairs_looked_at (spelling size number) (spelling (length t) (key_of t)) ≡ pairs_looked_at l t
pairs_spelled w t k = rw (spelled_by_key w, symbol_by_key t k)

-- of names: m and mol, mol and mag, solMass and itself
samples : (pairs_looked_at (bytes "m") (bytes "mol") ≡ 0) × ((pairs_looked_at (bytes "mol") (bytes "mag") ≡ 2) × (pairs_looked_at (bytes "solMass") (bytes "solMass") ≡ 7))
unfolding pairs_looked_at upto_difference bytes
samples = (refl, (refl, refl))

-- spellings with a difference are not the same
same_upto : (u s t : List ℕ) (c d : ℕ) → (c ≡ d → ⊥) → same (u ++ c ∷ s) (u ++ d ∷ t) ≡ false
unfolding same
same_upto [] s t c d h = rw (ne_eqb _ _ h)
same_upto (x ∷ u) s t c d h = rw (eq-eqb x x refl, same_upto u s t c d h)

-- PAIR BY PAIR

-- what a comparison tells
abbrev pub Told : ℕ → ℕ → ℕ → ℕ → Bool → ℕ → Type 0
Told size number symbol_size symbol equal pairs =
    (equal ≡ agrees size number symbol_size symbol) × (pairs ≡ pairs_looked_at (spelling size number) (spelling symbol_size symbol))

pub sizes_differ : (size number symbol_size symbol : ℕ) → (size ≡ symbol_size → ⊥) → Told size number symbol_size symbol false 0
sizes_differ size number symbol_size symbol h = (
  sym (other_length size number symbol_size symbol h),
  sym (no_pairs (spelling size number) (spelling symbol_size symbol) (λ e. h (sym (length_spelling size number) ∙ e ∙ length_spelling symbol_size symbol))),
)

-- of two spellings of one size the first letters, so many, are the same
pub record SameUpTo (size number symbol_size symbol pairs : ℕ) : Type 0 where
  pub one_size : symbol_size ≡ size
  pub shared : List ℕ
  pub counted : length shared ≡ pairs
  pub spelled : spelling size number ≡ shared ++ spelling (size - pairs) number
  pub symbol_spelled : spelling size symbol ≡ shared ++ spelling (size - pairs) symbol

pub same_start : (size number symbol_size symbol : ℕ) → size ≡ symbol_size → SameUpTo size number symbol_size symbol 0
same_start size number symbol_size symbol e =
    let all : size - 0 ≡ size = omega arith in
    record { one_size = sym e; shared = []; counted = refl; spelled = rw all; symbol_spelled = rw all }

module _ {size number symbol_size symbol pairs : ℕ} (w : SameUpTo size number symbol_size symbol pairs) where
  pub no_difference : size ≤ pairs → Told size number symbol_size symbol true size
  unfolding spelling
  no_difference h =
      let none : size - pairs ≡ 0 = omega arith in
      let e : spelling size number ≡ spelling size symbol = rw none at w.spelled ∙ sym (rw none at w.symbol_spelled) in
      rw (w.one_size, e) (
        sym (same_self (spelling size symbol)),
        sym (all_pairs (spelling size symbol) ∙ length_spelling size symbol),
      )

  module _ (h : pairs < size) where
    abbrev after : ℕ
    after = size - pairs - 1

    next : (k : ℕ) → spelling (size - pairs) k ≡ letter_at after k ∷ spelling after k
    unfolding spelling
    next k = let e : size - pairs ≡ suc after = omega arith in ap (λ (n : ℕ). spelling n k) e

    pub same_pair : letter_at after number ≡ letter_at after symbol → SameUpTo size number symbol_size symbol (pairs + 1)
    same_pair e =
        let f : size - (pairs + 1) ≡ after = omega arith in
        record {
          one_size = w.one_size;
          shared = w.shared ++ (letter_at after symbol ∷ []);
          counted = length-append w.shared (letter_at after symbol ∷ []) ∙ omega (arith, w.counted);
          spelled = w.spelled ∙ rw (next number, e, f) (sym (append_assoc w.shared (letter_at after symbol ∷ []) (spelling after number)));
          symbol_spelled = w.symbol_spelled ∙ rw (next symbol, f) (sym (append_assoc w.shared (letter_at after symbol ∷ []) (spelling after symbol)));
        }

    pub first_difference : (letter_at after number ≡ letter_at after symbol → ⊥) → Told size number symbol_size symbol false (pairs + 1)
    first_difference d =
        let one : spelling size number ≡ w.shared ++ letter_at after number ∷ spelling after number = w.spelled ∙ ap (λ (x : List ℕ). w.shared ++ x) (next number) in
        let other : spelling size symbol ≡ w.shared ++ letter_at after symbol ∷ spelling after symbol = w.symbol_spelled ∙ ap (λ (x : List ℕ). w.shared ++ x) (next symbol) in
        let lengths : length (spelling after number) ≡ length (spelling after symbol) = length_spelling after number ∙ sym (length_spelling after symbol) in
        rw (w.one_size, one, other) (
          sym (same_upto w.shared (spelling after number) (spelling after symbol) _ _ d),
          add-one pairs ∙ sym (pairs_upto w.shared (spelling after number) (spelling after symbol) _ _ d lengths ∙ ap suc w.counted),
        )

-- THE LETTER OF A KEY

byte_power : (n : ℕ) → 2 ^ (8 * n) ≡ 256 ^ n
byte_power zero = refl
byte_power (suc n) =
    let e : 8 * suc n ≡ 8 * n + 8 = omega arith in
    rw (e, pow-add 2 (8 * n) 8, byte_power n) (sym (pow-suc 256 n))

pub shifted : (n k : ℕ) → k / 2 ^ (8 * n) % 256 ≡ letter_at n k
shifted n k = rw (byte_power n)

-- a key has no letter before its eight bytes
pub no_letter : (n k : ℕ) → most_letters ≤ n → k < 256 ^ most_letters → letter_at n k ≡ 0
no_letter n k h f = rw (div-eq_of_lt (lt_of_lt_of_le f (pow-le-pow_right {n = 256} (omega arith) h)))
