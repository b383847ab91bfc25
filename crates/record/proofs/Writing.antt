-- Numbers written one after the other: what is written, and what is still to come, are the whole.
use Prim.Native.Nat.{ℕ, zero, suc, ◌+◌, ◌*◌, ◌-◌, ◌<◌, ◌≤◌, ◌/◌, ◌^◌}
use native.Mathlib.Omega.{arith}
use native.Mathlib.Nat.{pow-suc, div-div-eq-div-mul}
use native.Mathlib.Numerals.{add-one}
use mathlib.Core.Path.{◌≡◌, refl, sym, ap, ◌∙◌}
use mathlib.Core.List.{List, [], ◌++◌, append_assoc, append-nil}
use lib.IntN.{ℤ, pos, negsuc}
use lib.ListN.{length, take, drop, get_or, drop_of_length-le, length-drop}
use borrow.Rule.Slice.PartMut.{put_mid, same_len_mid}
use lib.Seq.{length-take-le, drop-cons}
use mir.Syntax.{w64}
use mir.Val.{of_z}
use Rattle.std.specs.Int.{bytes_low_first}
use Rattle.std.proofs.lemmas.Slice.{take-put_mid}
use Rattle.record.specs.Record.{complement, digits, eight, encoded}

-- A NUMBER

-- the bytes of n from byte i on are the digits of what is left of it there
bytes_digits : (w i n : ℕ) → bytes_low_first i w n ≡ digits w (n / 256 ^ i)
unfolding digits
bytes_digits zero i n = refl
bytes_digits (suc w) zero n = let z : n / 1 ≡ n = omega arith in rw (bytes_digits w 1 n, z)
bytes_digits (suc w) (suc i) n = rw (bytes_digits w (suc (suc i)) n, div-div-eq-div-mul n (256 ^ suc i) 256, pow-suc 256 (suc i)) refl

-- the lowest w bytes of n
pub low_digits : (w n : ℕ) → bytes_low_first 0 w n ≡ digits w n
low_digits w n = let z : n / 1 ≡ n = omega arith in bytes_digits w 0 n ∙ ap (digits w) z

pub eight_is : (z : ℤ) → bytes_low_first 0 8 (of_z w64 z) ≡ eight z
unfolding eight complement
eight_is (pos n) = low_digits 8 n
eight_is (negsuc n) = low_digits 8 (2 ^ 64 - suc n)

-- NUMBERS

pub record PuttingAll (b₀ : List ℕ) (at : ℕ) (numbers : List ℤ) (b : List ℕ) (i : ℕ) : Type 0 where
  pub within : i ≤ length numbers
  pub room : length b ≡ length b₀
  pub bytes : take (at + 8 * i) b ++ encoded (drop i numbers) ≡ take at b₀ ++ encoded numbers

pub all₀ : (b : List ℕ) (at : ℕ) (numbers : List ℤ) → PuttingAll b at numbers b 0
all₀ b at numbers = let z : at + 8 * 0 ≡ at = omega arith in record { within = omega arith; room = refl; bytes = rw z }

one_more : (numbers : List ℤ) (i : ℕ) (d : ℤ) → i < length numbers → encoded (drop i numbers) ≡ eight (get_or numbers i d) ++ encoded (drop (i + 1) numbers)
unfolding encoded
one_more numbers i d h = rw (add-one i, drop-cons numbers i d h)

pub all_more : {b₀ : List ℕ} {at : ℕ} (numbers : List ℤ) (b : List ℕ) (i : ℕ) {xs : List ℕ} → PuttingAll b₀ at numbers b i → i < length numbers
    → at + 8 * length numbers ≤ length b₀ → xs ≡ bytes_low_first 0 8 (of_z w64 (get_or numbers i (pos 0)))
    → PuttingAll b₀ at numbers (put_mid (at + 8 * i) (at + 8 * i + 8 - (at + 8 * i)) b xs) (i + 1)
all_more {b₀} {at} numbers b i {xs} p h g e = record {
  within = omega arith;
  room = same_len_mid (at + 8 * i) (at + 8 * i + 8 - (at + 8 * i)) b xs (omega (arith, ap length e, length-take-le (at + 8 * i + 8 - (at + 8 * i)) (drop (at + 8 * i) b) (omega (arith, length-drop (at + 8 * i) b, p.room)))) ∙ p.room;
  bytes =
      let q : at + 8 * (i + 1) ≡ at + 8 * i + length xs = omega (arith, ap length e) in
      rw (take-put_mid (at + 8 * i) (at + 8 * i + 8 - (at + 8 * i)) b xs (at + 8 * (i + 1)) q (omega (arith, p.room)), e ∙ eight_is (get_or numbers i (pos 0)))
      (append_assoc (take (at + 8 * i) b) (eight (get_or numbers i (pos 0))) (encoded (drop (i + 1) numbers))
      ∙ ap (λ (xs : List ℕ). take (at + 8 * i) b ++ xs) (sym (one_more numbers i (pos 0) h))
      ∙ p.bytes);
}

pub all_done : {b₀ : List ℕ} {at : ℕ} (numbers : List ℤ) (b : List ℕ) (i : ℕ) → PuttingAll b₀ at numbers b i → length numbers ≤ i
    → take (at + 8 * length numbers) b ≡ take at b₀ ++ encoded numbers
unfolding encoded
all_done {b₀} {at} numbers b i p h =
    let e : i ≡ length numbers = omega (arith, p.within) in
    let n : drop i numbers ≡ [] = drop_of_length-le numbers h in
    rw (← e) (sym (append-nil (take (at + 8 * i) b)) ∙ rw n at p.bytes)
