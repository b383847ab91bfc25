-- A run of digits as a number, one digit a turn.
use Prim.Native.Nat.{ℕ, ◌+◌, ◌*◌, ◌-◌, ◌≤◌, ◌<◌, ◌^◌}
use native.Mathlib.Omega.{arith}
use native.Mathlib.Nat.{pow-suc, pow-le-pow_right, mul-le-mul_left, mul_assoc, mul-one}
use native.Mathlib.Numerals.{add-one}
use mathlib.Core.Path.{◌≡◌, refl}
use mathlib.Core.List.{List, [], ◌∷◌, ◌++◌}
use lib.ListN.{length, drop, get_or, drop_of_length-le}
use lib.Seq.{drop-cons}
use Rattle.label.specs.Limits.{number_from, number}
use Rattle.label.specs.Ranges.{digits_in, Inside}
use Rattle.label.specs.declared.DigitRange.{DigitRange}
use Rattle.label.proofs.Between.{length_between}
use Rattle.values.specs.Bounds.{number_bound}

-- the length of a run
pub run_length : (s : List ℕ) (d : DigitRange) → Inside s d → length (digits_in s d) ≡ d.end - d.start
run_length s d h = length_between s d.start d.end h.within

-- digits after digits write on from the number of the first
pub from_append : (n : ℕ) (xs ys : List ℕ) → number_from n (xs ++ ys) ≡ number_from (number_from n xs) ys
unfolding number_from
from_append n [] ys = refl
from_append n (c ∷ xs) ys = from_append (n * 10 + (c - 48)) xs ys

pub number_append : (xs ys : List ℕ) → number (xs ++ ys) ≡ number_from (number xs) ys
unfolding number
number_append xs ys = from_append 0 xs ys

-- value is the number that the first i digits of ds write after n, and 23 more than it is at most tenfold for each
pub record NumberBefore (ds : List ℕ) (n i value : ℕ) : Type 0 where
  pub same : number_from value (drop i ds) ≡ number_from n ds
  pub size : value + 23 ≤ (n + 23) * 10 ^ i

pub passed_none : (ds : List ℕ) (n : ℕ) → NumberBefore ds n 0 n
passed_none ds n = record { same = refl; size = rw (mul-one (n + 23)) (omega arith) }

-- fewer digits bring no more
at_most : (b k m : ℕ) → k ≤ m → b * 10 ^ k ≤ b * 10 ^ m
at_most b k m h = mul-le-mul_left b (pow-le-pow_right (omega arith) h)

-- so a few digits after a point have a power of ten that the machine can hold
pub few_fit : (k : ℕ) → k ≤ 4 → 10 ^ k < 2 ^ 64
few_fit k h = omega (arith, at_most 1 k 4 h)

module _ {ds : List ℕ} {n i value : ℕ} (w : NumberBefore ds n i value) where
  pub passed_size : i ≤ 4 → value + 23 ≤ (n + 23) * 10_000
  passed_size h = omega (arith, at_most (n + 23) i 4 h, w.size)

  -- there is room for one digit more
  pub passed_room : i < 4 → n < number_bound → value * 10 + 230 ≤ 2_300_220_000
  passed_room h g = omega (arith, at_most (n + 23) i 3 (omega arith), w.size)

  pub passed_more : (x : ℕ) → i < length ds → x ≡ get_or ds i 0 - 48 → x ≤ 207 → NumberBefore ds n (i + 1) (value * 10 + x)
  unfolding number_from
  passed_more x h e g =
      let p : (n + 23) * 10 ^ (i + 1) ≡ (n + 23) * 10 ^ i * 10 = rw (add-one i, pow-suc 10 i, mul_assoc) in
      record { same = rw e (rw (drop-cons ds i 0 h, ← add-one i) at w.same); size = rw p (omega (arith, w.size)) }

  pub passed_end : length ds ≤ i → value ≡ number_from n ds
  unfolding number_from
  passed_end h = rw (drop_of_length-le ds h) at w.same
