-- A number of 64 bits is read back from its eight bytes.
use Prim.Native.Nat.{ℕ, zero, suc, ◌*◌, ◌-◌, ◌<◌, ◌^◌, ◌/◌}
use native.Mathlib.Omega.{arith}
use native.Mathlib.Nat.{pow-suc, mod-add-div, div-lt_iff_lt-mul, zero-lt-suc}
use mathlib.Core.Path.{◌≡◌}
use lib.IntN.{pos, negsuc}
use borrow.Author.Tests.{lt-ltb, le-ltb}
use Rattle.record.specs.Record.{complement, digits, eight, value, signed, ReadBack}

pub value_digits : (w n : ℕ) → n < 256 ^ w → value (digits w n) ≡ n
unfolding value digits
value_digits zero n h = omega arith
value_digits (suc w) n h =
    let b : n < 256 ^ w * 256 = rw (← pow-suc 256 w) h in
    let l : n / 256 < 256 ^ w = (div-lt_iff_lt-mul (zero-lt-suc 255)).1 b in
    rw (value_digits w (n / 256) l) (mod-add-div n 256)

pub read_back : ReadBack
unfolding eight complement signed
read_back (pos n) h =
    let e : value (digits 8 n) ≡ n = value_digits 8 n (omega arith) in
    rw (e, lt-ltb n (2 ^ 63) h)
read_back (negsuc n) h =
    let m = 2 ^ 64 - suc n in
    let e : value (digits 8 m) ≡ m = value_digits 8 m (omega arith) in
    let q : 2 ^ 64 - suc m ≡ n = omega arith in
    rw (e, le-ltb m (2 ^ 63) (omega arith), q)
