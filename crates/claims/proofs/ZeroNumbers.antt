-- Digits that write 0 are all 0.
use Prim.Native.Nat.{ℕ, ◌+◌, ◌*◌, ◌-◌, ◌≤◌}
use native.Mathlib.Omega.{arith}
use mathlib.Core.Path.{◌≡◌, refl}
use mathlib.Core.Bool.{Bool}
use mathlib.Core.List.{List, [], ◌∷◌}
use lib.Dec.{T, eqb}
use borrow.Author.Tests.{eqb-true, eq-eqb}
use Rattle.label.specs.Bytes.{digit, digit_zero, all}
use Rattle.label.specs.Lexical.{Unsigned}
use Rattle.label.specs.Limits.{number_from, number}
use Rattle.label.proofs.Basics.{T→true, true→T, T_and, both, nonzero_bounds, digit_bounds}

abbrev pub zero_digit : ℕ → Bool
zero_digit c = eqb c digit_zero

grows : (n : ℕ) (s : List ℕ) → n ≤ number_from n s
unfolding number_from
grows n [] = omega arith
grows n (c ∷ s) = omega (arith, grows (n * 10 + (c - digit_zero)) s)

pub unsigned_positive : {s : List ℕ} → Unsigned s → 1 ≤ number s
unfolding number number_from
unsigned_positive (Unsigned.unsigned {c = c} {s = s} t a) = omega (arith, grows (0 * 10 + (c - digit_zero)) s, nonzero_bounds c t)

pub zeros_number : (s : List ℕ) → T (all zero_digit s) → number s ≡ 0
unfolding number number_from all
zeros_number [] t = refl
zeros_number (c ∷ s) t = let w = both (zero_digit c) (all zero_digit s) t in rw (eqb-true c digit_zero (T→true (zero_digit c) w.0)) (zeros_number s w.1)

pub number_zeros : (s : List ℕ) → T (all digit s) → number s ≡ 0 → T (all zero_digit s)
unfolding number number_from all
number_zeros [] t e = tt
number_zeros (c ∷ s) t e =
    let w = both (digit c) (all digit s) t in
    let z : c ≡ digit_zero = omega (arith, e, grows (0 * 10 + (c - digit_zero)) s, digit_bounds c w.0) in
    T_and (zero_digit c) (all zero_digit s) (true→T (eq-eqb c digit_zero z)) (number_zeros s w.1 (rw z at e))
