-- The slots of a symbol: every base is one of 32, and the four primes are slots of their own.
use Prim.Native.Nat.{ℕ, zero, suc, ◌+◌, ◌*◌, ◌<◌}
use native.Mathlib.Omega.{arith}
use mathlib.Core.Path.{◌≡◌}
use mathlib.Core.Bool.{Bool, true, ◌&&◌}
use mathlib.Core.List.{List, [], ◌∷◌}
use lib.Dec.{T, ltb, ltb→lt}
use lib.IntN.{+ℤ_idl, +ℤ_idr}
use lib.ListN.{get_or}
use Rattle.label.proofs.Basics.{both}
use Rattle.label.specs.Units.{base_count, ◌↑◌}
use Rattle.label.specs.Symbols.{Symbol, known, unknown}
use Rattle.label.specs.Reading.{prime_in}
use Rattle.symbols.specs.Columns.{unit_bases}
use Rattle.symbols.specs.Slots.{prime_at}
use Rattle.symbols.specs.Views.{slot_in}
use Rattle.symbols.proofs.Computing.{columns_compute}
use Rattle.symbols.proofs.UnitLaws.{base_at, four_adds}

-- BASES

-- every number of a column is the number of a base
all_bases_in : List ℕ → Bool
all_bases_in [] = true
all_bases_in (b ∷ bs) = ltb b base_count && all_bases_in bs

bases_in : T (all_bases_in unit_bases)
unfolding all_bases_in columns_compute
bases_in = tt

in_at : (bs : List ℕ) → T (all_bases_in bs) → (i : ℕ) → get_or bs i 0 < base_count
unfolding all_bases_in
in_at [] t i = omega arith
in_at (b ∷ bs) t zero = ltb→lt b base_count (both (ltb b base_count) (all_bases_in bs) t).0
in_at (b ∷ bs) t (suc i) = in_at bs (both (ltb b base_count) (all_bases_in bs) t).1 i

-- a slot's base is the number of a base
pub slot_base_in : (k : ℕ) → k < 4 → (y : Symbol) → (slot_in k y).base < base_count
unfolding slot_in
slot_base_in k h (known p u) = rw (← base_at u k h) (in_at unit_bases bases_in (u * 4 + k))
slot_base_in k h (unknown p l) = omega arith

-- PRIMES

-- each prime is once among the four
pub primes_add : (y : Symbol) (b : ℕ) → b < 4 → four_adds b (λ j. j ↑ prime_in (prime_at j) y) ≡ prime_in (prime_at b) y
primes_add y zero h = +ℤ_idr (prime_in 2 y)
primes_add y (suc zero) h = rw (+ℤ_idr (prime_in 3 y), +ℤ_idl (prime_in 3 y))
primes_add y (suc (suc zero)) h = rw (+ℤ_idr (prime_in 5 y), +ℤ_idl (prime_in 5 y), +ℤ_idl (prime_in 5 y))
primes_add y (suc (suc (suc zero))) h = rw (+ℤ_idl (prime_in 487 y), +ℤ_idl (prime_in 487 y), +ℤ_idl (prime_in 487 y))
primes_add y (suc (suc (suc (suc b)))) h = absurd (omega arith)
