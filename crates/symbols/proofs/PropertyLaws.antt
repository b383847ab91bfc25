-- What a symbol's prefix and unit say of it: lawful, recommended, slots and primes.
use Prim.Native.Nat.{ℕ, ◌+◌, ◌*◌, ◌<◌, ◌≤◌}
use native.Mathlib.Omega.{arith}
use mathlib.Core.Path.{◌≡◌, refl, sym, ap, ◌∙◌}
use mathlib.Core.Bool.{true, false}
use mathlib.Core.List.{List, []}
use lib.IntN.{ℤ, pos, ◌+ℤ◌, +ℤ_idr}
use lib.ListN.{get_or}
use lib.Signed.{mag}
use mir.Syntax.{w32}
use mir.Val.{SFits, to_z, of_z}
use mir.Facts.{to_z-of_z}
use Rattle.std.specs.Prelude.{Option as Answer, Some, None}
use Rattle.std.specs.Option.{is_some}
use Rattle.label.proofs.Basics.{false_true}
use Rattle.label.specs.Options.{told}
use Rattle.label.specs.Symbols.{known}
use Rattle.label.specs.Prefixes.{power_of}
use Rattle.label.specs.Reading.{is_lawful, is_recommended, prime_in}
use Rattle.label.specs.Units.{BasePower, unit_at, in_tens}
use Rattle.symbols.specs.declared.SymbolAt.{SymbolAt}
use Rattle.symbols.specs.declared.UnitAt.{UnitAt}
use Rattle.symbols.specs.declared.UnitAt.TheVariants.{Known, Unknown}
use Rattle.symbols.specs.declared.Span.{Span}
use Rattle.symbols.specs.Sets.{has_bit}
use Rattle.symbols.specs.Slots.{slot, prime_at, prime_slot}
use Rattle.symbols.specs.Columns.{unit_prefixed, unit_recommended, unit_bases, unit_powers, unit_primes}
use Rattle.symbols.specs.Views.{unit_with, symbol_in, row_of, slot_in}
use Rattle.symbols.proofs.UnitLaws.{prefixed_at, recommended_at, base_at, power_at, primes_at, no_slot, no_prime_slot, in_tens_small, primes_small, prime_small, small_fits, held}

module _ (s : List ℕ) (x : SymbolAt) where
  -- a symbol without a prefix, one that is unknown, and one with a prefix on a known unit
  pub lawful_bare : (n : ℕ) {u : ℕ} → is_some x.prefix ≡ false → x.unit ≡ Known u → true ≡ is_lawful n (symbol_in s x)
  unfolding is_lawful symbol_in
  lawful_bare n {u} d e = rw e (go x.prefix d)
    where
      go : (p : Answer ℕ) → is_some p ≡ false → true ≡ is_lawful n (known (told p) u)
      go None d = refl
      go (Some i) d = absurd (false_true (sym d))

  pub lawful_unknown : (n : ℕ) {l : Span} → x.unit ≡ Unknown l → true ≡ is_lawful n (symbol_in s x)
  unfolding is_lawful symbol_in
  lawful_unknown n e = rw e

  pub lawful_prefixed : (n : ℕ) {u : ℕ} → is_some x.prefix ≡ true → x.unit ≡ Known u
      → has_bit n (get_or unit_prefixed u 0) ≡ is_lawful n (symbol_in s x)
  unfolding is_lawful symbol_in
  lawful_prefixed n {u} d e = rw e (go x.prefix d)
    where
      go : (p : Answer ℕ) → is_some p ≡ true → has_bit n (get_or unit_prefixed u 0) ≡ is_lawful n (known (told p) u)
      go None d = absurd (false_true d)
      go (Some i) d = prefixed_at n u

  pub unrecommended : {l : Span} → x.unit ≡ Unknown l → false ≡ is_recommended (symbol_in s x)
  unfolding is_recommended symbol_in
  unrecommended e = rw e

  pub recommended_known : {u : ℕ} → x.unit ≡ Known u → get_or unit_recommended u true ≡ is_recommended (symbol_in s x)
  unfolding is_recommended symbol_in
  recommended_known {u} e = rw e (recommended_at u)

  -- the rows of the columns that have four values for each unit, past the last row for an unknown unit
  module _ (k : ℕ) where
    slot_in_row : slot k (unit_at (row_of x.unit)) ≡ slot_in k (symbol_in s x)
    unfolding symbol_in slot_in
    slot_in_row = go x.unit
      where
        go : (u : UnitAt) → slot k (unit_at (row_of u)) ≡ slot_in k (unit_with s (told x.prefix) u)
        go (Known u) = refl
        go (Unknown l) = no_slot k

    module _ (h : k < 4) where
      pub base_in_row : get_or unit_bases (row_of x.unit * 4 + k) 0 ≡ (slot_in k (symbol_in s x)).base
      base_in_row = base_at (row_of x.unit) k h ∙ ap (λ (b : BasePower). b.base) slot_in_row

      pub power_in_row : get_or unit_powers (row_of x.unit * 4 + k) (pos 0) ≡ (slot_in k (symbol_in s x)).power
      power_in_row = power_at (row_of x.unit) k h ∙ ap (λ (b : BasePower). b.power) slot_in_row

      prime_in_row : in_tens (prime_at k) (power_of (told x.prefix)) +ℤ get_or unit_primes (row_of x.unit * 4 + k) (pos 0)
          ≡ prime_in (prime_at k) (symbol_in s x)
      unfolding symbol_in prime_in
      prime_in_row = rw (primes_at (row_of x.unit) k h) (go x.unit)
        where
          tens : ℤ
          tens = in_tens (prime_at k) (power_of (told x.prefix))

          go : (u : UnitAt) → tens +ℤ prime_slot k (unit_at (row_of u)) ≡ prime_in (prime_at k) (unit_with s (told x.prefix) u)
          go (Known u) = refl
          go (Unknown l) = rw (no_prime_slot k h) (+ℤ_idr tens)

-- the sum of what a prefix and a unit add to a prime, as the code computes it
module _ (x : SymbolAt) (k : ℕ) (h : k < 4) {a b : ℤ}
    (f : a ≡ in_tens (prime_at k) (power_of (told x.prefix))) (g : b ≡ get_or unit_primes (row_of x.unit * 4 + k) (pos 0)) where
  summed : (s : List ℕ) → to_z w32 (of_z w32 a) +ℤ to_z w32 (of_z w32 b) ≡ prime_in (prime_at k) (symbol_in s x)
  summed s =
      let v : mag (in_tens (prime_at k) (power_of (told x.prefix))) ≤ 53 = omega (arith, in_tens_small k (told x.prefix)) in
      let w : mag (get_or unit_primes (row_of x.unit * 4 + k) (pos 0)) ≤ 53 = omega (arith, primes_small (row_of x.unit * 4 + k)) in
      rw (held a _ f v, held b _ g w) (prime_in_row s x k h)

  pub sum_fits : SFits w32 (to_z w32 (of_z w32 a) +ℤ to_z w32 (of_z w32 b))
  sum_fits = rw (summed []) (small_fits (prime_small k h (symbol_in [] x)))

  pub sum_is : (s : List ℕ) → to_z w32 (of_z w32 (to_z w32 (of_z w32 a) +ℤ to_z w32 (of_z w32 b))) ≡ prime_in (prime_at k) (symbol_in s x)
  sum_is s = to_z-of_z sum_fits ∙ summed s
