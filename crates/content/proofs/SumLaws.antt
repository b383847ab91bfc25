-- Sums of exponents, one for each place: what a term's powers add to them, one power after the other.
use Prim.Native.Nat.{ℕ, zero, suc, ◌+◌, ◌*◌, ◌<◌, ◌≤◌, ◌^◌}
use native.Mathlib.Omega.{arith}
use native.Mathlib.Numerals.{add-one}
use mathlib.Core.Path.{◌≡◌, refl, sym, ap, ◌∙◌}
use mathlib.Core.Bool.{Bool, true, false}
use mathlib.Core.List.{List}
use lib.IntN.{ℤ, pos, nat_abs, ◌+ℤ◌, ◌*ℤ◌, +ℤ_idl, +ℤ_idr, +ℤ_assoc, zero-*ℤ}
use lib.Dec.{eqb}
use lib.ListN.{length, get_or, set, length-set}
use lib.Seq.{get_or-set_same, get_or-set_other}
use lib.Signed.{mag}
use mir.Syntax.{w32, w64}
use mir.Val.{to_z, of_z}
use mir.Facts.{to_z-of_z}
use borrow.Author.Tests.{eqb-true, eqb-false}
use Rattle.label.specs.declared.Exponent.{Exponent}
use Rattle.label.specs.Choice.{pick}
use Rattle.label.specs.Units.{BasePower}
use Rattle.symbols.specs.Slots.{adds}
use Rattle.symbols.proofs.UnitLaws.{four_adds, held}
use Rattle.content.specs.Sums.{SumsWithin, Added}
use Rattle.content.proofs.Integers.{abs_mag, wide_fits, times_sum}

-- what the first k of some powers add to place b
unfoldable pub first_adds : (ℕ → BasePower) → ℕ → ℕ → ℤ
first_adds f zero b = pos 0
first_adds f (suc k) b = first_adds f k b +ℤ adds b (f k)

-- the first k of some powers have been added to the sums xs, times the exponent
pub record Gathered (f : ℕ → BasePower) (k : ℕ) (e : Exponent) (xs ys : List ℤ) : Type 0 where
  pub room : length ys ≡ length xs
  pub added : (b : ℕ) → b < length xs → get_or ys b (pos 0) ≡ get_or xs b (pos 0) +ℤ first_adds f k b *ℤ e.0
  pub growth : (m : ℕ) → SumsWithin m xs → SumsWithin (m + k * 2 ^ 37) ys

-- ONE POWER MORE

-- a store, at any place
stored : (ys : List ℤ) (p b : ℕ) (v : ℤ) → p < length ys → get_or (set ys p v) b (pos 0) ≡ pick (eqb b p) v (get_or ys b (pos 0))
stored ys p b v h = go (eqb b p) refl
  where
    go : (x : Bool) → eqb b p ≡ x → get_or (set ys p v) b (pos 0) ≡ pick x v (get_or ys b (pos 0))
    go true e = rw (eqb-true b p e) (get_or-set_same ys p v (pos 0) h)
    go false e = get_or-set_other ys p b v (pos 0) (eqb-false b p e)

-- no power is added yet
pub none_gathered : (f : ℕ → BasePower) (e : Exponent) (xs : List ℤ) → Gathered f 0 e xs xs
unfolding first_adds
none_gathered f e xs = record {
  room = refl;
  added = λ b h. sym (ap (λ (z : ℤ). get_or xs b (pos 0) +ℤ z) (zero-*ℤ e.0) ∙ +ℤ_idr (get_or xs b (pos 0)));
  growth = λ m w. record { within = λ b. omega (arith, w.within b) };
}

module _ {f : ℕ → BasePower} {k : ℕ} {e : Exponent} {xs ys : List ℤ} (g : Gathered f k e xs ys) (w : SumsWithin (2 ^ 61) xs) (h : k < 4) where
  -- a sum is small enough to add to
  sum_small : (p : ℕ) → nat_abs (get_or ys p (pos 0)) ≤ 2 ^ 62
  sum_small p = omega (arith, (g.growth (2 ^ 61) w).within p)

  sum_held : (p : ℕ) → to_z w64 (of_z w64 (get_or ys p (pos 0))) ≡ get_or ys p (pos 0)
  sum_held p = to_z-of_z (wide_fits (omega (arith, sum_small p)))

  module _ (p : ℕ) (q : ℤ) (at : p ≡ (f k).base) (is : q ≡ (f k).power) (small : mag (f k).power ≤ 53) where
    power_held : to_z w32 (of_z w32 q) ≡ (f k).power
    power_held = held q (f k).power is small

    -- what the step asks
    pub may_add : (nat_abs (to_z w64 (of_z w64 (get_or ys p (pos 0)))) ≤ 2 ^ 62) × (nat_abs (to_z w32 (of_z w32 q)) ≤ 60)
    may_add = (rw (sum_held p) (sum_small p), rw power_held (omega (arith, abs_mag (f k).power)))

    module _ (r : ℤ) (room : p < length xs)
        (sum : (r ≡ to_z w64 (of_z w64 (get_or ys p (pos 0))) +ℤ to_z w32 (of_z w32 q) *ℤ e.0)
        × (nat_abs r ≤ nat_abs (to_z w64 (of_z w64 (get_or ys p (pos 0)))) + 2 ^ 37)) where
      abbrev next : List ℤ
      next = set ys p (to_z w64 (of_z w64 r))

      size : nat_abs r ≤ nat_abs (get_or ys p (pos 0)) + 2 ^ 37
      size = rw (sum_held p) at sum.1

      next_at : (b : ℕ) → get_or next b (pos 0) ≡ pick (eqb b p) r (get_or ys b (pos 0))
      next_at b =
          stored ys p b (to_z w64 (of_z w64 r)) (omega (arith, g.room))
          ∙ ap (λ (v : ℤ). pick (eqb b p) v (get_or ys b (pos 0))) (to_z-of_z (wide_fits (omega (arith, size, sum_small p))))

      value : r ≡ get_or ys p (pos 0) +ℤ (f k).power *ℤ e.0
      value = rw (← sum_held p, ← power_held) sum.0

      -- each place's sum after the step, and its size
      at_place : (b : ℕ) → b < length xs → (x : Bool) → eqb b p ≡ x
          → pick x r (get_or ys b (pos 0)) ≡ get_or xs b (pos 0) +ℤ (first_adds f k b +ℤ pick x (f k).power (pos 0)) *ℤ e.0
      at_place b l true t =
          value
          ∙ ap (λ (j : ℕ). get_or ys j (pos 0) +ℤ (f k).power *ℤ e.0) (sym (eqb-true b p t))
          ∙ ap (λ (z : ℤ). z +ℤ (f k).power *ℤ e.0) (g.added b l)
          ∙ +ℤ_assoc (get_or xs b (pos 0)) (first_adds f k b *ℤ e.0) ((f k).power *ℤ e.0)
          ∙ ap (λ (z : ℤ). get_or xs b (pos 0) +ℤ z) (sym (times_sum (first_adds f k b) (f k).power e.0))
      at_place b l false t = g.added b l ∙ ap (λ (z : ℤ). get_or xs b (pos 0) +ℤ z *ℤ e.0) (sym (+ℤ_idr (first_adds f k b)))

      place_within : (m b : ℕ) → SumsWithin (m + k * 2 ^ 37) ys → (x : Bool) → nat_abs (pick x r (get_or ys b (pos 0))) ≤ m + suc k * 2 ^ 37
      place_within m b v true = omega (arith, size, v.within p)
      place_within m b v false = omega (arith, v.within b)

      pub one_gathered : Gathered f (k + 1) e xs next
      unfolding first_adds
      one_gathered = rw (add-one k) (record {
        room = length-set ys p (to_z w64 (of_z w64 r)) ∙ g.room;
        added = λ b l. next_at b ∙ at_place b l (eqb b p) refl
            ∙ ap (λ (j : ℕ). get_or xs b (pos 0) +ℤ (first_adds f k b +ℤ pick (eqb b j) (f k).power (pos 0)) *ℤ e.0) at;
        growth = λ m v. record { within = λ b. rw (next_at b) (place_within m b (g.growth m v) (eqb b p)) };
      })

-- A power of 0 adds nothing.
adds_none : (b : ℕ) (x : BasePower) → x.power ≡ pos 0 → adds b x ≡ pos 0
adds_none b x z = rw z (go (eqb b x.base))
  where
    go : (t : Bool) → pick t (pos 0) (pos 0) ≡ pos 0
    go true = refl
    go false = refl

pub none_added : {f : ℕ → BasePower} {k : ℕ} {e : Exponent} {xs ys : List ℤ} → Gathered f k e xs ys
    → (q : ℤ) → q ≡ (f k).power → mag (f k).power ≤ 53 → of_z w32 q ≡ 0 → Gathered f (k + 1) e xs ys
unfolding first_adds
none_added {f} {k} {e} {xs} {ys} g q is small z = rw (add-one k) (record {
  room = g.room;
  added = λ b l. g.added b l ∙ ap (λ (a : ℤ). get_or xs b (pos 0) +ℤ a *ℤ e.0)
      (sym (ap (λ (a : ℤ). first_adds f k b +ℤ a) (adds_none b (f k) (sym (held q (f k).power is small) ∙ ap (to_z w32) z)) ∙ +ℤ_idr (first_adds f k b)));
  growth = λ m v. record { within = λ b. omega (arith, (g.growth m v).within b) };
})

-- FOUR POWERS

module _ {f : ℕ → BasePower} {k : ℕ} {e : Exponent} {xs ys : List ℤ} (g : Gathered f k e xs ys) (h : k ≡ 4) where
  -- all four powers, as `four_adds` groups them
  four : (b : ℕ) → first_adds f 4 b ≡ four_adds b f
  unfolding first_adds
  four b =
      ap (λ (z : ℤ). z +ℤ adds b (f 1) +ℤ adds b (f 2) +ℤ adds b (f 3)) (+ℤ_idl (adds b (f 0)))
      ∙ ap (λ (z : ℤ). z +ℤ adds b (f 3)) (+ℤ_assoc (adds b (f 0)) (adds b (f 1)) (adds b (f 2)))
      ∙ +ℤ_assoc (adds b (f 0)) (adds b (f 1) +ℤ adds b (f 2)) (adds b (f 3))
      ∙ ap (λ (z : ℤ). adds b (f 0) +ℤ z) (+ℤ_assoc (adds b (f 1)) (adds b (f 2)) (adds b (f 3)))

  pub all_gathered : (power : ℕ → ℤ) → ((b : ℕ) → b < length xs → four_adds b f ≡ power b) → Added power e xs ys
  all_gathered power q = let v : Gathered f 4 e xs ys = rw h at g in record {
    room = v.room;
    added = λ b l. v.added b l ∙ ap (λ (z : ℤ). get_or xs b (pos 0) +ℤ z *ℤ e.0) (four b ∙ q b l);
    growth = v.growth;
  }
