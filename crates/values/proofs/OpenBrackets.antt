-- Open brackets, counted one byte a turn.
use Prim.Native.Nat.{ℕ, suc, pred, ◌+◌, ◌≤◌, ◌<◌, max}
use native.Mathlib.Omega.{arith}
use native.Mathlib.Nat.{zero-max, le-max_left, le_trans, pred-le}
use native.Mathlib.Numerals.{add-one}
use mathlib.Core.Path.{◌≡◌, ◌∙◌}
use mathlib.Core.Bool.{Bool, true, false}
use mathlib.Core.List.{List, [], ◌∷◌}
use lib.Dec.{eqb}
use lib.ListN.{length, drop, get_or, drop_of_length-le}
use lib.Seq.{drop-cons}
use Rattle.label.specs.Choice.{pick}
use Rattle.label.specs.Limits.{opened, deepest_from, deepest}

pub at_least : (d : ℕ) (s : List ℕ) → d ≤ deepest_from d s
unfolding deepest_from
at_least d [] = omega arith
at_least d (c ∷ s) = le-max_left d (deepest_from (opened d c) s)

-- a byte opens at most one bracket
opened_most : (d c : ℕ) → opened d c ≤ d + 1
opened_most d c = go (eqb c 40) (eqb c 41)
  where
    go : (a b : Bool) → pick a (suc d) (pick b (pred d) d) ≤ d + 1
    go true b = omega arith
    go false true = le_trans (pred-le d) (omega arith)
    go false false = omega arith

-- before the byte at i: depth brackets are open, and most is the most that were
pub record Counted (s : List ℕ) (most depth i : ℕ) : Type 0 where
  pub shallow : depth ≤ i
  pub covered : depth ≤ most
  pub same : max most (deepest_from depth (drop i s)) ≡ deepest s

pub counted_none : (s : List ℕ) → Counted s 0 0 0
unfolding deepest
counted_none s = record { shallow = omega arith; covered = omega arith; same = zero-max (deepest_from 0 s) }

pub counted_more : (s : List ℕ) (most depth i m d : ℕ) → i < length s → Counted s most depth i →
    d ≡ opened depth (get_or s i 0) → m ≡ max most d → Counted s m d (i + 1)
unfolding deepest_from
counted_more s most depth i m d h w e f =
    let rest : ℕ = deepest_from d (drop (i + 1) s) in
    let step : deepest_from depth (drop i s) ≡ max depth rest = rw (add-one i, drop-cons s i 0 h, e) in
    record {
      shallow = omega (arith, w.shallow, opened_most depth (get_or s i 0));
      covered = omega arith;
      same = (let a : max m rest ≡ max most (max depth rest) = omega (arith, w.covered, at_least d (drop (i + 1) s)) in a ∙ rw step at w.same);
    }

pub counted_end : (s : List ℕ) (most depth i : ℕ) → length s ≤ i → Counted s most depth i → most ≡ deepest s
unfolding deepest_from
counted_end s most depth i h w =
    let e : max most depth ≡ deepest s = rw (drop_of_length-le s h) at w.same in
    omega (arith, w.covered)
