-- The first quote of a list: what is before it, and what is from it on.
use Prim.Native.Nat.{ℕ, ◌+◌, ◌≤◌}
use native.Mathlib.Omega.{arith}
use mathlib.Core.Path.{◌≡◌, refl, sym, ap, ◌∙◌}
use mathlib.Core.Bool.{Bool, true, false, not}
use mathlib.Core.List.{List, [], ◌∷◌}
use lib.Dec.{eqb}
use lib.ListN.{take, drop}
use Rattle.label.specs.Bytes.{quote, run, run_on, past, past_on}
use Rattle.label.specs.Ranges.{between}
use Rattle.label.specs.Symbols.{unquoted}
use Rattle.label.proofs.Between.{take_between, drop_between}
use Rattle.slices.specs.Slices.{slice, index_of, index_after}
use Rattle.symbols.specs.Views.{FirstQuote}

before_quote : (l : List ℕ) → take (index_of quote l) l ≡ run unquoted l
unfolding run index_of index_after
before_quote [] = refl
before_quote (c ∷ l) = go (eqb c quote) (before_quote l)
  where
    go : (b : Bool) → take (index_of quote l) l ≡ run unquoted l
        → take (index_after b (index_of quote l)) (c ∷ l) ≡ run_on (not b) c (run unquoted l)
    go true ih = refl
    go false ih = ap (λ (t : List ℕ). c ∷ t) ih

from_quote : (l : List ℕ) → drop (index_of quote l) l ≡ past unquoted l
unfolding past index_of index_after
from_quote [] = refl
from_quote (c ∷ l) = go (eqb c quote) (from_quote l)
  where
    go : (b : Bool) → drop (index_of quote l) l ≡ past unquoted l
        → drop (index_after b (index_of quote l)) (c ∷ l) ≡ past_on (not b) (past unquoted l) (c ∷ l)
    go true ih = refl
    go false ih = ih

-- the place that a search from start up to end answers
pub found : {s : List ℕ} {start end r : ℕ} → r ≡ start + index_of quote (slice start end s) → r ≤ end → FirstQuote s start end r
unfolding slice
found {s} {start} {end} {r} e h =
    let n : ℕ = index_of quote (between s start end) in
    record {
      from = omega arith;
      upto = h;
      before = rw e (sym (take_between s start end n (omega arith)) ∙ before_quote (between s start end));
      after = rw e (sym (drop_between s start end n) ∙ from_quote (between s start end));
    }
