-- A search through a part of a slice, by the library's first place that passes a test.
use Rattle.std.proofs.Common.{◌≡◌, ℕ, ◌+◌, ◌-◌, ◌≤◌, Bool, true, false, not, cond, Some, None, List, length, eqb, drop, refl, sym, ◌∙◌, arith, length-take, length-drop}
use lib.Dec.{ltb}
use borrow.Author.Tests.{ltb-false}
use Rattle.std.specs.List.{position, position_or_len}
use Rattle.std.proofs.lemmas.List.Recursion.{is_position_or_len}
use Rattle.std.proofs.lemmas.List.Sums.{prefix_len-le-length}
use Rattle.slices.specs.Slices.{index_of, index_after, slice}

index_is : (b : ℕ) (s : List ℕ) → index_of b s ≡ position_or_len (λ c. eqb c b) s
unfolding index_of index_after
index_is b = is_position_or_len (index_of b) (λ c. eqb c b) refl (λ c s. go (eqb c b) (index_of b s))
  where
    go : (t : Bool) (n : ℕ) → index_after t n ≡ cond t 0 (1 + n)
    go true n = refl
    go false n = omega arith

-- where there is such a byte, and where there is none
pub found : (b : ℕ) (s : List ℕ) (i : ℕ) → position (λ c. eqb c b) s ≡ Some i → i ≡ index_of b s
found b s i e = go (ltb (position_or_len (λ c. eqb c b) s) (length s)) e ∙ sym (index_is b s)
  where
    go : (t : Bool) → cond t (Some (position_or_len (λ c. eqb c b) s)) None ≡ Some i → i ≡ position_or_len (λ c. eqb c b) s
    go true e = cc
    go false e = cc

pub missed : (b : ℕ) (s : List ℕ) → position (λ c. eqb c b) s ≡ None → length s ≡ index_of b s
missed b s e = go (ltb (position_or_len (λ c. eqb c b) s) (length s)) refl e ∙ sym (index_is b s)
  where
    go : (t : Bool) → ltb (position_or_len (λ c. eqb c b) s) (length s) ≡ t → cond t (Some (position_or_len (λ c. eqb c b) s)) None ≡ None → length s ≡ position_or_len (λ c. eqb c b) s
    go true h e = cc
    go false h e = omega (arith, ltb-false _ _ h, prefix_len-le-length (λ c. not (eqb c b)) s)

pub length_slice : (from to : ℕ) (s : List ℕ) → to ≤ length s → length (slice from to s) ≡ to - from
unfolding slice
length_slice from to s h = omega (arith, length-take (to - from) (drop from s), length-drop from s)
