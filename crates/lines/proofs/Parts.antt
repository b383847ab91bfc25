-- Parts of a text between the bytes that part it, by where the first of these bytes is.
use Prim.Native.Nat.{ℕ, suc, ◌<◌}
use native.Mathlib.Omega.{arith}
use mathlib.Core.Path.{◌≡◌, refl, ap, ◌∙◌}
use mathlib.Core.Bool.{Bool, true, false}
use mathlib.Core.List.{List, [], ◌∷◌, ◌++◌, append-nil}
use lib.Dec.{eqb}
use lib.ListN.{length, take, drop}
use lib.Seq.{append_snoc}
use Rattle.slices.specs.Slices.{index_of, index_after}
use Rattle.label.specs.Lines.{parts}

module _ (b : ℕ) (end : List ℕ → List (List ℕ)) where
  pub part_ends : (c : ℕ) (s p : List ℕ) → eqb c b ≡ true → parts b end p (c ∷ s) ≡ p ∷ parts b end [] s
  unfolding parts
  part_ends c s p e = rw (parts, e)

  pub part_goes_on : (c : ℕ) (s p : List ℕ) → eqb c b ≡ false → parts b end p (c ∷ s) ≡ parts b end (p ++ c ∷ []) s
  unfolding parts
  part_goes_on c s p e = rw (parts, e)

pub index_here : (b c : ℕ) (s : List ℕ) → eqb c b ≡ true → index_of b (c ∷ s) ≡ 0
unfolding index_of index_after
index_here b c s e = rw e

pub index_later : (b c : ℕ) (s : List ℕ) → eqb c b ≡ false → index_of b (c ∷ s) ≡ suc (index_of b s)
unfolding index_of index_after
index_later b c s e = rw e

module _ (b : ℕ) (end : List ℕ → List (List ℕ)) where
  -- the byte is found: a part ends there
  pub parts_found : (s p rest : List ℕ) → index_of b s < length s
      → parts b end p (s ++ rest) ≡ (p ++ take (index_of b s) s) ∷ parts b end [] (drop (suc (index_of b s)) s ++ rest)
  unfolding index_of
  parts_found [] p rest h = absurd (omega arith)
  parts_found (c ∷ s) p rest h = go (eqb c b) refl (λ q g. parts_found s q rest g)
    where
      go : (t : Bool) → eqb c b ≡ t
          → ((q : List ℕ) → index_of b s < length s → parts b end q (s ++ rest) ≡ (q ++ take (index_of b s) s) ∷ parts b end [] (drop (suc (index_of b s)) s ++ rest))
          → parts b end p (c ∷ (s ++ rest)) ≡ (p ++ take (index_of b (c ∷ s)) (c ∷ s)) ∷ parts b end [] (drop (suc (index_of b (c ∷ s))) (c ∷ s) ++ rest)
      go true e later = rw (index_here b c s e, append-nil p) (part_ends b end c (s ++ rest) p e)
      go false e later =
          rw (index_later b c s e)
          (part_goes_on b end c (s ++ rest) p e ∙ later (p ++ c ∷ []) (omega (arith, index_later b c s e))
          ∙ ap (λ (q : List ℕ). q ∷ parts b end [] (drop (suc (index_of b s)) s ++ rest)) (append_snoc p c (take (index_of b s) s)))

  -- the byte is missing: the part goes on
  pub parts_missing : (s p rest : List ℕ) → index_of b s ≡ length s → parts b end p (s ++ rest) ≡ parts b end (p ++ s) rest
  unfolding index_of
  parts_missing [] p rest h = rw append-nil
  parts_missing (c ∷ s) p rest h = go (eqb c b) refl (λ q g. parts_missing s q rest g)
    where
      go : (t : Bool) → eqb c b ≡ t → ((q : List ℕ) → index_of b s ≡ length s → parts b end q (s ++ rest) ≡ parts b end (q ++ s) rest)
          → parts b end p (c ∷ (s ++ rest)) ≡ parts b end (p ++ c ∷ s) rest
      go true e later = absurd (omega (arith, index_here b c s e))
      go false e later =
          part_goes_on b end c (s ++ rest) p e ∙ later (p ++ c ∷ []) (omega (arith, index_later b c s e))
          ∙ ap (λ (q : List ℕ). parts b end q rest) (append_snoc p c s)
