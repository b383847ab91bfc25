-- The output that is due: line by line, with no more than 513 bytes kept of an unfinished line.
use Prim.Native.Nat.{ℕ, zero, suc, ◌<◌}
use native.Mathlib.Omega.{arith}
use native.Mathlib.Decide.{dec_lt}
use mathlib.Core.Path.{◌≡◌, refl, sym, ap, ◌∙◌}
use mathlib.Core.Bool.{Bool, true, false}
use mathlib.Core.List.{List, [], ◌∷◌, ◌++◌, append_assoc}
use lib.Dec.{eqb}
use lib.ListN.{length, take, drop}
use lib.Seq.{take_all, length-take-le}
use Rattle.slices.specs.Slices.{index_of}
use Rattle.label.specs.Bytes.{newline}
use Rattle.label.specs.Lines.{parts, last_line, answer, answers, output_after, most_line}
use Rattle.lines.specs.Feeding.{most_kept}
use Rattle.lines.proofs.Parts.{part_ends, part_goes_on, parts_found, parts_missing}
use Rattle.lines.proofs.Lines.{answer_long}

-- LONG LINES

pub answer_kept : (p : List ℕ) → answer (take most_kept p) ≡ answer p
answer_kept p = go (dec_lt most_line (length p))
  where
    go : Dec (most_line < length p) → answer (take most_kept p) ≡ answer p
    go (yes h) = answer_long (take most_kept p) (omega (arith, length-take-le most_kept p (omega arith))) ∙ sym (answer_long p h)
    go (no h) = ap answer (take_all most_kept p (omega arith))

take_take_append : (n : ℕ) (p u : List ℕ) → take n (take n p ++ u) ≡ take n (p ++ u)
take_take_append zero p u = refl
take_take_append (suc n) [] u = refl
take_take_append (suc n) (c ∷ p) u = ap (λ (x : List ℕ). c ∷ x) (take_take_append n p u)

last_kept : (p : List ℕ) → answers (last_line (take most_kept p)) ≡ answers (last_line p)
unfolding answers
last_kept [] = refl
last_kept (c ∷ p) = ap (λ (x : List ℕ). x ++ newline ∷ []) (answer_kept (c ∷ p))

answers_cons : (l : List ℕ) (ls : List (List ℕ)) → answers (l ∷ ls) ≡ answer l ++ newline ∷ answers ls
unfolding answers
answers_cons l ls = refl

parts_kept : (s p : List ℕ) → answers (parts newline last_line (take most_kept p) s) ≡ answers (parts newline last_line p s)
unfolding parts
parts_kept [] p = last_kept p
parts_kept (c ∷ s) p = go (eqb c newline) refl (λ q. parts_kept s q)
  where
    go : (t : Bool) → eqb c newline ≡ t → ((q : List ℕ) → answers (parts newline last_line (take most_kept q) s) ≡ answers (parts newline last_line q s))
        → answers (parts newline last_line (take most_kept p) (c ∷ s)) ≡ answers (parts newline last_line p (c ∷ s))
    go true e more =
        ap answers (part_ends newline last_line c s (take most_kept p) e)
        ∙ answers_cons (take most_kept p) (parts newline last_line [] s)
        ∙ ap (λ (x : List ℕ). x ++ newline ∷ answers (parts newline last_line [] s)) (answer_kept p)
        ∙ sym (answers_cons p (parts newline last_line [] s))
        ∙ sym (ap answers (part_ends newline last_line c s p e))
    go false e more =
        ap answers (part_goes_on newline last_line c s (take most_kept p) e)
        ∙ sym (more (take most_kept p ++ c ∷ []))
        ∙ ap (λ (x : List ℕ). answers (parts newline last_line x s)) (take_take_append most_kept p (c ∷ []))
        ∙ more (p ++ c ∷ [])
        ∙ sym (ap answers (part_goes_on newline last_line c s p e))

-- 513 bytes of an unfinished line are enough
pub output_kept : (s p : List ℕ) → output_after (take most_kept p) s ≡ output_after p s
unfolding output_after
output_kept s p = parts_kept s p

-- LINES IN A CHUNK

module _ (s p rest : List ℕ) where
  -- the chunk has no newline: the line goes on
  pub line_goes_on : index_of newline s ≡ length s → output_after p (s ++ rest) ≡ output_after (take most_kept (p ++ s)) rest
  unfolding output_after
  line_goes_on h = ap answers (parts_missing newline last_line s p rest h) ∙ sym (output_kept rest (p ++ s))

  -- the chunk has a newline: the line ends there
  pub line_ends : index_of newline s < length s
      → output_after p (s ++ rest) ≡ answers (take most_kept (p ++ take (index_of newline s) s) ∷ []) ++ output_after [] (drop (suc (index_of newline s)) s ++ rest)
  unfolding output_after answers
  line_ends h =
      let l = p ++ take (index_of newline s) s in
      let after = answers (parts newline last_line [] (drop (suc (index_of newline s)) s ++ rest)) in
      ap answers (parts_found newline last_line s p rest h)
      ∙ ap (λ (x : List ℕ). x ++ newline ∷ after) (sym (answer_kept l))
      ∙ sym (append_assoc (answer (take most_kept l)) (newline ∷ []) after)

-- the last line
pub last_output : (c : ℕ) (p : List ℕ) → output_after (c ∷ p) [] ≡ answers ((c ∷ p) ∷ [])
unfolding output_after parts
last_output c p = refl

pub no_output : output_after [] [] ≡ []
unfolding output_after parts answers
no_output = refl
