-- Lines: three tabs part four fields, and every other line is malformed.
use Prim.Native.Nat.{ℕ, suc}
use native.Mathlib.Omega.{arith}
use mathlib.Core.Path.{◌≡◌, refl, ap}
use mathlib.Core.Bool.{Bool, true, false, ◌&&◌}
use mathlib.Core.List.{List, [], ◌∷◌, ◌++◌}
use mathlib.Core.Logic.{◌⊎◌}
use lib.Dec.{leb, eqb}
use lib.ListN.{length}
use borrow.Author.Tests.{le-leb, lt-leb, eq-eqb, ne_eqb}
use Rattle.label.specs.Bytes.{bytes, tab}
use Rattle.label.specs.Lines.{parts, last_field, fields, decimal, answer_with, malformed, well_formed, answer, most_line}
use Rattle.claims.specs.Claims.{count_of, MalformedLines, OtherLines}

-- a field more than tabs
fields_count : (s p : List ℕ) → length (parts tab last_field p s) ≡ suc (count_of tab s)
unfolding parts count_of
fields_count [] p = refl
fields_count (c ∷ s) p = go (eqb c tab) refl (fields_count s []) (fields_count s (p ++ c ∷ []))
  where
    go : (t : Bool) → eqb c tab ≡ t → length (parts tab last_field [] s) ≡ suc (count_of tab s) → length (parts tab last_field (p ++ c ∷ []) s) ≡ suc (count_of tab s)
        → length (parts tab last_field p (c ∷ s)) ≡ suc (count_of tab (c ∷ s))
    go true e h more = rw (parts, count_of, e) (ap suc h)
    go false e h more = rw (parts, count_of, e) more

and_false : (t : Bool) → (t && false) ≡ false
and_false true = refl
and_false false = refl

pub malformed_lines : MalformedLines
unfolding answer well_formed malformed answer_with decimal bytes
malformed_lines s (◌⊎◌.inl h) = rw (lt-leb (length s) most_line h)
malformed_lines s (◌⊎◌.inr h) =
    let e : eqb (length (fields s)) 4 ≡ false = ne_eqb (length (fields s)) 4 (λ q. h (omega (arith, fields_count s []))) in
    rw (e, and_false (leb (length s) most_line))

pub other_lines : OtherLines
unfolding answer well_formed
other_lines s h e =
    let q : length (fields s) ≡ 4 = omega (arith, fields_count s []) in
    (q, rw (le-leb (length s) most_line h, eq-eqb (length (fields s)) 4 q))
