-- Numbers listed by their places, as the definitions list exponents.
use Prim.Native.Nat.{ℕ, ◌<◌}
use native.Mathlib.Omega.{arith}
use mathlib.Core.Path.{◌≡◌, sym, ap, ◌∙◌}
use mathlib.Core.List.{List, [], map}
use lib.IntN.{ℤ, pos}
use lib.ListN.{length, get_or, length-map, get_or-map}
use lib.Seq.{ext_get_or}
use Rattle.label.specs.declared.Exponent.{Exponent}
use Rattle.label.specs.Reading.{exponent, up_to}
use Rattle.label.proofs.Listing.{inside, up_to_length, up_to_at}

-- n numbers are the exponents of the places from 0 on
pub listed : (n : ℕ) (g : ℕ → Exponent) (xs : List ℤ) → length xs ≡ n → ((b : ℕ) → b < n → exponent (get_or xs b (pos 0)) ≡ g b)
    → map exponent xs ≡ map g (up_to n [])
listed n g xs e q =
    ext_get_or (g 0) (map exponent xs) (map g (up_to n []))
    (length-map xs exponent ∙ e ∙ sym (length-map (up_to n []) g ∙ up_to_length n [] ∙ omega arith))
    (λ b h.
    let l : b < n = omega (arith, length-map xs exponent, e) in
    get_or-map exponent xs b (g 0).0
    ∙ ap exponent (inside xs b (g 0).0 (pos 0) (omega (arith, e)))
    ∙ q b l
    ∙ sym (get_or-map g (up_to n []) b 0 ∙ ap g (up_to_at n [] b l)))
