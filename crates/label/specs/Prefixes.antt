-- The twenty prefixes.
use Rattle.std.specs.Prelude.{ℕ, suc, Bool, true, false, List, [], ◌∷◌, ℤ, pos, neg_ℤ, get_or}
use Prim.Native.String.{String}
use Rattle.std.proofs.Math.Option.{Option, none, some}
use Rattle.label.specs.declared.Tens.{Tens}
use Rattle.label.specs.Bytes.{bytes, same}
use Rattle.label.specs.Choice.{pick}

-- a negative number
abbrev pub neg : ℕ → ℤ
neg n = neg_ℤ (pos n)

-- a prefix: its name, and the power of ten that it multiplies by
pub record Prefix : Type 0 where
  pub name : List ℕ
  pub power : Tens

abbrev pub prefix : String → ℤ → Prefix
prefix s z = record { name = bytes s; power = record { 0 = z } }

-- "The twenty prefixes, powers of ten: da 1, h 2, k 3, M 6, G 9, T 12, P 15, E 18, Z 21, Y 24,
-- d -1, c -2, m -3, u -6, n -9, p -12, f -15, a -18, z -21, y -24."
unfoldable pub prefixes : List Prefix
prefixes =
    prefix "da" (pos 1)
    ∷ prefix "h" (pos 2)
    ∷ prefix "k" (pos 3)
    ∷ prefix "M" (pos 6)
    ∷ prefix "G" (pos 9)
    ∷ prefix "T" (pos 12)
    ∷ prefix "P" (pos 15)
    ∷ prefix "E" (pos 18)
    ∷ prefix "Z" (pos 21)
    ∷ prefix "Y" (pos 24)
    ∷ prefix "d" (neg 1)
    ∷ prefix "c" (neg 2)
    ∷ prefix "m" (neg 3)
    ∷ prefix "u" (neg 6)
    ∷ prefix "n" (neg 9)
    ∷ prefix "p" (neg 12)
    ∷ prefix "f" (neg 15)
    ∷ prefix "a" (neg 18)
    ∷ prefix "z" (neg 21)
    ∷ prefix "y" (neg 24)
    ∷ []

-- the place in the table of the prefix of that name, counted from i
unfoldable pub placed : ℕ → List ℕ → List Prefix → Option ℕ
placed i l [] = none
placed i l (p ∷ ps) = pick (same l p.name) (some i) (placed (suc i) l ps)

-- a prefix is identified by its place in the table, counted from 0
unfoldable pub prefix_named : List ℕ → Option ℕ
prefix_named l = placed 0 l prefixes

abbrev pub is_some : Option ℕ → Bool
is_some none = false
is_some (some i) = true

unfoldable pub prefix_name : List ℕ → Bool
prefix_name l = is_some (prefix_named l)

-- the power of ten that a prefix multiplies by, and none's
abbrev pub power_of : Option ℕ → Tens
power_of none = record { 0 = pos 0 }
power_of (some i) = (get_or prefixes i (prefix "" (pos 0))).power
