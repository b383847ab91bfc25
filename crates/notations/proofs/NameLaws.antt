-- A name's place among the names that the code has, and the number that the rows give it.
use Prim.Native.Nat.{ℕ, zero, suc, ◌+◌, ◌<◌, ◌≤◌}
use native.Mathlib.Omega.{arith}
use native.Mathlib.Numerals.{add-one}
use mathlib.Core.Path.{◌≡◌, refl}
use mathlib.Core.Bool.{Bool, true, false, cond}
use mathlib.Core.List.{List, [], ◌∷◌}
use mathlib.Core.Option.{some}
use lib.Dec.{ltb}
use Rattle.std.proofs.lemmas.Bool.{lt-ltb, le-ltb}
use lib.ListN.{length}
use denote.Ref.{Bor}
use native.Mathlib.Decide.{dec_lt}
use Rattle.std.specs.List.{position_or_len}
use Rattle.std.specs.Prelude.{Option, Some, None, unwrap_or}
use Rattle.std.specs.Str.{bytes_eq}
use Rattle.label.specs.Bytes.{same}
use Rattle.label.specs.Options.{told}
use Rattle.label.specs.Rows.{Row, named}
use Rattle.label.specs.Lines.{number_named, notation_named}
use Rattle.notations.specs.Names.{number_told}

-- what tells the number tells it by 0 too
pub told_or_0 : (n : ℕ) (r : Option ℕ) → told r ≡ number_told n → unwrap_or r 0 ≡ n
told_or_0 zero None e = refl
told_or_0 zero (Some a) e = absurd (cc)
told_or_0 (suc n) None e = absurd (cc)
told_or_0 (suc n) (Some a) e = cc

-- the rows of some names, of which the first has the number k + 1
unfoldable pub rows : ℕ → List (Bor (List ℕ)) → List (Row (List ℕ))
rows k [] = []
rows k (x ∷ xs) = record { number = suc k; value = x.now } ∷ rows (suc k) xs

same_eq : (s t : List ℕ) → same s t ≡ bytes_eq s t
unfolding same
same_eq [] [] = refl
same_eq [] (d ∷ t) = refl
same_eq (c ∷ s) [] = refl
same_eq (c ∷ s) (d ∷ t) = rw (same_eq s t)

abbrev pub place : List ℕ → List (Bor (List ℕ)) → ℕ
place s = position_or_len (λ x. bytes_eq s x.now)

-- what the place p of n gives
record Numbered (k p n : ℕ) (number : ℕ) : Type 0 where
  here : p < n → number ≡ k + p + 1
  none : n ≤ p → number ≡ 0

named_by : (s : List ℕ) (k : ℕ) (xs : List (Bor (List ℕ))) → Numbered k (place s xs) (length xs) (number_named s (rows k xs))
unfolding number_named rows
named_by s k [] = record { here = λ h. absurd (omega arith); none = λ h. refl }
named_by s k (x ∷ xs) = go (same s x.now) (same_eq s x.now) (named_by s (suc k) xs)
  where
    go : (b : Bool) → b ≡ bytes_eq s x.now → Numbered (suc k) (place s xs) (length xs) (number_named s (rows (suc k) xs)) →
        Numbered k (place s (x ∷ xs)) (suc (length xs)) (elim b as (λ (z : Bool). ℕ) [ true ↦ suc k | false ↦ number_named s (rows (suc k) xs) ])
    go true e ih = rw (← e) (record { here = λ h. omega arith; none = λ h. absurd (omega arith) })
    go false e ih = rw (← e) (record { here = λ h. omega (arith, ih.here (omega arith)); none = λ h. ih.none (omega arith) })

-- what the answer r, a place, tells of the number of the name s
pub record Tells (s : List ℕ) (r : Option ℕ) : Type 0 where
  pub found : {p : ℕ} → r ≡ Some p → some (p + 1) ≡ number_told (notation_named s)
  pub missing : r ≡ None → told None ≡ number_told (notation_named s)

-- the names are xs, which l shows
pub by_place : {l xs : List (Bor (List ℕ))} {s : List ℕ} {r : Option ℕ} → l ≡ xs → named ≡ rows 0 xs →
    r ≡ cond (ltb (place s xs) (length xs)) (Some (place s xs)) None → Tells s r
unfolding notation_named
by_place {l} {xs} {s} {r} _ e f = go (dec_lt (place s xs) (length xs)) (rw (← e) at (named_by s 0 xs))
  where
    go : Dec (place s xs < length xs) → Numbered 0 (place s xs) (length xs) (number_named s named) → Tells s r
    go (yes h) w =
        let g : r ≡ Some (place s xs) = rw lt-ltb at f in
        let n : number_named s named ≡ suc (place s xs) = omega (arith, w.here h) in
        record { found = λ {p} i. (let k : p ≡ place s xs = cc in rw (n, k, add-one (place s xs))); missing = λ i. absurd (cc) }
    go (no h) w =
        let k : length xs ≤ place s xs = omega arith in
        let g : r ≡ None = rw le-ltb at f in
        let n : number_named s named ≡ 0 = w.none k in
        record { found = λ i. absurd (cc); missing = λ i. rw n }
