-- How many bytes words have: lists of words, numbers, and what is said of ten and of an exponent.
use Prim.Native.Nat.{ℕ, zero, suc, pred, ◌+◌, ◌*◌, ◌-◌, ◌/◌, ◌%◌, ◌^◌, ◌≤◌, ◌<◌}
use native.Mathlib.Omega.{arith}
use native.Mathlib.Nat.{mul_assoc, mul-le-mul_left, pow-suc}
use mathlib.Core.Path.{◌≡◌, refl, ap}
use mathlib.Core.Bool.{Bool, true, false}
use mathlib.Core.List.{List, [], ◌∷◌, ◌++◌}
use lib.Dec.{T, eqb, leb}
use lib.IntN.{ℤ, pos, negsuc, nat_abs}
use lib.ListN.{length, length-append}
use borrow.Author.Tests.{leb-true, eq-eqb}
use Rattle.label.specs.declared.Exponent.{Exponent}
use Rattle.label.specs.declared.Tens.{Tens}
use Rattle.label.specs.Bytes.{bytes, digit, all}
use Rattle.label.specs.Choice.{pick}
use Rattle.label.specs.Limits.{number_from, number, signed, negative, lowest_terms, parts_of_one}
use Rattle.label.specs.Conversion.{same_whole}
use Rattle.label.specs.Writing.{figures_before, figures}
use Rattle.label.specs.Words.{over_words, Word, number_words, factor_words, fraction_words, exponent_words, spaced_words, joined_words}
use Rattle.label.proofs.Basics.{both, digit_bounds}

-- WORDS

-- the bytes of words, each after a space
abbrev pub cost : List Word → ℕ
cost ws = length (spaced_words ws)

pub cost_nil : cost [] ≡ 0
unfolding spaced_words
cost_nil = refl

pub cost_cons : (w : Word) (ws : List Word) → cost (w ∷ ws) ≡ suc (length w + cost ws)
unfolding spaced_words
cost_cons w ws = ap suc (length-append w (spaced_words ws))

pub cost_append : (ws vs : List Word) → cost (ws ++ vs) ≡ cost ws + cost vs
cost_append [] vs = omega (arith, cost_nil)
cost_append (w ∷ ws) vs = omega (arith, cost_cons w (ws ++ vs), cost_cons w ws, cost_append ws vs)

-- the first word has no space before it
pub joined_cost : (ws : List Word) → length (joined_words ws) ≤ pred (cost ws)
unfolding joined_words
joined_cost [] = omega arith
joined_cost (w ∷ ws) = omega (arith, cost_cons w ws, length-append w (spaced_words ws))

-- NUMBERS

figures_below : (f d n : ℕ) (ds : List ℕ) → n < 10 ^ suc d → length (figures_before f n ds) ≤ suc d + length ds
unfolding figures_before
figures_below zero d n ds h = omega arith
figures_below (suc f) d n ds h = go (leb 10 n) d refl h (λ e g. figures_below f e (n / 10) ((48 + n % 10) ∷ ds) g)
  where
    go : (b : Bool) (d : ℕ) → leb 10 n ≡ b → n < 10 ^ suc d
        → ((e : ℕ) → n / 10 < 10 ^ suc e → length (figures_before f (n / 10) ((48 + n % 10) ∷ ds)) ≤ suc e + suc (length ds))
        → length {A = ℕ} (elim b as (λ (z : Bool). List ℕ) [ true ↦ figures_before f (n / 10) ((48 + n % 10) ∷ ds) | false ↦ (48 + n) ∷ ds ]) ≤ suc d + length ds
    go false d e h ih = omega arith
    go true zero e h ih = absurd (omega (arith, leb-true 10 n e))
    go true (suc d) e h ih = omega (arith, ih d (omega arith))

figures_most : (f n : ℕ) (ds : List ℕ) → length (figures_before f n ds) ≤ f + length ds
unfolding figures_before
figures_most zero n ds = omega arith
figures_most (suc f) n ds = go (leb 10 n) (figures_most f (n / 10) ((48 + n % 10) ∷ ds))
  where
    go : (b : Bool) → length (figures_before f (n / 10) ((48 + n % 10) ∷ ds)) ≤ f + suc (length ds)
        → length {A = ℕ} (elim b as (λ (z : Bool). List ℕ) [ true ↦ figures_before f (n / 10) ((48 + n % 10) ∷ ds) | false ↦ (48 + n) ∷ ds ]) ≤ suc f + length ds
    go false ih = omega arith
    go true ih = omega arith

pub figures_few : (n : ℕ) → length (figures n) ≤ 4
unfolding figures
figures_few n = omega (arith, figures_most 4 n [])

pub figures_short : (d n : ℕ) → n < 10 ^ suc d → length (figures n) ≤ suc d
unfolding figures
figures_short d n h = omega (arith, figures_below 4 d n [] h)

-- what digits write, after n
number_below : (n : ℕ) (l : List ℕ) → T (all digit l) → number_from n l < 10 ^ length l * suc n
unfolding number_from all
number_below n [] t = omega arith
number_below n (c ∷ l) t =
    let w = both (digit c) (all digit l) t in
    let b = digit_bounds c w.0 in
    let m : suc (n * 10 + (c - 48)) ≤ 10 * suc n = omega arith in
    omega (arith, number_below (n * 10 + (c - 48)) l w.1, mul-le-mul_left (10 ^ length l) m, mul_assoc (10 ^ length l) 10 (suc n), ap (λ (x : ℕ). x * suc n) (pow-suc 10 (length l)))

-- a number has no more figures than the digits of another that is no less
pub figures_within : (n : ℕ) (l : List ℕ) → 1 ≤ length l → T (all digit l) → n ≤ number l → length (figures n) ≤ length l
unfolding number
figures_within n (c ∷ l) h t k = figures_short (length l) n (omega (arith, number_below 0 (c ∷ l) t))
figures_within n [] h t k = elim h [ ]

-- "minus"
abbrev pub minus_cost : Bool → ℕ
minus_cost true = 6
minus_cost false = 0

pub minus_most : (b : Bool) → minus_cost b ≤ 6
minus_most true = omega arith
minus_most false = omega arith

pub minus_signed : (b : Bool) (n : ℕ) → minus_cost (negative (signed b n)) ≤ minus_cost b
minus_signed true zero = omega arith
minus_signed true (suc n) = omega arith
minus_signed false n = omega arith

pub number_cost : (z : ℤ) → cost (number_words z) ≡ minus_cost (negative z) + suc (length (figures (nat_abs z)))
unfolding number_words bytes
number_cost (pos n) = omega (arith, cost_cons (figures n) [], cost_nil)
number_cost (negsuc n) = omega (arith, cost_cons (bytes "minus") (figures (suc n) ∷ []), cost_cons (figures (suc n)) [], cost_nil)

-- TEN

pub ten_cost : (k : Tens) → cost (factor_words k) ≤ 11 + cost (number_words k.0)
unfolding factor_words bytes
ten_cost k = go (eqb (nat_abs k.0) 0)
  where
    go : (b : Bool) → cost (pick b [] (bytes "ten" ∷ bytes "to" ∷ bytes "the" ∷ number_words k.0)) ≤ 11 + cost (number_words k.0)
    go true = omega (arith, cost_nil)
    go false =
        omega (arith, cost_cons (bytes "ten") (bytes "to" ∷ bytes "the" ∷ number_words k.0), cost_cons (bytes "to") (bytes "the" ∷ number_words k.0), cost_cons (bytes "the") (number_words k.0))

-- k is 0: nothing is said
pub no_ten_cost : (k : Tens) → pos 0 ≡ k.0 → cost (factor_words k) ≡ 0
unfolding factor_words
no_ten_cost k q = rw (← q) cost_nil

-- EXPONENTS

pub over_cost : (q : ℕ) → q ≤ parts_of_one → cost (over_words q) ≤ 8
unfolding bytes
over_cost q h = go (eqb q 1)
  where
    go : (b : Bool) → cost (pick b [] (bytes "over" ∷ figures q ∷ [])) ≤ 8
    go true = omega (arith, cost_nil)
    go false = omega (arith, cost_cons (bytes "over") (figures q ∷ []), cost_cons (figures q) [], cost_nil, figures_short 1 q (omega arith))

pub no_over_cost : (q : ℕ) → 1 ≤ q → q ≤ 1 → cost (over_words q) ≡ 0
no_over_cost q h k = rw (eq-eqb q 1 (omega arith)) cost_nil

-- "to the", and the exponent in lowest terms
pub exponent_cost : (e : Exponent)
    → cost (exponent_words e)
    ≤ 8 + (minus_cost (negative (lowest_terms e).numerator) + length (figures (nat_abs (lowest_terms e).numerator))) + cost (over_words (lowest_terms e).denominator)
unfolding exponent_words fraction_words bytes
exponent_cost e = go (same_whole e.0 (pos parts_of_one))
  where
    go : (b : Bool) → cost (pick b [] (bytes "to" ∷ bytes "the" ∷ fraction_words (lowest_terms e)))
        ≤ 8 + (minus_cost (negative (lowest_terms e).numerator) + length (figures (nat_abs (lowest_terms e).numerator))) + cost (over_words (lowest_terms e).denominator)
    go true = omega (arith, cost_nil)
    go false =
        omega (arith, cost_cons (bytes "to") (bytes "the" ∷ fraction_words (lowest_terms e)), cost_cons (bytes "the") (fraction_words (lowest_terms e)), cost_append (number_words (lowest_terms e).numerator) (over_words (lowest_terms e).denominator), number_cost (lowest_terms e).numerator)
