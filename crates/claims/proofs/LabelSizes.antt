-- How many bytes of a label its units and its factor take.
use Prim.Native.Nat.{ℕ, zero, suc, ◌+◌, ◌*◌, ◌^◌, ◌≤◌, ◌<◌}
use native.Mathlib.Omega.{arith}
use mathlib.Core.Path.{◌≡◌, refl, sym, ap, ◌∙◌}
use mathlib.Core.Bool.{Bool, true, false, ◌&&◌}
use mathlib.Core.List.{List, [], ◌∷◌, ◌++◌}
use mathlib.Core.Option.{none, some}
use lib.Dec.{leb}
use lib.IntN.{pos, nat_abs}
use lib.ListN.{length, length-append}
use Rattle.label.specs.declared.Rules.{Rules}
use Rattle.label.specs.declared.Tens.{Tens}
use Rattle.label.specs.Bytes.{close_bracket, digit_zero, point, slash, star}
use Rattle.label.specs.Choice.{pick}
use Rattle.label.specs.Lexical.{Numeral, Factor, no_factor, ten_to, zeros, Part, turned_all, Kind, item, more, product, quotient, Unsigned, Signed, Plain}
use Rattle.label.specs.Limits.{number, signed, negative, short, tens, k_of, largest_k}
use Rattle.label.specs.Parse.{inside}
use Rattle.label.specs.Writing.{figures}
use Rattle.label.specs.Words.{factor_words}
use Rattle.label.proofs.Basics.{none_some}
use Rattle.label.proofs.Figures.{size_signed}
use Rattle.label.proofs.General.{TimesBy, OverBy, G, WrappedBy, FactorBy, LabelBy}
use Rattle.claims.proofs.WordSizes.{cost, figures_few, figures_short, figures_within, minus_cost, minus_signed, minus_most, number_cost, ten_cost, no_ten_cost}
use Rattle.claims.proofs.PowerSizes.{numeral_size, power_size, upright, unsigned_run, integer_digits, integer_size, exponent_in_text}

-- UNITS

-- the bytes that units take at least, with one for what joins each
unfoldable pub used : List Part → ℕ
used [] = 0
used (p ∷ ps) = suc (length p.spelling + power_size p.power) + used ps

-- 1 if the first unit is there and no slash turns it: nothing need stand before it
unfoldable pub lead : List Part → ℕ
lead [] = 0
lead (p ∷ ps) = upright p.turned

used_append : (ps qs : List Part) → used (ps ++ qs) ≡ used ps + used qs
unfolding used
used_append [] qs = omega arith
used_append (p ∷ ps) qs = omega (arith, used_append ps qs)

used_turned : (ps : List Part) → used (turned_all ps) ≡ used ps
unfolding used
used_turned [] = refl
used_turned (p ∷ ps) = omega (arith, used_turned ps)

upright_one : (b : Bool) → upright b ≤ 1
upright_one true = omega arith
upright_one false = omega arith

pub lead_one : (ps : List Part) → lead ps ≤ 1
unfolding lead
lead_one [] = omega arith
lead_one (p ∷ ps) = upright_one p.turned

lead_append : (ps qs : List Part) → lead ps ≤ lead (ps ++ qs)
unfolding lead
lead_append [] qs = omega arith
lead_append (p ∷ ps) qs = omega arith

times_some : {r : Rules} {j : List ℕ} → TimesBy r j → 1 ≤ length j
times_some (TimesBy.space f p) = omega arith
times_some (TimesBy.star {a = a} {b = b} f p q) = omega (arith, length-append a (star ∷ b))
times_some (TimesBy.point {a = a} {b = b} f p q) = omega (arith, length-append a (point ∷ b))

over_some : {r : Rules} {j : List ℕ} → OverBy r j → 1 ≤ length j
over_some (OverBy.slashed {a = a} {b = b} f p q) = omega (arith, length-append a (slash ∷ b))

-- what follows an item begins with what joins it
abbrev unjoined : Kind → List Part → ℕ
unjoined item ps = lead ps
unjoined more ps = 0
unjoined product ps = lead ps
unjoined quotient ps = lead ps

unjoined_one : (x : Kind) (ps : List Part) → unjoined x ps ≤ 1
unjoined_one item ps = lead_one ps
unjoined_one more ps = omega arith
unjoined_one product ps = lead_one ps
unjoined_one quotient ps = lead_one ps

units_within : {r : Rules} {x : Kind} {s t : List ℕ} {ps : List Part} → G r x s t ps → used ps + length t ≤ unjoined x ps + length s
unfolding used lead
units_within (G.unit {l = l} {e = e} {t = t} d x) = omega (arith, length-append l (e ++ t), length-append e t, (exponent_in_text x).enough)
units_within {r} (G.group {ps = ps} d) = omega (arith, units_within d, unjoined_one (inside r) ps)
units_within (G.first {ps = ps} {qs = qs} d m) = omega (arith, used_append ps qs, units_within d, units_within m, lead_append ps qs)
units_within (G.under {j = j} {s = s} {ps = ps} {qs = qs} o d m) =
    omega (arith, used_append (turned_all ps) qs, used_turned ps, units_within d, units_within m, lead_one ps, length-append j s, over_some o)
units_within G.done = omega arith
units_within (G.times {j = j} {s = s} {ps = ps} {qs = qs} o d m) =
    omega (arith, used_append ps qs, units_within d, units_within m, lead_one ps, length-append j s, times_some o)
units_within (G.over {j = j} {s = s} {ps = ps} {qs = qs} o d m) =
    omega (arith, used_append (turned_all ps) qs, used_turned ps, units_within d, units_within m, lead_one ps, length-append j s, over_some o)
units_within (G.plain d) = units_within d
units_within (G.divided {ps = ps} {qs = qs} f d i) =
    omega (arith, used_append ps (turned_all qs), used_turned qs, units_within d, units_within i, lead_append ps (turned_all qs), lead_one qs)

-- FACTORS

tens_are : (b c : Bool) (m : ℕ) (k : Tens) → tens b c m ≡ some k → signed c m ≡ k.0
tens_are b c m k h = go (b && leb m largest_k) h
  where
    go : (x : Bool) → pick x (some (record { 0 = signed c m })) none ≡ some k → signed c m ≡ k.0
    go false h = absurd (none_some h)
    go true h = let y : record { 0 = signed c m } ≡ k = cc in ap (λ (z : Tens). z.0) y

-- k is m under a sign
signed_cost : (c : Bool) (m : ℕ) (k : Tens) → signed c m ≡ k.0 → cost (factor_words k) ≤ 12 + minus_cost c + length (figures m)
signed_cost c m k z =
    let f : length (figures (nat_abs k.0)) ≡ length (figures m) = ap (λ (n : ℕ). length (figures n)) (ap nat_abs (sym z) ∙ size_signed c m) in
    let s : minus_cost (negative k.0) ≤ minus_cost c = rw (← z) (minus_signed c m) in
    omega (arith, ten_cost k, number_cost k.0)

-- ten to an integer
numeral_cost : (n : Numeral) (k : Tens) → Unsigned n.digits → k_of (ten_to n) ≡ some k → cost (factor_words k) ≤ 17 + 2 * length n.digits
unfolding k_of
numeral_cost n k u h =
    let d = unsigned_run u in
    omega (arith, signed_cost n.negative (number n.digits) k (tens_are (short n.digits) n.negative (number n.digits) k h), minus_most n.negative, d.some_digits, figures_within (number n.digits) n.digits d.some_digits d.all_digits (omega arith))

plain_size : {x : List ℕ} {k : ℕ} → Plain x k → suc k ≤ length x
plain_size Plain.one = omega arith
plain_size (Plain.ten_times {s = s} p) = omega (arith, plain_size p, length-append s (digit_zero ∷ []))

below_tens : (n : ℕ) → n < 10 ^ n
below_tens zero = omega arith
below_tens (suc n) = omega (arith, below_tens n)

-- 1 and zeros
zeros_cost : (m : ℕ) (k : Tens) → k_of (zeros m) ≡ some k → cost (factor_words k) ≤ 13 + 2 * m
unfolding k_of
zeros_cost zero k h = omega (arith, no_ten_cost k (tens_are true false 0 k h))
zeros_cost (suc m) k h = omega (arith, signed_cost false (suc m) k (tens_are true false (suc m) k h), figures_short m (suc m) (below_tens (suc m)))

wrapped_size : {r : Rules} {s : List ℕ} {n : Numeral} → WrappedBy r s n → numeral_size n ≤ length s
wrapped_size (WrappedBy.bare i) = integer_size i
wrapped_size (WrappedBy.bracketed {s = s} f i) = omega (arith, integer_size i, length-append s (close_bracket ∷ []))

wrapped_digits : {r : Rules} {s : List ℕ} {n : Numeral} → WrappedBy r s n → Unsigned n.digits
wrapped_digits (WrappedBy.bare i) = integer_digits i
wrapped_digits (WrappedBy.bracketed f i) = integer_digits i

factor_cost : {r : Rules} {x : List ℕ} {f : Factor} (k : Tens) → FactorBy r x f → k_of f ≡ some k → cost (factor_words k) ≤ 11 + 2 * length x
factor_cost k (FactorBy.stars {n = n} w) h = omega (arith, numeral_cost n k (wrapped_digits w) h, wrapped_size w)
factor_cost k (FactorBy.caret {n = n} f w) h = omega (arith, numeral_cost n k (wrapped_digits w) h, wrapped_size w)
factor_cost k (FactorBy.signed {n = n} f (Signed.positive u)) h = omega (arith, numeral_cost n k u h)
factor_cost k (FactorBy.signed {n = n} f (Signed.negative u)) h = omega (arith, numeral_cost n k u h)
factor_cost k (FactorBy.plain {k = m} f p) h = omega (arith, zeros_cost m k h, plain_size p)

unfactored : (k : Tens) → k_of no_factor ≡ some k → cost (factor_words k) ≡ 0
unfolding k_of
unfactored k h = let y : record { 0 = pos 0 } ≡ k = cc in no_ten_cost k (ap (λ (z : Tens). z.0) y)

-- LABELS

-- the factor's words, and two bytes for each that the units take
pub label_cost : {r : Rules} {s : List ℕ} {f : Factor} {ps : List Part} (k : Tens) → LabelBy r s f ps → k_of f ≡ some k
    → cost (factor_words k) + 2 * used ps ≤ 11 + 2 * lead ps + 2 * length s
unfolding used lead
label_cost k LabelBy.empty h = omega (arith, unfactored k h)
label_cost k (LabelBy.plain u d) h = omega (arith, unfactored k h, units_within d)
label_cost k (LabelBy.under {ps = ps} f d) h = omega (arith, unfactored k h, units_within d, used_turned ps, lead_one ps)
label_cost k (LabelBy.factored {x = x} {g = g} {s = s} l f w d) h =
    omega (arith, factor_cost k f h, units_within d, length-append x (g ++ s), length-append g s)

-- a factor has at most five words, and four figures
pub factor_most : (k : Tens) → cost (factor_words k) ≤ 22
factor_most k = omega (arith, ten_cost k, number_cost k.0, figures_few (nat_abs k.0), minus_most (negative k.0))
