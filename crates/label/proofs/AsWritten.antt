-- An accepted unit's sixtieths are the ratio that its power writes.
use Prim.Native.Nat.{ℕ, zero, suc, ◌*◌}
use native.Mathlib.Nat.{zero-mul, mul-zero}
use mathlib.Core.Path.{◌≡◌, refl, sym, ap, ◌∙◌}
use mathlib.Core.Bool.{Bool, true, false}
use mathlib.Core.List.{List, map}
use mathlib.Core.Option.{some}
use lib.IntN.{pos, ◌*ℤ◌}
use lib.ListN.{length}
use Rattle.label.specs.declared.Exponent.{Exponent}
use Rattle.label.specs.Lexical.{Part}
use Rattle.label.specs.Limits.{parts_of_one, signed, exclusive_or, Ratio, ratio, sixtieths, exponent_in, exponent_of}
use Rattle.label.specs.Split.{Placed, Split, Accepts}
use Rattle.label.specs.Reading.{term, reading}
use Rattle.label.specs.Meaning.{AsWritten}
use Rattle.label.proofs.Exponents.{whole_sixtieths, exponent_kept}
use Rattle.label.proofs.Refusals.{Values, valued_values}
use Rattle.label.proofs.Readings.{accepts_terms}

signed_times : (b : Bool) (n d : ℕ) → signed b n *ℤ pos d ≡ signed b (n * d)
signed_times true zero d = rw (zero-mul d)
signed_times true (suc n) d = refl
signed_times false n d = refl

times_signed : (b : Bool) (c n : ℕ) → pos c *ℤ signed b n ≡ signed b (c * n)
times_signed true c zero = rw (mul-zero c)
times_signed true c (suc n) = refl
times_signed false c n = refl

-- e sixtieths are the ratio q under its sign, turned or not
abbrev SixtiethsOf : Exponent → Bool → Ratio → Type 0
SixtiethsOf e turned q = e.0 *ℤ pos q.denominator ≡ pos parts_of_one *ℤ signed (exclusive_or turned q.negative) q.numerator

exponent_written : (turned : Bool) (q : Ratio) (e : Exponent) → exponent_in turned q ≡ some e → SixtiethsOf e turned q
exponent_written turned q e h =
    let k = exponent_kept turned q e h in
    rw (← k.is) (
    signed_times (exclusive_or turned q.negative) (sixtieths q) q.denominator
    ∙ ap (signed (exclusive_or turned q.negative)) (whole_sixtieths q k.whole)
    ∙ sym (times_signed (exclusive_or turned q.negative) parts_of_one q.numerator))

values_written : (n b : ℕ) {ps : List Part} {us : List Placed} → Values ps us → AsWritten ps (map (term n b) us)
unfolding exponent_of term
values_written n b Values.no_values = AsWritten.empty
values_written n b (Values.value {p = p} {e = e} h vs) = AsWritten.next (exponent_written p.turned (ratio p.power) e h) (values_written n b vs)

pub exponents_written : (n : ℕ) (s : List ℕ) (x : Split) (a : Accepts n s x) → AsWritten a.parts (reading n s).terms
exponents_written n s x a = rw (accepts_terms a) (values_written n (length s) (valued_values a.factor a.parts a.values a.within))
