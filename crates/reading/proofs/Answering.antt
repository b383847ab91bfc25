-- What reading a label answers: one law for each way through the code.
use Prim.Native.Nat.{ℕ, ◌≤◌, ◌<◌}
use native.Mathlib.Omega.{arith}
use mathlib.Core.Path.{◌≡◌, refl, sym, ap, ◌∙◌}
use mathlib.Core.List.{List, map}
use lib.ListN.{length, get_or, length-map}
use Rattle.std.specs.Prelude.{Ok, Err}
use Rattle.label.specs.declared.Refusal.{Refusal}
use Rattle.label.specs.declared.Refusal.TheVariants.{NoNotation, TooLong, StrangeByte, NoLabel, OutOfBounds, TooDeep, TooManyTerms, UnknownUnit, OtherDimensions, NoFraction, LargeFraction, NoForm, LongResult, ShortBuffer, BadLine, AfterTheEnd}
use Rattle.label.specs.Refusals.{number_of}
use Rattle.label.specs.declared.Tens.{Tens}
use Rattle.label.specs.Reading.{exponent, up_to, dimensions_of, refusal, term, reading_of, answered, reading, checked}
use Rattle.label.specs.Reading as spec
use Rattle.label.proofs.Readings.{number_refused, refused_reading}
use Rattle.label.proofs.Lettering.{TermSpelt, reading_spelt}
use Rattle.descent.specs.declared.terms.Terms.{Terms}
use Rattle.descent.specs.Terms.{count}
use Rattle.checks.specs.Checks.{units_in, Checks}
use Rattle.content.specs.declared.verdicts.Verdicts.{Verdicts}
use Rattle.content.specs.Sums.{prime_count}
use Rattle.content.specs.Views.{term_in, terms_in}
use Rattle.content.specs.Named.{Nameable, AllNamed}
use Rattle.content.specs.Totals.{AddedUp}
use Rattle.content.specs.Verdicts.{VerdictsOn}
use Rattle.content.proofs.Naming.{all_in_at, terms_length, nth_term}
use Rattle.reading.specs.declared.read.Answer.{Answer}
use Rattle.reading.specs.declared.read.Content.{Content}
use Rattle.reading.proofs.Lettering.{spelt_at, letters_some, noted_at}
use Rattle.reading.specs.Views.{reading_in}
use Rattle.reading.specs.Answers.{AcceptedReading}

-- a label that no refusal is due for
pub record AcceptedAnswer (n : ℕ) (s : List ℕ) (k : Tens) (c : Content) (v : Verdicts) : Type 0 where
  pub is : reading_in s c (record { k = k; verdicts = v }) ≡ reading_of n k (map (term n (length s)) (units_in s c.terms))
  pub primes : length c.sums.primes ≡ prime_count
  pub named : AllNamed n s c.terms c.symbols

pub accepted₁ : {n : ℕ} {s : List ℕ} {k : Tens} {c : Content} {v : Verdicts} → AllNamed n s c.terms c.symbols
    → ((s : List ℕ) (t : Terms) → VerdictsOn n (terms_in s t c.symbols (count c.terms)) v)
    → AddedUp k c.terms c.symbols (count c.terms) c.sums → AcceptedAnswer n s k c v
unfolding reading_in reading_of
accepted₁ {n} {s} {k} {c} w v a = record {
  is = rw ((v s c.terms).known_is, (v s c.terms).lawful_is, (v s c.terms).recommended_is, a.dimensions s c.terms (record { same = λ i h. refl }), a.scale s c.terms (record { same = λ i h. refl }), w.is);
  primes = a.primes;
  named = w;
}

pub read_refused : {n : ℕ} {s : List ℕ} {t : Terms} {e : Refusal} → Checks n s t (Err e) → number_of e ≡ (reading n s).number
unfolding reading answered refusal
read_refused w = rw w.is

pub read_nameable : {n : ℕ} {s : List ℕ} {t : Terms} {k : Tens} → Checks n s t (Ok k) → Nameable s t
read_nameable w = record { short = w.short; few = w.few; inside = w.inside }

pub read_accepted : {n : ℕ} {s : List ℕ} {c : Content} {k : Tens} {v : Verdicts} → Checks n s c.terms (Ok k) → AcceptedAnswer n s k c v
    → AcceptedReading n s c (record { k = k; verdicts = v })
unfolding reading answered reading_of reading_in
read_accepted {n} {s} {c} {k} {v} w a = record {
  is = whole;
  primes = a.primes;
  counted = sym (terms_length s c.terms c.symbols (count c.terms)) ∙ ap (λ (u : spec.Reading). length u.terms) whole;
  within = read_nameable w;
  letters = λ i l h u.
      let b = a.named.letters i l h u in
      record { from = b.from; some = letters_some s c.terms c.symbols i l (spelt i h) u; upto = b.upto };
  noted = λ i h. noted_at s c.terms c.symbols i (all_in_at c.terms (count c.terms) i w.inside h) (λ l u. a.named.letters i l h u) (spelt i h);
  bounded = a.named.bounded;
}
  where
    whole : reading_in s c (record { k = k; verdicts = v }) ≡ reading n s
    whole = a.is ∙ sym (rw w.is)

    spelt : (i : ℕ) → i < count c.terms → TermSpelt s (term_in s c.terms c.symbols i)
    spelt i h = spelt_at s c.terms c.symbols (count c.terms) i (rw (← ap (λ (u : spec.Reading). u.terms) whole) at (reading_spelt n s)) h

-- WHAT IS ANSWERED

-- a refusal has a number
pub refusal_some : (e : Refusal) → 0 < number_of e
refusal_some NoNotation = omega arith
refusal_some TooLong = omega arith
refusal_some StrangeByte = omega arith
refusal_some NoLabel = omega arith
refusal_some OutOfBounds = omega arith
refusal_some TooDeep = omega arith
refusal_some TooManyTerms = omega arith
refusal_some UnknownUnit = omega arith
refusal_some OtherDimensions = omega arith
refusal_some NoFraction = omega arith
refusal_some LargeFraction = omega arith
refusal_some NoForm = omega arith
refusal_some LongResult = omega arith
refusal_some ShortBuffer = omega arith
refusal_some BadLine = omega arith
refusal_some AfterTheEnd = omega arith

-- the number of an accepted reading
pub accepted_number : {n : ℕ} {s : List ℕ} {c : Content} {a : Answer} → AcceptedReading n s c a → (reading n s).number ≡ 0
unfolding reading_in
accepted_number w = sym (ap (λ (u : spec.Reading). u.number) w.is)

-- "A refused reading has no terms, k = 0, no dimensions, scale 1 and all verdicts no."
pub refused_whole : (n : ℕ) (s : List ℕ) (e : Refusal) → number_of e ≡ (reading n s).number → reading n s ≡ refusal (number_of e)
refused_whole n s e h = let l : 1 ≤ number_of e = omega (arith, refusal_some e) in refused_reading ((number_refused n s (number_of e) l).0 (sym h))

-- WHAT THE CONTENT HOLDS

every_base : (n : ℕ) (s : List ℕ) (c : spec.Checked) → length (answered n s c).dimensions ≡ 32
unfolding answered refusal reading_of dimensions_of up_to
every_base n s (spec.refuse i) = refl
every_base n s (spec.accept v) = refl

module _ {n : ℕ} {s : List ℕ} {c : Content} {a : Answer} (w : AcceptedReading n s c a) where
  -- term i of the reading, by the content
  pub term_read : (i : ℕ) (d : spec.Term) → i < count c.terms → get_or (reading n s).terms i d ≡ term_in s c.terms c.symbols i
  unfolding reading_in
  term_read i d h = ap (λ (u : spec.Reading). get_or u.terms i d) (sym w.is) ∙ nth_term s c.terms c.symbols (count c.terms) i d h

  pub dimensions_room : length c.sums.bases ≡ 32
  unfolding reading reading_in
  dimensions_room = sym (length-map c.sums.bases exponent) ∙ ap (λ (u : spec.Reading). length u.dimensions) w.is ∙ every_base n s (checked n s)
