-- The number that is answered, and what the buffer holds then.
use Prim.Native.Nat.{ℕ, ◌≤◌}
use native.Mathlib.Omega.{arith}
use mathlib.Core.Path.{◌≡◌, refl, ◌∙◌}
use mathlib.Core.List.{List}
use borrow.Author.Tests.{ne_eqb}
use Rattle.label.specs.declared.Refusal.{Refusal}
use Rattle.label.specs.Refusals.{number_of}
use Rattle.label.specs.Reading.{reading}
use Rattle.label.specs.Limits.{most_bytes}
use Rattle.symbols.specs.declared.SymbolAt.{SymbolAt}
use Rattle.symbols.specs.declared.UnitAt.{UnitAt}
use Rattle.symbols.specs.declared.UnitAt.TheVariants.{Known, Unknown}
use Rattle.symbols.specs.Views.{BoundedUnit}
use Rattle.descent.specs.Terms.{count, term_at}
use Rattle.content.specs.Views.{unit_in, letters_end}
use Rattle.content.proofs.Naming.{all_in_at}
use Rattle.reading.specs.declared.read.Answer.{Answer}
use Rattle.reading.specs.declared.read.Content.{Content}
use Rattle.reading.specs.Views.{reading_in}
use Rattle.reading.specs.Answers.{AcceptedReading}
use Rattle.reading.proofs.Answering.{refusal_some, accepted_number}
use Rattle.record.specs.Record.{numbered, record_of, written_over, buffer_after}
use Rattle.record.specs.Recordable.{AllNoted, Recordable}

-- a refusal changes no byte
pub refused : (n : ℕ) (s : List ℕ) (e : Refusal) (b : List ℕ) → number_of e ≡ (reading n s).number → b ≡ buffer_after (reading n s) b
unfolding buffer_after
refused n s e b h = rw (← h, ne_eqb (number_of e) 0 (λ z. absurd (omega (arith, refusal_some e))))

-- the number of an accepted reading is 0
zero_numbered : (s : List ℕ) (c : Content) (a : Answer) → numbered 0 (reading_in s c a) ≡ reading_in s c a
unfolding reading_in
zero_numbered s c a = refl

-- an accepted reading writes its record
pub accepted : {n : ℕ} {s : List ℕ} {c : Content} {a : Answer} → AcceptedReading n s c a → (b : List ℕ) {d : List ℕ}
    → ((s : List ℕ) → AllNoted s c (count c.terms) → d ≡ written_over (record_of (numbered 0 (reading_in s c a))) b) → d ≡ buffer_after (reading n s) b
unfolding buffer_after
accepted {s = s} {c = c} {a = a} w b q = q s (record { noted = w.noted }) ∙ rw (zero_numbered s c a, w.is, accepted_number w)

-- the letters of an unknown unit go up to the end of its term, which is in the label
letters_upto : (x : List SymbolAt) (i : ℕ) (u : UnitAt) (start : ℕ) {end : ℕ} → unit_in x i ≡ u → BoundedUnit start end u → end ≤ most_bytes → letters_end x i ≤ most_bytes
letters_upto x i (Known r) start e b h = rw e (omega arith)
letters_upto x i (Unknown l) start e b h = rw e (omega (arith, b.upto))

pub recordable : {n : ℕ} {s : List ℕ} {c : Content} {a : Answer} → AcceptedReading n s c a → Recordable c
recordable {c = c} w = record {
  few = w.within.few;
  sized = λ i h.
      let a = all_in_at c.terms (count c.terms) i w.within.inside h in
      let l = w.noted i h in
      let short : (term_at c.terms i).end ≤ most_bytes = omega (arith, a.within, w.within.short) in
      record {
        forward = a.forward;
        short = short;
        letters = omega (arith, l.start, l.end);
        upto = letters_upto c.symbols i (unit_in c.symbols i) _ refl (w.bounded i h).unit short;
      };
}
