-- What the answer and the lent content of a reading stand for.
use Rattle.std.specs.Prelude.{ℕ, List, map}
use Rattle.label.specs.Reading.{exponent}
use Rattle.label.specs.Reading as spec
use Rattle.descent.specs.Terms.{count}
use Rattle.content.specs.Views.{terms_in, scale_in}
use Rattle.reading.specs.declared.read.Answer.{Answer}
use Rattle.reading.specs.declared.read.Content.{Content}

-- an accepted reading of the label s
unfoldable pub reading_in : List ℕ → Content → Answer → spec.Reading
reading_in s c a = record {
  number = 0;
  k = a.k;
  terms = terms_in s c.terms c.symbols (count c.terms);
  known = a.verdicts.known;
  lawful = a.verdicts.lawful;
  recommended = a.verdicts.recommended;
  dimensions = map exponent c.sums.bases;
  scale = scale_in c.sums.primes;
}
