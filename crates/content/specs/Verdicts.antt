-- The three verdicts on the terms of a label.
use Rattle.std.specs.Prelude.{ℕ, ◌≡◌, List}
use Rattle.label.specs.Reading.{Term, every, is_known, is_lawful, is_recommended}
use Rattle.content.specs.declared.verdicts.Verdicts.{Verdicts}

-- the verdicts on the terms in notation n
pub record VerdictsOn (n : ℕ) (ts : List Term) (r : Verdicts) : Type 0 where
  pub known_is : r.known ≡ every is_known ts
  pub lawful_is : r.lawful ≡ every (is_lawful n) ts
  pub recommended_is : r.recommended ≡ every is_recommended ts
