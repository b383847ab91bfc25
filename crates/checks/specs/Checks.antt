-- What the functions over the limits find.
use Rattle.std.specs.Prelude.{ℕ, ◌≤◌, ◌≡◌, List, map, length, Result, Ok, Err, OnOk}
use Rattle.label.specs.declared.Refusal.{Refusal}
use Rattle.label.specs.declared.Tens.{Tens}
use Rattle.label.specs.declared.WrittenFactor.{WrittenFactor}
use Rattle.label.specs.Refusals.{number_of}
use Rattle.label.specs.Lexical.{Part}
use Rattle.label.specs.Ranges.{factor_in}
use Rattle.label.specs.Split.{Placed, valued}
use Rattle.label.specs.Reading.{refuse, accept, check_values, checked}
use Rattle.label.specs.Reading as spec
use Rattle.label.specs.Limits.{most_terms, most_bytes}
use Rattle.descent.specs.declared.terms.Terms.{Terms}
use Rattle.descent.specs.Terms.{count, broken, terms, placed_in, AllIn, HoldsUnits}

-- the units that the terms stand for
abbrev pub units_in : List ℕ → Terms → List Placed
units_in s t = map (placed_in s) (terms t (count t))

-- values, or the number of a refusal
abbrev pub checked_by : Result Tens Refusal → List Placed → spec.Checked
checked_by (Ok k) us = accept (record { k = k; units = us })
checked_by (Err e) us = refuse (number_of e)

-- a label with the factor w and n terms that are in the grammar; m is 0 unless a power breaks its bound
pub record ChecksValues (s : List ℕ) (w : WrittenFactor) (n m : ℕ) (r : Result Tens Refusal) : Type 0 where
  pub is : (t : Terms) (ps : List Part) → count t ≡ n → broken t ≡ m → HoldsUnits s t ps
      → check_values s (valued (factor_in s w) ps) ≡ checked_by r (units_in s t)
  pub few : OnOk r (n ≤ most_terms)

-- the terms t are the label's where it is accepted
pub record Checks (n : ℕ) (s : List ℕ) (t : Terms) (r : Result Tens Refusal) : Type 0 where
  pub is : checked n s ≡ checked_by r (units_in s t)
  pub small : OnOk r (n ≤ most_bytes)
  pub short : OnOk r (length s ≤ most_bytes)
  pub few : OnOk r (count t ≤ most_terms)
  pub inside : OnOk r (AllIn s (terms t (count t)))
