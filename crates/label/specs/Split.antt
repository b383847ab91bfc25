-- The split of a text, and when a notation accepts it or refuses it.
use Rattle.std.specs.Prelude.{ℕ, ◌<◌, ◌≡◌, false, List, [], ◌∷◌, map, length}
use Rattle.std.proofs.Math.Option.{Option, none, some}
use Rattle.label.specs.declared.Exponent.{Exponent}
use Rattle.label.specs.declared.Tens.{Tens}
use Rattle.label.specs.Bytes.{admitted, all}
use Rattle.label.specs.Notations.{notation}
use Rattle.label.specs.Lexical.{Factor, Part}
use Rattle.label.specs.Grammar.{Derives}
use Rattle.label.specs.Limits.{exponent_of, k_of, deepest}

-- THE SPLIT

-- document 01's term: split. "its spellings in text order, each as its bytes, prefix and quotes included; each one's exponent in
-- lowest terms, 1 if none is written, with signs turned as that notation's slashes turn them; and k, 0 without a factor"
pub record Spelled : Type 0 where
  pub spelling : List ℕ
  pub exponent : Exponent

pub record Split : Type 0 where
  pub k : Tens
  pub spellings : List Spelled

-- a unit with its exponent, and the number of the label's bytes from its spelling's first on
pub record Placed : Type 0 where
  pub spelling : List ℕ
  pub exponent : Exponent
  pub left : ℕ

-- a label whose factor and powers keep their bounds
pub record Valued : Type 0 where
  pub k : Tens
  pub units : List Placed

unfoldable pub valued_unit : Part → Option Exponent → Option (List Placed) → Option (List Placed)
valued_unit p none us = none
valued_unit p (some e) none = none
valued_unit p (some e) (some us) = some (record { spelling = p.spelling; exponent = e; left = p.left } ∷ us)

-- the units with their exponents, if all powers keep their bounds
unfoldable pub valued_units : List Part → Option (List Placed)
valued_units [] = some []
valued_units (p ∷ ps) = valued_unit p (exponent_of p.turned p.power) (valued_units ps)

unfoldable pub valued_with : Option Tens → Option (List Placed) → Option Valued
valued_with none us = none
valued_with (some k) none = none
valued_with (some k) (some us) = some (record { k = k; units = us })

-- the values of a factor and of powers, if none of them and no digit run breaks its bound
unfoldable pub valued : Factor → List Part → Option Valued
valued f ps = valued_with (k_of f) (valued_units ps)

abbrev pub spelled : Placed → Spelled
spelled u = record { spelling = u.spelling; exponent = u.exponent }

abbrev pub split_of : Valued → Split
split_of v = record { k = v.k; spellings = map spelled v.units }

-- REFUSALS 1 TO 7

-- "the notation number isn't 1 to 4"; document 02, W3: "1 is given for a number outside 1 to 5"
abbrev pub Condition1 : ℕ → List ℕ → Type 0
Condition1 n s = notation n ≡ false

-- "the text is over 255 bytes"
abbrev pub Condition2 : ℕ → List ℕ → Type 0
Condition2 n s = 255 < length s

-- "a byte lies outside hexadecimal 20 to 7E"
abbrev pub Condition3 : ℕ → List ℕ → Type 0
Condition3 n s = all admitted s ≡ false

-- "the text isn't in the notation's grammar, limits not counted"
abbrev pub Condition4 : ℕ → List ℕ → Type 0
Condition4 n s = (f : Factor) (ps : List Part) → Derives n s f ps → ⊥

-- "a digit run, exponent or factor breaks its bound"
abbrev pub Condition5 : ℕ → List ℕ → Type 0
Condition5 n s = (f : Factor) × (ps : List Part) × Derives n s f ps × (valued f ps ≡ none)

-- "more than 8 brackets are open at once"
abbrev pub Condition6 : ℕ → List ℕ → Type 0
Condition6 n s = 8 < deepest s

-- "more than 32 terms"
abbrev pub Condition7 : ℕ → List ℕ → Type 0
Condition7 n s = (f : Factor) × (ps : List Part) × Derives n s f ps × (32 < length ps)

-- the condition of refusal i
pub data Condition : ℕ → ℕ → List ℕ → Type 0 where
  one : {n : ℕ} {s : List ℕ} → Condition1 n s → Condition 1 n s
  two : {n : ℕ} {s : List ℕ} → Condition2 n s → Condition 2 n s
  three : {n : ℕ} {s : List ℕ} → Condition3 n s → Condition 3 n s
  four : {n : ℕ} {s : List ℕ} → Condition4 n s → Condition 4 n s
  five : {n : ℕ} {s : List ℕ} → Condition5 n s → Condition 5 n s
  six : {n : ℕ} {s : List ℕ} → Condition6 n s → Condition 6 n s
  seven : {n : ℕ} {s : List ℕ} → Condition7 n s → Condition 7 n s

-- refusal i is due: "Given exactly when no earlier one applies and" its condition holds
pub record Refused (i n : ℕ) (s : List ℕ) : Type 0 where
  pub holds : Condition i n s
  pub earliest : (j : ℕ) → j < i → Condition j n s → ⊥

-- ACCEPTANCE

-- "A notation accepts a text exactly when none of 1 to 7 applies to it there." The split is that of the text's derivation.
pub record Accepts (n : ℕ) (s : List ℕ) (x : Split) : Type 0 where
  pub none_applies : (i : ℕ) → Condition i n s → ⊥
  pub factor : Factor
  pub parts : List Part
  pub derived : Derives n s factor parts
  pub values : Valued
  pub within : valued factor parts ≡ some values
  pub is : x ≡ split_of values
