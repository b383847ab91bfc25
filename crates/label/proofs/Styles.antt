-- What a style needs of the rules of its notation, so that what it writes is in the grammar.
use Prim.Native.Nat.{ℕ}
use mathlib.Core.Path.{◌≡◌}
use mathlib.Core.Bool.{Bool, true, false, ◌||◌}
use mathlib.Core.List.{List, ◌++◌}
use lib.Dec.{T}
use Rattle.label.specs.declared.Rules.{Rules}
use Rattle.label.specs.Bytes.{all}
use Rattle.label.specs.Rows.{Style}
use Rattle.label.specs.Lexical.{Numeral, Written, whole, ten_to, Unsigned, Signed, Integer, Bracketed}
use Rattle.label.specs.Writing.{sign_text}
use Rattle.label.proofs.General.{TimesBy, ExponentBy, FactorBy, GapBy}
use Rattle.label.proofs.Texts.{quiet}

-- what the rows of a style and of the rules by which its texts are read say
pub record Agrees (y : Style) (r : Rules) : Type 0 where
  pub quotes : y.quotes ≡ r.quotes
  pub factors : y.factors ≡ r.factor
  pub quiet_joint : T (all quiet y.joint)
  pub quiet_raise : T (all quiet y.raise)
  pub quiet_ten : T (all quiet y.ten)
  pub quiet_gap : T (all quiet y.gap)

-- what a style needs of the rules by which its texts are read
pub record Suits (y : Style) (r : Rules) : Type 0 where
  pub agrees : Agrees y r
  pub joint : TimesBy r y.joint
  pub whole : {s : List ℕ} {n : Numeral} → Integer s n → ExponentBy r (y.raise ++ s) (whole n)
  pub brackets : (y.wrapped || y.fractions) ≡ true → {s : List ℕ} {w : Written} → Bracketed s w → ExponentBy r (y.raise ++ s) w
  pub factor : y.factors ≡ true → (b : Bool) {ds : List ℕ} → Unsigned ds → FactorBy r (y.ten ++ (sign_text y.signed b ++ ds)) (ten_to (record { negative = b; digits = ds }))
  pub gap : GapBy r y.gap

-- an integer without a plus
pub integer_by : (b : Bool) {ds : List ℕ} → Unsigned ds → Integer (sign_text false b ++ ds) (record { negative = b; digits = ds })
integer_by true u = Integer.signed (Signed.negative u)
integer_by false u = Integer.plain u

pub signed_by : (b : Bool) {ds : List ℕ} → Unsigned ds → Signed (sign_text true b ++ ds) (record { negative = b; digits = ds })
signed_by true u = Signed.negative u
signed_by false u = Signed.positive u
