-- One grammar with the rules as a parameter: a tool of the proofs. Each notation's grammar is an instance of it (proofs/Instances.antt),
-- and the instance with every rule holds every notation.
use Prim.Native.Nat.{ℕ}
use mathlib.Core.Bool.{not}
use mathlib.Core.List.{List, [], ◌∷◌, ◌++◌}
use lib.Dec.{T}
use Rattle.label.specs.declared.Rules.{Rules}
use Rattle.label.specs.Bytes.{space as space_byte, percent as percent_byte, open_bracket, close_bracket, star as star_byte, point as point_byte, slash, caret as caret_byte, digit_zero, digit_one}
use Rattle.label.specs.Lexical.{Numeral, Written, unwritten, whole, Factor, no_factor, ten_to, zeros, Part, part, turned_all, Kind, item, more, product, quotient, Letters, Quoted, Integer, Signed, Bracketed, Power, Plain, Spaces}
use Rattle.label.specs.Ogip.{Unspaced}
use Rattle.label.specs.Parse.{inside}

pub data SpellingBy (r : Rules) : List ℕ → Type 0 where
  letters : {l : List ℕ} → Letters l → SpellingBy r l
  percent : T r.percent → SpellingBy r (percent_byte ∷ [])
  quoted : {l : List ℕ} → T r.quotes → Quoted l → SpellingBy r l

pub data ExponentBy (r : Rules) : List ℕ → Written → Type 0 where
  none : ExponentBy r [] unwritten
  integer : {e : List ℕ} {n : Numeral} → T r.direct → Integer e n → ExponentBy r e (whole n)
  bracketed : {e : List ℕ} {w : Written} → T r.brackets → Bracketed e w → ExponentBy r e w
  stars : {e : List ℕ} {w : Written} → T r.stars → Power e w → ExponentBy r (star_byte ∷ star_byte ∷ e) w
  caret : {e : List ℕ} {w : Written} → T r.caret → Power e w → ExponentBy r (caret_byte ∷ e) w

-- spaces around a star, a point or a slash, or after a space that joins
pub data Pad (r : Rules) : List ℕ → Type 0 where
  none : Pad r []
  space : {s : List ℕ} → T r.spaces → Pad r s → Pad r (space_byte ∷ s)

pub data TimesBy (r : Rules) : List ℕ → Type 0 where
  space : {a : List ℕ} → T r.space → Pad r a → TimesBy r (space_byte ∷ a)
  star : {a b : List ℕ} → T r.star → Pad r a → Pad r b → TimesBy r (a ++ star_byte ∷ b)
  point : {a b : List ℕ} → T r.point → Pad r a → Pad r b → TimesBy r (a ++ point_byte ∷ b)

pub data OverBy (r : Rules) : List ℕ → Type 0 where
  slashed : {a b : List ℕ} → T r.each → Pad r a → Pad r b → OverBy r (a ++ slash ∷ b)

-- G r x s t ps: by the rules r the text s begins with an x, which ends where t begins, and ps are its units.
pub data G (r : Rules) : Kind → List ℕ → List ℕ → List Part → Type 0 where
  unit : {l e t : List ℕ} {w : Written} → SpellingBy r l → ExponentBy r e w → G r item (l ++ (e ++ t)) t (part l w (e ++ t) ∷ [])
  group : {s t : List ℕ} {ps : List Part} → G r (inside r) s (close_bracket ∷ t) ps → G r item (open_bracket ∷ s) t ps
  first : {s t u : List ℕ} {ps qs : List Part} → G r item s t ps → G r more t u qs → G r product s u (ps ++ qs)
  under : {j s t u : List ℕ} {ps qs : List Part} → OverBy r j → G r item s t ps → G r more t u qs → G r product (j ++ s) u (turned_all ps ++ qs)
  done : {s : List ℕ} → G r more s s []
  times : {j s t u : List ℕ} {ps qs : List Part} → TimesBy r j → G r item s t ps → G r more t u qs → G r more (j ++ s) u (ps ++ qs)
  over : {j s t u : List ℕ} {ps qs : List Part} → OverBy r j → G r item s t ps → G r more t u qs → G r more (j ++ s) u (turned_all ps ++ qs)
  plain : {s t : List ℕ} {ps : List Part} → G r product s t ps → G r quotient s t ps
  divided : {s t u : List ℕ} {ps qs : List Part} → T (not r.each) → G r product s (slash ∷ t) ps → G r item t u qs → G r quotient s u (ps ++ turned_all qs)

pub data WrappedBy (r : Rules) : List ℕ → Numeral → Type 0 where
  bare : {s : List ℕ} {n : Numeral} → Integer s n → WrappedBy r s n
  bracketed : {s : List ℕ} {n : Numeral} → T r.wrapped → Integer s n → WrappedBy r (open_bracket ∷ s ++ close_bracket ∷ []) n

pub data FactorBy (r : Rules) : List ℕ → Factor → Type 0 where
  stars : {e : List ℕ} {n : Numeral} → WrappedBy r e n → FactorBy r (digit_one ∷ digit_zero ∷ star_byte ∷ star_byte ∷ e) (ten_to n)
  caret : {e : List ℕ} {n : Numeral} → T r.caret → WrappedBy r e n → FactorBy r (digit_one ∷ digit_zero ∷ caret_byte ∷ e) (ten_to n)
  signed : {e : List ℕ} {n : Numeral} → T r.signed → Signed e n → FactorBy r (digit_one ∷ digit_zero ∷ e) (ten_to n)
  plain : {x : List ℕ} {k : ℕ} → T r.plain → Plain x k → FactorBy r x (zeros k)

pub data GapBy (r : Rules) : List ℕ → Type 0 where
  nothing : GapBy r []
  one : T r.space → GapBy r (space_byte ∷ [])
  many : {g : List ℕ} → T r.spaces → Spaces g → GapBy r g

pub data LabelBy (r : Rules) : List ℕ → Factor → List Part → Type 0 where
  empty : LabelBy r [] no_factor []
  plain : {s : List ℕ} {ps : List Part} → Unspaced s → G r quotient s [] ps → LabelBy r s no_factor ps
  under : {s : List ℕ} {ps : List Part} → T r.lead → G r item s [] ps → LabelBy r (slash ∷ s) no_factor (turned_all ps)
  factored : {x g s : List ℕ} {f : Factor} {ps : List Part} → T r.factor → FactorBy r x f → GapBy r g → G r quotient s [] ps → LabelBy r (x ++ (g ++ s)) f ps

-- a product, where each slash joins: nothing is divided by a last item alone
abbrev pub flat : Kind → Kind
flat item = item
flat more = more
flat product = product
flat quotient = product
