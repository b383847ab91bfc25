-- The reading of a text by rules, as a function: recursive descent, with fuel. It computes the grammars; it does not define them.
use Rattle.std.specs.Prelude.{ℕ, zero, suc, ◌+◌, ◌*◌, ◌-◌, Bool, true, false, ◌&&◌, ◌||◌, not, List, [], ◌∷◌, ◌++◌, eqb, length}
use Rattle.std.proofs.Math.Option.{Option, none as nothing, some}
use Rattle.label.specs.declared.Rules.{Rules}
use Rattle.label.specs.Bytes.{space, percent, quote, open_bracket, close_bracket, star, plus, minus, point, slash, caret, digit_zero, digit_one, letter, digit, nonzero, all, run, past}
use Rattle.label.specs.Choice.{pick}
use Rattle.label.specs.Prefixes.{prefix_name}
use Rattle.label.specs.Rows.{rules_of}
use Rattle.label.specs.Lexical.{Numeral, Written, unwritten, whole, decimal, fraction, Factor, no_factor, ten_to, zeros, Part, Kind, item, more, product, quotient}

-- what is found at the start of a text, with what follows it; or nothing
pub data Found (A : Type 0) : Type 0 where
  none : Found A
  found : A → List ℕ → Found A

-- one thing, then another
unfoldable pub then : {A B : Type 0} → Found A → (A → List ℕ → Found B) → Found B
then none f = none
then (found a s) f = f a s

unfoldable pub mapped : {A B : Type 0} → (A → B) → Found A → Found B
mapped f none = none
mapped f (found a s) = found (f a) s

-- the byte c
unfoldable pub byte : {A : Type 0} → ℕ → A → List ℕ → Found A
byte c a [] = none
byte c a (d ∷ s) = pick (eqb d c) (found a s) none

-- NUMBERS

-- a digit 1 to 9, further digits
unfoldable pub unsigned : List ℕ → Found (List ℕ)
unsigned [] = none
unsigned (c ∷ s) = pick (nonzero c) (found (c ∷ run digit s) (past digit s)) none

-- one or more digits
unfoldable pub digits : List ℕ → Found (List ℕ)
digits [] = none
digits (c ∷ s) = pick (digit c) (found (c ∷ run digit s) (past digit s)) none

abbrev pub numeral : Bool → List ℕ → Numeral
numeral b ds = record { negative = b; digits = ds }

-- what f finds after a plus, a minus or neither; f is told whether it is a minus
unfoldable pub after_sign : {A : Type 0} → (Bool → List ℕ → Found A) → List ℕ → Found A
after_sign f [] = f false []
after_sign f (c ∷ s) = pick (eqb c minus) (f true s) (pick (eqb c plus) (f false s) (f false (c ∷ s)))

unfoldable pub integer : List ℕ → Found Numeral
integer s = after_sign (λ b t. mapped (numeral b) (unsigned t)) s

-- POWERS

-- a value, then a closing bracket
unfoldable pub closed : {A B : Type 0} → (A → B) → Found A → Found B
closed f x = then x (λ a s. byte close_bracket (f a) s)

-- what follows the digits before a decimal's point: the point, digits, the closing bracket
unfoldable pub pointed : Numeral → List ℕ → Found Written
pointed n [] = none
pointed n (c ∷ s) = pick (eqb c point) (closed (decimal n) (digits s)) none

-- what follows the integer of a power in brackets
unfoldable pub bracketed_on : Numeral → List ℕ → Found Written
bracketed_on n [] = none
bracketed_on n (c ∷ s) =
    pick (eqb c close_bracket) (found (whole n) s)
    (pick (eqb c slash) (closed (fraction n) (unsigned s)) (pointed n (c ∷ s)))

-- a decimal that a single 0 begins, from after its sign
unfoldable pub below_one : Bool → List ℕ → Found Written
below_one b s = then (byte digit_zero (numeral b (digit_zero ∷ [])) s) pointed

-- what follows the integer of a power in brackets, or d where there is none
unfoldable pub bracketed_or : Found Written → Found Numeral → Found Written
bracketed_or d none = d
bracketed_or d (found n s) = bracketed_on n s

-- a power in brackets, from after the opening one
unfoldable pub bracketed : List ℕ → Found Written
bracketed s = bracketed_or (after_sign below_one s) (integer s)

unfoldable pub power : List ℕ → Found Written
power [] = none
power (c ∷ s) = pick (eqb c open_bracket) (bracketed s) (mapped whole (integer (c ∷ s)))

abbrev pub sign : ℕ → Bool
sign c = eqb c plus || eqb c minus

-- two stars and a power, or no power, after the first star of the text w
unfoldable pub starred : List ℕ → List ℕ → Found Written
starred w [] = found unwritten w
starred w (c ∷ s) = pick (eqb c star) (power s) (found unwritten w)

-- the power after a spelling, if any
unfoldable pub exponent : Rules → List ℕ → Found Written
exponent r [] = found unwritten []
exponent r (c ∷ s) =
    pick ((sign c || digit c) && r.direct) (mapped whole (integer (c ∷ s)))
    (pick (eqb c open_bracket && r.brackets) (bracketed s)
    (pick (eqb c caret && r.caret) (power s)
    (pick (eqb c star && r.stars) (starred (c ∷ s) s)
    (found unwritten (c ∷ s)))))

-- SPELLINGS AND UNITS

-- letters l and a closing quote, after the prefix name p and the first quote
unfoldable pub quoted_on : List ℕ → List ℕ → List ℕ → Found (List ℕ)
quoted_on p [] s = none
quoted_on p (c ∷ l) s = byte quote (p ++ quote ∷ c ∷ l ++ quote ∷ []) s

unfoldable pub quoted : List ℕ → List ℕ → Found (List ℕ)
quoted p s = quoted_on p (run letter s) (past letter s)

-- the letters l, or a quoted spelling that they begin
unfoldable pub lettered : Rules → List ℕ → List ℕ → Found (List ℕ)
lettered r l [] = found l []
lettered r l (c ∷ s) = pick (eqb c quote && r.quotes) (pick (prefix_name l) (quoted l s) none) (found l (c ∷ s))

unfoldable pub spelling : Rules → List ℕ → Found (List ℕ)
spelling r [] = none
spelling r (c ∷ s) =
    pick (letter c) (lettered r (run letter (c ∷ s)) (past letter (c ∷ s)))
    (pick (eqb c percent && r.percent) (found (c ∷ []) s)
    (pick (eqb c quote && r.quotes) (quoted [] s) none))

-- a spelling and its power. b says whether slashes turn the sign.
unfoldable pub unit : Rules → Bool → List ℕ → Found (List Part)
unit r b s = then (spelling r s) (λ l t. mapped (λ w. record { spelling = l; power = w; turned = b; left = length s } ∷ []) (exponent r t))

-- WHAT STANDS BETWEEN UNITS

-- any number of spaces, where spaces may be around a star or a slash
unfoldable pub padded : Rules → List ℕ → List ℕ
padded r s = pick r.spaces (past (λ c. eqb c space) s) s

-- nothing that joins; or something that joins, and the text after it
pub data Joint : Type 0 where
  stop : Joint
  times : List ℕ → Joint
  over : List ℕ → Joint

unfoldable pub spaced : Rules → List ℕ → Joint
spaced r [] = stop
spaced r (c ∷ s) = pick (eqb c space && r.space) (times (padded r s)) stop

-- s is the text, and the last argument is s after its spaces
unfoldable pub joint_at : Rules → List ℕ → List ℕ → Joint
joint_at r s [] = stop
joint_at r s (c ∷ u) =
    pick ((eqb c star && r.star) || (eqb c point && r.point)) (times (padded r u))
    (pick (eqb c slash && r.each) (over (padded r u)) (spaced r s))

unfoldable pub joint : Rules → List ℕ → Joint
joint r s = joint_at r s (padded r s)

-- a slash that leads a product, and the text after it
unfoldable pub leading_at : Rules → List ℕ → Option (List ℕ)
leading_at r [] = nothing
leading_at r (c ∷ s) = pick (eqb c slash && r.each) (some (padded r s)) nothing

unfoldable pub leading : Rules → List ℕ → Option (List ℕ)
leading r s = leading_at r (padded r s)

-- PRODUCTS AND GROUPS

unfoldable pub appended : {A : Type 0} → List A → Found (List A) → Found (List A)
appended ps x = mapped (λ qs. ps ++ qs) x

-- an item, then what follows it
unfoldable pub chained : Found (List Part) → (List ℕ → Found (List Part)) → Found (List Part)
chained x f = then x (λ ps s. appended ps (f s))

unfoldable pub item_at : Bool → Rules → Bool → (List ℕ → Found (List Part)) → List ℕ → List ℕ → Found (List Part)
item_at true r b f s t = closed (λ ps. ps) (f t)
item_at false r b f s t = unit r b s

-- a group, whose inside f reads, or a unit
unfoldable pub item_by : Rules → Bool → (List ℕ → Found (List Part)) → List ℕ → Found (List Part)
item_by r b f [] = none
item_by r b f (c ∷ s) = item_at (eqb c open_bracket) r b f (c ∷ s) s

-- what follows an item under the sign b. f reads an item under a sign, g what follows it.
unfoldable pub more_at : Joint → Bool → (Bool → List ℕ → Found (List Part)) → (Bool → List ℕ → Found (List Part)) → List ℕ → Found (List Part)
more_at stop b f g s = found [] s
more_at (times t) b f g s = chained (f b t) (g b)
more_at (over t) b f g s = chained (f (not b) t) (g b)

unfoldable pub product_at : Option (List ℕ) → Bool → (Bool → List ℕ → Found (List Part)) → (Bool → List ℕ → Found (List Part)) → List ℕ → Found (List Part)
product_at (some t) b f g s = chained (f (not b) t) (g b)
product_at nothing b f g s = chained (f b s) (g b)

-- the one slash that may come after a product, where not each slash joins, and the item under it
unfoldable pub quotient_on : Rules → (List ℕ → Found (List Part)) → List Part → List ℕ → Found (List Part)
quotient_on r f ps [] = found ps []
quotient_on r f ps (c ∷ s) = pick (eqb c slash && not r.each) (appended ps (f s)) (found ps (c ∷ s))

-- what a group holds
abbrev pub inside : Rules → Kind
inside r = pick r.within quotient product

unfoldable pub read : Rules → ℕ → Kind → Bool → List ℕ → Found (List Part)
read r zero x b s = none
read r (suc k) item b s = item_by r b (λ u. read r k (inside r) b u) s
read r (suc k) more b s = more_at (joint r s) b (λ d u. read r k item d u) (λ d u. read r k more d u) s
read r (suc k) product b s = product_at (leading r s) b (λ d u. read r k item d u) (λ d u. read r k more d u) s
read r (suc k) quotient b s = then (read r k product b s) (λ ps t. quotient_on r (λ u. read r k item (not b) u) ps t)

-- FACTORS

-- 1 and zeros
unfoldable pub plain_digits : List ℕ → Bool
plain_digits [] = false
plain_digits (c ∷ s) = eqb c digit_one && all (λ d. eqb d digit_zero) s

unfoldable pub plain_factor : Rules → List ℕ → List ℕ → Found Factor
plain_factor r ds s = pick (plain_digits ds && r.plain) (found (zeros (length ds - 1)) s) none

-- an integer, bare or in brackets
unfoldable pub wrapped : Rules → List ℕ → Found Factor
wrapped r [] = none
wrapped r (c ∷ s) = pick (eqb c open_bracket && r.wrapped) (closed ten_to (integer s)) (mapped ten_to (integer (c ∷ s)))

-- after the first of two stars
unfoldable pub starred_factor : Rules → List ℕ → Found Factor
starred_factor r [] = none
starred_factor r (c ∷ s) = pick (eqb c star) (wrapped r s) none

unfoldable pub ten_factor : Rules → List ℕ → List ℕ → Found Factor
ten_factor r ds [] = plain_factor r ds []
ten_factor r ds (c ∷ s) =
    pick (sign c && r.signed) (mapped ten_to (integer (c ∷ s)))
    (pick (eqb c caret && r.caret) (wrapped r s)
    (pick (eqb c star) (starred_factor r s)
    (plain_factor r ds (c ∷ s))))

-- the digits 10
unfoldable pub ten : List ℕ → Bool
ten [] = false
ten (c ∷ []) = false
ten (c ∷ d ∷ []) = eqb c digit_one && eqb d digit_zero
ten (c ∷ d ∷ e ∷ s) = false

-- the factor that a digit begins
unfoldable pub factor : Rules → List ℕ → Found Factor
factor r s = pick (ten (run digit s)) (ten_factor r (run digit s) (past digit s)) (plain_factor r (run digit s) (past digit s))

-- THE WHOLE LABEL

-- not in the grammar; or the factor and the units
pub data Parsed : Type 0 where
  refused : Parsed
  parsed : Factor → List Part → Parsed

-- the text ends here
unfoldable pub ended : Factor → Found (List Part) → Parsed
ended f none = refused
ended f (found ps []) = parsed f ps
ended f (found ps (c ∷ s)) = refused

unfoldable pub one_space : List ℕ → List ℕ
one_space [] = []
one_space (c ∷ s) = pick (eqb c space) s (c ∷ s)

-- what may be between the factor and the first unit
unfoldable pub gap : Rules → List ℕ → List ℕ
gap r s = pick r.spaces (past (λ c. eqb c space) s) (pick r.space (one_space s) s)

unfoldable pub factored : (List ℕ → Found (List Part)) → Rules → Found Factor → Parsed
factored f r none = refused
factored f r (found x s) = ended x (f (gap r s))

-- f reads an item under a slash, g a product, perhaps over one item
unfoldable pub label_by : (List ℕ → Found (List Part)) → (List ℕ → Found (List Part)) → Rules → List ℕ → Parsed
label_by f g r [] = parsed no_factor []
label_by f g r (c ∷ s) =
    pick (eqb c space) refused
    (pick (digit c && r.factor) (factored g r (factor r (c ∷ s)))
    (pick (eqb c slash && r.lead) (ended no_factor (f s))
    (ended no_factor (g (c ∷ s)))))

-- three times the bytes left, and three more, is fuel enough
abbrev pub fuel : List ℕ → ℕ
fuel s = 3 * length s + 3

unfoldable pub parse_by : Rules → List ℕ → Parsed
parse_by r s = label_by (λ u. read r (fuel s) item true u) (λ u. read r (fuel s) quotient false u) r s

unfoldable pub parse_with : Option Rules → List ℕ → Parsed
parse_with nothing s = refused
parse_with (some r) s = parse_by r s

-- the factor and the units of a text in notation n, limits not counted
unfoldable pub parse : ℕ → List ℕ → Parsed
parse n s = parse_with (rules_of n) s
