-- Words heard back: a word says one thing, and joined_words words come apart.
use Prim.Native.Nat.{ℕ, suc, ◌≤◌, ◌<◌}
use native.Mathlib.Omega.{arith}
use native.Mathlib.Decide.{ℕ_discrete}
use mathlib.Core.Path.{◌≡◌, refl, ap, sym, ◌∙◌}
use mathlib.Core.Bool.{Bool, true, false, ◌&&◌, not}
use mathlib.Core.List.{List, [], ◌∷◌, ◌++◌, map}
use mathlib.Core.Logic.{inl, inr}
use lib.Dec.{T, eqb, leb, leb→le}
use lib.ListN.{length, get_or, length-append}
use Rattle.label.specs.Bytes.{space, letter, digit, all, run, past, same}
use Rattle.label.specs.Lexical.{Unsigned}
use Rattle.label.specs.Limits.{number}
use Rattle.label.specs.Meaning.{◌∈◌}
use Rattle.label.specs.Prefixes.{prefixes}
use Rattle.label.specs.Units.{units}
use Rattle.label.specs.Writing.{figures}
use Rattle.label.specs.Words.{Word, spoken_prefixes, spoken_units, reserved_words, spaced_words, joined_words}
use Rattle.label.proofs.Basics.{both, T_and, T→true, true→T, all_below, at_below, differs, digit_no_letter, letter_no_digit, nonzero_digit, Stops, run_of, past_of}
use Rattle.label.proofs.Figures.{figures_of}
use Rattle.label.proofs.Texts.{all_weaker}
use Rattle.claims.specs.Claims.{word_byte, PlainWord}
use Rattle.claims.proofs.SpokenSamples.{words_compute}

-- WHAT A WORD SAYS

-- a reserved word, a prefix or a unit, by its place in its table; a letter; a number
pub data Said : Type 0 where
  reserved prefix_said unit_said letter_said number_said : ℕ → Said
  deriving Discrete as said_discrete

unfoldable pub spell : Said → Word
spell (reserved i) = get_or reserved_words i []
spell (prefix_said i) = get_or spoken_prefixes i []
spell (unit_said u) = get_or spoken_units u []
spell (letter_said c) = c ∷ []
spell (number_said n) = figures n

-- HEARING A WORD

-- what w says if it is one of some names, i being the number of the first; x if it is none of them
unfoldable pub hear_among : (ℕ → Said) → ℕ → List Word → Said → Word → Said
hear_among f i [] x w = x
hear_among f i (v ∷ vs) x w = elim (same w v) [ true ↦ f i | false ↦ hear_among f (suc i) vs x w ]

unfoldable pub hear_name : Word → Said
hear_name w =
    hear_among reserved 0 reserved_words (hear_among prefix_said 0 spoken_prefixes (hear_among unit_said 0 spoken_units (letter_said 0) w) w) w

-- a letter or a name
unfoldable pub hear_text : Word → Said
hear_text [] = letter_said 0
hear_text (c ∷ []) = letter_said c
hear_text (c ∷ d ∷ w) = hear_name (c ∷ d ∷ w)

-- digits or not, by the first byte
unfoldable pub hear_by : Bool → Word → Said
hear_by true w = number_said (number w)
hear_by false w = hear_text w

unfoldable pub hear : Word → Said
hear [] = letter_said 0
hear (c ∷ w) = hear_by (digit c) (c ∷ w)

-- a plain word that is heard as what it says
pub record Audible (x : Said) : Type 0 where
  pub heard : hear (spell x) ≡ x
  pub plain : PlainWord (spell x)

pub data AllAudible : List Said → Type 0 where
  done : AllAudible []
  also : {x : Said} {xs : List Said} → Audible x → AllAudible xs → AllAudible (x ∷ xs)

-- NAMES

abbrev is_yes : {x y : Said} → Dec (x ≡ y) → Bool
is_yes (yes e) = true
is_yes (no e) = false

yes_is : {x y : Said} (d : Dec (x ≡ y)) → T (is_yes d) → x ≡ y
yes_is (yes e) t = e
yes_is {y = y} (no _) t = elim t [ ]

-- the test of a word that is in a table
unfoldable is_audible : Said → Bool
is_audible x = is_yes (said_discrete ℕ_discrete (hear (spell x)) x) && (leb 1 (length (spell x)) && all word_byte (spell x))

passed_audible : (x : Said) → is_audible x ≡ true → Audible x
unfolding is_audible
passed_audible x e =
    let v = both (is_yes (said_discrete ℕ_discrete (hear (spell x)) x)) (leb 1 (length (spell x)) && all word_byte (spell x)) (true→T e) in
    let w = both (leb 1 (length (spell x))) (all word_byte (spell x)) v.1 in
    record { heard = yes_is (said_discrete ℕ_discrete (hear (spell x)) x) v.0; plain = record { some = leb→le 1 (length (spell x)) w.0; plain = w.1 } }

-- to unfold this is to unfold the test
unfoldable hearing_computes : Unit {0}
unfolding words_compute all_below is_audible spell hear hear_by hear_text hear_name hear_among word_byte ℕ_discrete
hearing_computes = tt

audible_below : (f : ℕ → Said) (n : ℕ) → all_below (λ i. is_audible (f i)) n ≡ true → (i : ℕ) → i < n → Audible (f i)
audible_below f n e i h = passed_audible (f i) (at_below (λ i. is_audible (f i)) n e i h)

pub reserved_audible : (i : ℕ) → i < 7 → Audible (reserved i)
unfolding hearing_computes
reserved_audible = audible_below reserved 7 refl

pub prefix_audible : (i : ℕ) → i < length prefixes → Audible (prefix_said i)
unfolding hearing_computes
prefix_audible = audible_below prefix_said (length prefixes) refl

pub unit_audible : (u : ℕ) → u < length units → Audible (unit_said u)
unfolding hearing_computes
unit_audible = audible_below unit_said (length units) refl

-- LETTERS AND NUMBERS

letter_word : (c : ℕ) → T (letter c) → T (word_byte c)
unfolding word_byte
letter_word c t = rw (T→true (letter c) t) tt

digit_word : (c : ℕ) → T (digit c) → T (word_byte c)
unfolding word_byte
digit_word c t = rw (digit_no_letter c t) t

pub letter_audible : (c : ℕ) → T (letter c) → Audible (letter_said c)
unfolding spell hear hear_by hear_text all
letter_audible c t = record {
  heard = rw (letter_no_digit c t);
  plain = record { some = omega arith; plain = T_and (word_byte c) true (letter_word c t) tt };
}

digits_heard : {n : ℕ} {w : Word} → Unsigned w → number w ≡ n → (hear w ≡ number_said n) × PlainWord w
unfolding hear hear_by all
digits_heard (Unsigned.unsigned {c = c} {s = s} t a) e =
    let d = nonzero_digit c t in
    (rw d (ap number_said e), record { some = omega arith; plain = T_and (word_byte c) (all word_byte s) (digit_word c (true→T d)) (all_weaker digit word_byte digit_word s a) })

pub number_audible : (n : ℕ) → 1 ≤ n → n < 10_000 → Audible (number_said n)
unfolding spell
number_audible n h g =
    let d = figures_of n h g in
    let w = digits_heard d.unsigned d.value in
    record { heard = w.0; plain = w.1 }

-- JOINED WORDS COME APART

abbrev is_no_space : ℕ → Bool
is_no_space c = not (eqb c space)

audible_unspaced : {x : Said} → Audible x → T (all is_no_space (spell x))
unfolding word_byte letter digit
audible_unspaced {x} a = all_weaker word_byte is_no_space (λ c t. rw (differs word_byte c space t refl) tt) (spell x) a.plain.plain

spaces_stop : (ws : List Word) → Stops is_no_space (spaced_words ws)
unfolding spaced_words
spaces_stop [] = Stops.end
spaces_stop (w ∷ ws) = Stops.other refl

module _ {x y : Said} (ws vs : List Word) (a : Audible x) (b : Audible y) (e : spell x ++ spaced_words ws ≡ spell y ++ spaced_words vs) where
  first_heard : x ≡ y
  first_heard =
      let p = run_of is_no_space (spell x) (spaced_words ws) (audible_unspaced a) (spaces_stop ws) in
      let q = run_of is_no_space (spell y) (spaced_words vs) (audible_unspaced b) (spaces_stop vs) in
      sym a.heard ∙ ap hear (sym p ∙ ap (run is_no_space) e ∙ q) ∙ b.heard

  further_words : spaced_words ws ≡ spaced_words vs
  further_words =
      let p = past_of is_no_space (spell x) (spaced_words ws) (audible_unspaced a) (spaces_stop ws) in
      let q = past_of is_no_space (spell y) (spaced_words vs) (audible_unspaced b) (spaces_stop vs) in
      sym p ∙ ap (past is_no_space) e ∙ q

empty_full : {c : ℕ} {s : List ℕ} → [] ≡ c ∷ s → ⊥
empty_full e = omega (arith, ap length e)

spaced_apart : {xs ys : List Said} → AllAudible xs → AllAudible ys → spaced_words (map spell xs) ≡ spaced_words (map spell ys) → xs ≡ ys
unfolding spaced_words
spaced_apart AllAudible.done AllAudible.done e = refl
spaced_apart AllAudible.done (AllAudible.also b bs) e = absurd (empty_full e)
spaced_apart (AllAudible.also a us) AllAudible.done e = absurd (empty_full (sym e))
spaced_apart (AllAudible.also {x = x} {xs = xs} a us) (AllAudible.also {x = y} {xs = ys} b bs) e =
    let q : spell x ++ spaced_words (map spell xs) ≡ spell y ++ spaced_words (map spell ys) = cc in
    cc (first_heard (map spell xs) (map spell ys) a b q, spaced_apart us bs (further_words (map spell xs) (map spell ys) a b q))

never_joined : {x : Said} (ws : List Word) → Audible x → [] ≡ spell x ++ spaced_words ws → ⊥
never_joined {x} ws a e = omega (arith, a.plain.some, ap length e, length-append (spell x) (spaced_words ws))

pub joined_apart : {xs ys : List Said} → AllAudible xs → AllAudible ys → joined_words (map spell xs) ≡ joined_words (map spell ys) → xs ≡ ys
unfolding joined_words spaced_words
joined_apart AllAudible.done AllAudible.done e = refl
joined_apart AllAudible.done (AllAudible.also {xs = ys} b bs) e = absurd (never_joined (map spell ys) b e)
joined_apart (AllAudible.also {xs = xs} a us) AllAudible.done e = absurd (never_joined (map spell xs) a (sym e))
joined_apart (AllAudible.also a us) (AllAudible.also b bs) e = spaced_apart (AllAudible.also a us) (AllAudible.also b bs) (ap (λ (l : List ℕ). space ∷ l) e)

-- every word is plain
pub all_plain : {xs : List Said} → AllAudible xs → (w : Word) → w ∈ map spell xs → PlainWord w
all_plain (AllAudible.also a us) w (inl e) = rw e a.plain
all_plain (AllAudible.also a us) w (inr h) = all_plain us w h
all_plain done w f = elim f [ ]
