-- The table of spoken names.
use Prim.Native.Nat.{ℕ, suc, ◌+◌, ◌≤◌, ◌<◌}
use native.Mathlib.Omega.{arith}
use mathlib.Core.Path.{◌≡◌, refl, sym, ap, ◌∙◌}
use mathlib.Core.List.{List, [], ◌∷◌, ◌++◌}
use denote.Ref.{Bor}
use lib.ListN.{length, get_or, get_or-map, length-map, get_or-append, get_or-eq_default}
use Rattle.std.specs.Prelude.{Option, Some, None}
use Rattle.std.proofs.lemmas.List.{get_or_default}
use Rattle.label.specs.Bytes.{bytes}
use Rattle.label.specs.Options.{told}
use Rattle.label.specs.Words.{Word, spoken_prefixes, spoken_units, prefix_words}
use Rattle.symbols.specs.Columns.{prefix_count}
use Rattle.words.specs.SpokenNames.{spoken_names, words_of}

-- to unfold this is to unfold the table
unfoldable pub names_compute : Unit {0}
unfolding bytes spoken_prefixes spoken_units
names_compute = tt

prefixes_counted : length spoken_prefixes ≡ prefix_count
unfolding names_compute
prefixes_counted = refl

-- a word of a list, and past its end
pub word_there : (xs : List (Bor (List ℕ))) (i : ℕ) (d : Bor (List ℕ)) → i < length xs → (get_or xs i d).now ≡ get_or (words_of xs) i []
word_there xs i d h =
    sym (get_or-map (λ (b : Bor (List ℕ)). b.now) xs i d) ∙ get_or_default (words_of xs) i d.now [] (rw length-map h)

pub no_word_there : (xs : List (Bor (List ℕ))) (i : ℕ) → length xs ≤ i → [] ≡ get_or (words_of xs) i []
no_word_there xs i h = sym (get_or-eq_default (words_of xs) [] {n = i} (rw length-map h))

-- PREFIXES AND UNITS

pub prefix_unsaid : {p : Option ℕ} → p ≡ None → prefix_words (told p) ≡ []
unfolding prefix_words
prefix_unsaid e = rw e

pub prefix_outside : {p : Option ℕ} (i : ℕ) → p ≡ Some i → prefix_count ≤ i → prefix_words (told p) ≡ [] ∷ []
unfolding prefix_words
prefix_outside i e h = rw e (ap (λ (w : Word). w ∷ []) (get_or-eq_default spoken_prefixes [] {n = i} (rw prefixes_counted h)))

pub prefix_row : {p : Option ℕ} (i : ℕ) → p ≡ Some i → i < prefix_count → prefix_words (told p) ≡ get_or spoken_names i [] ∷ []
unfolding prefix_words
prefix_row i e h = rw e (ap (λ (w : Word). w ∷ []) (sym (get_or-append spoken_prefixes spoken_units [] i (rw prefixes_counted h))))

after_prefixes : (ws vs : List Word) (i : ℕ) → get_or (ws ++ vs) (length ws + i) [] ≡ get_or vs i []
after_prefixes [] vs i = let e : 0 + i ≡ i = omega arith in rw e
after_prefixes (w ∷ ws) vs i = let e : suc (length ws) + i ≡ suc (length ws + i) = omega arith in rw e (after_prefixes ws vs i)

pub unit_row : (u : ℕ) → get_or spoken_units u [] ≡ get_or spoken_names (prefix_count + u) []
unit_row u = sym (after_prefixes spoken_prefixes spoken_units u) ∙ ap (λ (n : ℕ). get_or spoken_names (n + u) []) prefixes_counted
