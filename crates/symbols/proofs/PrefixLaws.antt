-- The search of a prefix: the column has a code for each prefix.
use Prim.Native.Nat.{ℕ, suc, ◌+◌, ◌/◌, ◌%◌, ◌≤◌, ◌<◌}
use native.Mathlib.Omega.{arith}
use mathlib.Core.Option.{none, some}
use mathlib.Core.Path.{◌≡◌, refl, sym, ◌∙◌}
use mathlib.Core.Bool.{Bool, true, false, ◌&&◌}
use mathlib.Core.List.{List, [], ◌∷◌}
use lib.Dec.{T, eqb}
use lib.IntN.{pos}
use lib.ListN.{length, get_or, get_or-map}
use borrow.Author.Tests.{eqb-true}
use Rattle.label.proofs.Basics.{T→true, both}
use Rattle.label.specs.Bytes.{same}
use Rattle.label.specs.Prefixes.{Prefix, prefixes, placed, prefix_named}
use Rattle.symbols.specs.Keys.{most_letters, key_from, key_of, agrees}
use Rattle.symbols.specs.Columns.{prefix_count, prefix_code, prefix_codes}
use Rattle.symbols.proofs.Computing.{columns_compute}
use Rattle.symbols.proofs.KeyLaws.{keyable, long_other, SpellingKey, agrees_spelled}
use Rattle.symbols.proofs.RowLaws.{every, every_at, first, first_none, at_place, Sought, sought_none, sought_all, sought_hit, sought_miss}

-- THE COLUMNS

-- the letters of a prefix have a key of at most two bytes, above which the code has their number
has_key : Prefix → Bool
has_key p =
    keyable p.name
    && (eqb (prefix_code p / 65536) (length p.name) && eqb (prefix_code p % 65536) (key_of p.name))

prefixes_keyed : T (every has_key prefixes)
unfolding every has_key keyable columns_compute
prefixes_keyed = tt

prefixes_count : length prefixes ≡ prefix_count
unfolding columns_compute
prefixes_count = refl

-- what is past the end
unfoldable pub nothing : Prefix
nothing = record { name = []; power = record { 0 = pos 0 } }

nothing_keyed : T (has_key nothing)
unfolding has_key nothing keyable columns_compute
nothing_keyed = tt

unfoldable pub entry : ℕ → Prefix
entry i = get_or prefixes i nothing

module _ (i : ℕ) where
  entry_keyed : T (has_key (entry i))
  unfolding entry
  entry_keyed = every_at has_key prefixes nothing prefixes_keyed nothing_keyed i

  letters_keyed : T (keyable (entry i).name)
  unfolding has_key
  letters_keyed = (both (keyable (entry i).name) _ entry_keyed).0

  code_keyed : T (eqb (prefix_code (entry i) / 65536) (length (entry i).name) && eqb (prefix_code (entry i) % 65536) (key_of (entry i).name))
  unfolding has_key
  code_keyed = (both (keyable (entry i).name) _ entry_keyed).1

  pub code_length : prefix_code (entry i) / 65536 ≡ length (entry i).name
  code_length = eqb-true _ _ (T→true _ (both (eqb (prefix_code (entry i) / 65536) (length (entry i).name)) _ code_keyed).0)

  pub code_key : prefix_code (entry i) % 65536 ≡ key_of (entry i).name
  code_key = eqb-true _ _ (T→true _ (both (eqb (prefix_code (entry i) / 65536) (length (entry i).name)) _ code_keyed).1)

  pub code_at : get_or prefix_codes i 0 ≡ prefix_code (entry i)
  unfolding prefix_codes entry nothing key_from
  code_at = get_or-map prefix_code prefixes i nothing

-- SEARCHING A PREFIX

-- the spelling l is this prefix
unfoldable pub is_prefix : List ℕ → Prefix → Bool
is_prefix l p = same l p.name

first_placed : (i : ℕ) (l : List ℕ) (ps : List Prefix) → first (is_prefix l) at_place i ps ≡ placed i l ps
unfolding first is_prefix placed
first_placed i l [] = refl
first_placed i l (p ∷ ps) = rw (first_placed (suc i) l ps)

first_named : (l : List ℕ) → first (is_prefix l) at_place 0 prefixes ≡ prefix_named l
unfolding prefix_named
first_named l = first_placed 0 l prefixes

-- a spelling of more letters than a key can hold is no prefix
pub too_long : (l : List ℕ) → most_letters < length l → none ≡ prefix_named l
unfolding is_prefix has_key
too_long l h =
    sym (first_none (is_prefix l) has_key at_place 0 prefixes prefixes_keyed (λ p t. long_other l p.name h (both (keyable p.name) _ t).0)) ∙ first_named l

-- the spelling l has that size and key, and no prefix before place i is l
pub record SearchingPrefixes (l : List ℕ) (size number i : ℕ) : Type 0 where
  pub spelled : SpellingKey l size number
  pub sought : Sought (is_prefix l) at_place prefixes (prefix_named l) i

module _ {l : List ℕ} {size number : ℕ} where
  pub search_none : SpellingKey l size number → SearchingPrefixes l size number 0
  search_none v = record { spelled = v; sought = sought_none (first_named l) }

  pub search_all : {i : ℕ} → prefix_count ≤ i → SearchingPrefixes l size number i → none ≡ prefix_named l
  search_all h w = sought_all (omega (arith, prefixes_count)) w.sought

  -- the answer r of the comparison with the prefix of that code
  module _ {i : ℕ} (h : i < prefix_count) (w : SearchingPrefixes l size number i) {code : ℕ} (c : code ≡ get_or prefix_codes i 0) {r : Bool}
      (e : r ≡ agrees size number (code / 65536) (code % 65536)) where
    answer : is_prefix l (entry i) ≡ r
    unfolding is_prefix
    answer =
        sym (e ∙ rw (c, code_at i, code_length i, code_key i)
        (agrees_spelled w.spelled (entry i).name (letters_keyed i)))

    pub search_hit : r ≡ true → some i ≡ prefix_named l
    unfolding entry
    search_hit t = sought_hit nothing (omega (arith, prefixes_count)) w.sought (answer ∙ t)

    pub search_miss : r ≡ false → SearchingPrefixes l size number (i + 1)
    unfolding entry
    search_miss t = record {
      spelled = w.spelled;
      sought = sought_miss nothing (omega (arith, prefixes_count)) w.sought (answer ∙ t);
    }
