-- The search of a name: the list of names finds what the table of units finds, and the columns have its key and its code.
use Prim.Native.Nat.{ℕ, zero, suc, ◌+◌, ◌/◌, ◌%◌, ◌≤◌, ◌<◌}
use native.Mathlib.Omega.{arith}
use native.Mathlib.Numerals.{add-one}
use mathlib.Core.Path.{◌≡◌, refl, sym, ◌∙◌}
use mathlib.Core.Bool.{Bool, true, false, ◌&&◌, ◌||◌}
use mathlib.Core.List.{List, [], ◌∷◌, ◌++◌}
use mathlib.Core.Option.{Option, none, some}
use lib.Dec.{T, leb, eqb, leb→le}
use lib.ListN.{length, get_or, get_or-map}
use borrow.Author.Tests.{eqb-true}
use Rattle.label.proofs.Basics.{T→true, both, all_below}
use Rattle.label.specs.Bytes.{same}
use Rattle.label.specs.Choice.{pick}
use Rattle.label.specs.Notations.{member}
use Rattle.label.specs.Units.{Name, KnownUnit, units}
use Rattle.label.specs.Symbols.{has_name, row_named, unit_named}
use Rattle.symbols.specs.Keys.{most_letters, key_from, key_of, agrees}
use Rattle.symbols.specs.Sets.{bits, has_bit}
use Rattle.symbols.specs.Names.{Entry, entries_of, entries_from, names}
use Rattle.symbols.specs.Groups.{groups}
use Rattle.symbols.specs.Columns.{name_count, name_keys, name_code, name_codes, NameAt}
use Rattle.symbols.specs.declared.unit_table.Name as code
use Rattle.symbols.proofs.Computing.{columns_compute}
use Rattle.symbols.proofs.GroupLaws.{start, start_upto, before_start}
use Rattle.symbols.proofs.KeyLaws.{keyable, long_other, SpellingKey, agrees_spelled, other_key}
use Rattle.symbols.proofs.SetLaws.{alike, told_by_bits, bit_member}
use Rattle.symbols.proofs.RowLaws.{every, every_at, first, first_none, Sought, sought_none, sought_all, sought_hit, sought_miss}

-- THE LIST OF NAMES FINDS WHAT THE TABLE FINDS

-- notation n knows the spelling l by this name
unfoldable pub is_entry : ℕ → List ℕ → Entry → Bool
is_entry n l x = same l x.letters && member n x.known_in

-- the row that a search answers
abbrev pub row : ℕ → Entry → ℕ
row i x = x.unit

first_of_row : (n : ℕ) (l : List ℕ) (i j : ℕ) (xs : List Name) (rest : List Entry) (o : Option ℕ) → ((k : ℕ) → first (is_entry n l) row k rest ≡ o)
    → first (is_entry n l) row j (entries_of i xs ++ rest) ≡ pick (has_name n l xs) (some i) o
unfolding first is_entry entries_of has_name
first_of_row n l i j [] rest o e = e j
first_of_row n l i j (x ∷ xs) rest o e =
    go (same l x.letters && member n x.known_in) (first_of_row n l i (suc j) xs rest o e)
  where
    go : (b : Bool) → first (is_entry n l) row (suc j) (entries_of i xs ++ rest) ≡ pick (has_name n l xs) (some i) o
        → pick b (some i) (first (is_entry n l) row (suc j) (entries_of i xs ++ rest)) ≡ pick (b || has_name n l xs) (some i) o
    go true ih = refl
    go false ih = ih

first_of_rows : (n : ℕ) (l : List ℕ) (i : ℕ) (us : List KnownUnit) (j : ℕ)
    → first (is_entry n l) row j (entries_from i us) ≡ row_named n l i us
unfolding first entries_from row_named
first_of_rows n l i [] j = refl
first_of_rows n l i (u ∷ us) j =
    first_of_row n l i j u.names (entries_from (suc i) us) (row_named n l (suc i) us) (first_of_rows n l (suc i) us)
    ∙ go (has_name n l u.names)
  where
    go : (b : Bool) → pick b (some i) (row_named n l (suc i) us)
        ≡ elim b as (λ (z : Bool). Option ℕ) [ true ↦ some i | false ↦ row_named n l (suc i) us ]
    go true = refl
    go false = refl

first_named : (n : ℕ) (l : List ℕ) → first (is_entry n l) row 0 names ≡ unit_named n l
unfolding names unit_named
first_named n l = first_of_rows n l 0 units 0

-- THE TEST OF THE NAMES

coded : Entry → Bool
coded x =
    eqb (name_code x / 65536) (length x.letters)
    && (eqb (name_code x / 256 % 256) (bits x.known_in) && eqb (name_code x % 256) x.unit)

-- one more than this row is a byte
abbrev pub most_row : ℕ
most_row = 254

-- a name that a key can hold, a set that its bits tell, and a row that leaves room in a byte; and a code that has the three in its bytes
sound : Entry → Bool
sound x = keyable x.letters && ((told_by_bits x.known_in && leb x.unit most_row) && coded x)

names_sound : T (every sound names)
unfolding every sound coded keyable told_by_bits all_below alike columns_compute
names_sound = tt

pub names_count : length names ≡ name_count
unfolding columns_compute
names_count = refl

-- what is past the end
unfoldable pub nobody : Entry
nobody = record { letters = []; known_in = []; unit = 0 }

nobody_sound : T (sound nobody)
unfolding sound coded nobody keyable told_by_bits all_below alike columns_compute
nobody_sound = tt

unfoldable pub entry : ℕ → Entry
entry i = get_or names i nobody

entry_sound : (i : ℕ) → T (sound (entry i))
unfolding entry
entry_sound i = every_at sound names nobody names_sound nobody_sound i

module _ (i : ℕ) where
  pub letters_sound : T (keyable (entry i).letters)
  unfolding sound
  letters_sound = (both (keyable (entry i).letters) _ (entry_sound i)).0

  rest_sound : T ((told_by_bits (entry i).known_in && leb (entry i).unit most_row) && coded (entry i))
  unfolding sound
  rest_sound = (both (keyable (entry i).letters) _ (entry_sound i)).1

  set_sound : T (told_by_bits (entry i).known_in && leb (entry i).unit most_row)
  set_sound = (both (told_by_bits (entry i).known_in && leb (entry i).unit most_row) _ rest_sound).0

  unit_sound : (entry i).unit ≤ most_row
  unit_sound = leb→le (entry i).unit most_row (both (told_by_bits (entry i).known_in) _ set_sound).1

  pub code_sound : (name_code (entry i) / 65536 ≡ length (entry i).letters)
      × ((name_code (entry i) / 256 % 256 ≡ bits (entry i).known_in) × (name_code (entry i) % 256 ≡ (entry i).unit))
  unfolding coded
  code_sound =
      let w = both (eqb (name_code (entry i) / 65536) (length (entry i).letters)) _ (both (told_by_bits (entry i).known_in && leb (entry i).unit most_row) _ rest_sound).1 in
      let v = both (eqb (name_code (entry i) / 256 % 256) (bits (entry i).known_in)) _ w.1 in
      (eqb-true _ _ (T→true _ w.0), (eqb-true _ _ (T→true _ v.0), eqb-true _ _ (T→true _ v.1)))

  -- THE COLUMNS

  pub key_at : get_or name_keys i 0 ≡ key_of (entry i).letters
  unfolding name_keys entry nobody key_from
  key_at = get_or-map (λ (x : Entry). key_of x.letters) names i nobody

  pub code_at : get_or name_codes i 0 ≡ name_code (entry i)
  unfolding name_codes entry nobody bits
  code_at = get_or-map name_code names i nobody

  -- the bits of a name tell which notations know it
  pub member_at : (n : ℕ) → has_bit n (bits (entry i).known_in) ≡ member n (entry i).known_in
  member_at n = bit_member n (entry i).known_in (both (told_by_bits (entry i).known_in) _ set_sound).0

  pub unit_room : get_or name_codes i 0 % 256 ≤ most_row
  unit_room = rw (code_at, code_sound.1.1) unit_sound

-- SEARCHING A UNIT BY ITS NAME

-- a spelling of more letters than a key can hold is no name
pub too_long : (n : ℕ) (l : List ℕ) → most_letters < length l → none ≡ unit_named n l
unfolding is_entry sound
too_long n l h = sym (first_none (is_entry n l) sound row 0 names names_sound other) ∙ first_named n l
  where
    other : (x : Entry) → T (sound x) → is_entry n l x ≡ false
    other x t = rw (long_other l x.letters h (both (keyable x.letters) _ t).0)

-- the spelling l has that size and key, and no name before place i is l
pub record SearchingNames (n : ℕ) (l : List ℕ) (size number i : ℕ) : Type 0 where
  pub spelled : SpellingKey l size number
  pub sought : Sought (is_entry n l) row names (unit_named n l) i

-- a name is the spelling of that size and key, and notation n knows it
abbrev pub named_by : ℕ → ℕ → ℕ → code.Name → Bool
named_by n size number x = agrees size number x.size x.key && has_bit n x.known_in

-- the name at place i
abbrev pub name : ℕ → code.Name
name i = record {
  key = get_or name_keys i 0;
  size = get_or name_codes i 0 / 65536;
  known_in = get_or name_codes i 0 / 256 % 256;
  unit = get_or name_codes i 0 % 256;
}

module _ {n : ℕ} {l : List ℕ} {size number : ℕ} where
  search_none : SpellingKey l size number → SearchingNames n l size number 0
  search_none v = record { spelled = v; sought = sought_none (first_named n l) }

  pub search_all : {i : ℕ} → name_count ≤ i → SearchingNames n l size number i → none ≡ unit_named n l
  search_all h w = sought_all (omega (arith, names_count)) w.sought

  module _ {i : ℕ} (h : i < name_count) (w : SearchingNames n l size number i) where
    told : named_by n size number (name i) ≡ is_entry n l (entry i)
    unfolding is_entry
    told = rw (
      key_at i,
      code_at i,
      (code_sound i).0,
      (code_sound i).1.0,
      agrees_spelled w.spelled (entry i).letters (letters_sound i),
      member_at i n,
    )

    -- the answer r of the comparison with the name x
    module _ {x : code.Name} (at : NameAt i x) {r : Bool} (e : r ≡ named_by n size number x) where
      answer : is_entry n l (entry i) ≡ r
      answer = sym (e ∙ rw (at.size_is, at.key_is, at.set_is) told)

      pub search_hit : r ≡ true → some x.unit ≡ unit_named n l
      unfolding entry
      search_hit t =
          rw (at.unit_is, code_at i, (code_sound i).1.1) (sought_hit nobody (omega (arith, names_count)) w.sought (answer ∙ t))

      pub search_miss : r ≡ false → SearchingNames n l size number (i + 1)
      unfolding entry
      search_miss t = record {
        spelled = w.spelled;
        sought = sought_miss nobody (omega (arith, names_count)) w.sought (answer ∙ t);
      }

  -- a search can start at the first name of the spelling's group
  pub search_start : SpellingKey l size number → SearchingNames n l size number (start (number % groups))
  search_start v = go (start (number % groups)) (omega arith)
    where
      other : (i : ℕ) → i < start (number % groups) → false ≡ named_by n size number (name i)
      other i h = rw (
        key_at i,
        code_at i,
        (code_sound i).0,
        agrees_spelled v (entry i).letters (letters_sound i),
        other_key v (entry i).letters (rw (key_at i) at (before_start number i h)),
      )

      go : (i : ℕ) → i ≤ start (number % groups) → SearchingNames n l size number i
      go zero h = search_none v
      go (suc i) h =
          rw (add-one i) at
          (search_miss {i = i} (omega (arith, h, start_upto (number % groups))) (go i (omega (arith, h))) {x = name i} (record { key_is = refl; size_is = refl; set_is = refl; unit_is = refl }) (other i (omega (arith, h))) refl)
