-- The table of names: letters from keys, own names, the names of a unit as a part of the table.
use Prim.Native.Nat.{ℕ, zero, suc, ◌+◌, ◌-◌, ◌≤◌, ◌<◌}
use native.Mathlib.Omega.{arith}
use native.Mathlib.Numerals.{add-one}
use mathlib.Core.Path.{◌≡◌, refl, sym, ap, ◌∙◌}
use mathlib.Core.Bool.{Bool, true, false, ◌&&◌}
use mathlib.Core.List.{List, [], ◌∷◌, ◌++◌, map, append_assoc}
use mathlib.Core.Option.{Option as Maybe, none, some}
use mathlib.Core.Logic.{◌⊎◌, inl, inr}
use Rattle.std.specs.Prelude.{Option, Some, None, MatchOption, IfSome}
use Rattle.std.proofs.lemmas.Bool.{cases_lt}
use lib.Dec.{T, leb, eqb, leb→le}
use lib.IntN.{pos}
use lib.ListN.{length, take, drop, get_or, length-append, get_or-eq_default}
use lib.Seq.{drop-cons, drop_at, take_at}
use borrow.Author.Tests.{eqb-true, leb-true}
use Rattle.label.proofs.Basics.{none_some, both, T→true, same_is, and_left, all_below, at_below}
use Rattle.label.specs.Bytes.{same}
use Rattle.label.specs.Choice.{pick}
use Rattle.label.specs.Notations.{member}
use Rattle.label.specs.Prefixes.{Prefix, prefixes}
use Rattle.label.specs.Units.{Name, KnownUnit, bare, ten_to, units, unit_at}
use Rattle.label.specs.Symbols.{has_name}
use Rattle.label.specs.Letters.{prefix_letters}
use Rattle.label.specs.Writing.{name_among, name_in}
use Rattle.symbols.specs.Keys.{most_letters, key_of, agrees}
use Rattle.symbols.specs.Sets.{has_bit}
use Rattle.symbols.specs.Names.{Entry, entries_of, entries_from, names}
use Rattle.symbols.specs.Columns.{name_count, unit_count, name_keys, prefix_count, prefix_codes, NameAt}
use Rattle.symbols.specs.declared.unit_table.Name as code
use Rattle.symbols.proofs.Computing.{columns_compute}
use Rattle.symbols.proofs.RowLaws.{every, every_at}
use Rattle.symbols.proofs.KeyLaws.{long_other, other_length, SpellingKey, agrees_spelled}
use Rattle.symbols.proofs.UnitLaws.{units_count}
use Rattle.symbols.proofs.NameLaws as laws
use Rattle.symbols.proofs.PrefixLaws as prefix_laws
use Rattle.rewriting.specs.declared.name.NameRange.{NameRange}
use Rattle.rewriting.specs.declared.name.Own.{Own}
use Rattle.rewriting.specs.Letters.{letters_of, most_in_prefix}
use Rattle.rewriting.specs.Names.{entry, is_named, entry_name, names_in, name_at, places_from, first_places, InTable, NamesOf, OwnOf}
use Rattle.rewriting.specs.Units.{PrefixCode}

entry_is : (i : ℕ) → laws.entry i ≡ entry i
unfolding entry laws.entry laws.nobody
entry_is i = refl

-- LETTERS FROM KEYS

-- the letters l, at most n, come back from their key
spells : ℕ → List ℕ → Bool
spells n l = same (letters_of n (key_of l)) l && leb (length l) n

spelled_back : (n : ℕ) (l : List ℕ) → T (spells n l) → letters_of n (key_of l) ≡ l
unfolding spells
spelled_back n l t = same_is _ _ (T→true _ (both (same (letters_of n (key_of l)) l) _ t).0)

spelled_short : (n : ℕ) (l : List ℕ) → T (spells n l) → length l ≤ n
unfolding spells
spelled_short n l t = leb→le _ n (both (same (letters_of n (key_of l)) l) _ t).1

spelt : Entry → Bool
spelt x = spells most_letters x.letters

names_spelt : T (every spelt names)
unfolding every spelt spells letters_of columns_compute
names_spelt = tt

nobody_spelt : T (spelt laws.nobody)
unfolding spelt spells letters_of laws.nobody columns_compute
nobody_spelt = tt

entry_spelt : (i : ℕ) → T (spells most_letters (laws.entry i).letters)
unfolding spelt laws.entry
entry_spelt i = every_at spelt names laws.nobody names_spelt nobody_spelt i

pub name_letters : (i : ℕ) → letters_of most_letters (get_or name_keys i 0) ≡ (entry i).letters
name_letters i = rw (laws.key_at i) (spelled_back most_letters _ (entry_spelt i) ∙ ap (λ (x : Entry). x.letters) (entry_is i))

name_short : (i : ℕ) → length (entry i).letters ≤ most_letters
name_short i = rw (← entry_is i) (spelled_short most_letters _ (entry_spelt i))

-- OWN NAMES

pub own_spelled : {l : List ℕ} {size number : ℕ} → SpellingKey l size number → OwnOf l (record { size = size; number = number })
own_spelled w = record { agree = λ i. rw (← entry_is i) (agrees_spelled w (laws.entry i).letters (laws.letters_sound i)) }

-- more letters than a name has
pub own_long : (l : List ℕ) (size : ℕ) → length l ≡ size → most_letters < size → OwnOf l (record { size = size; number = 0 })
own_long l size e h = record { agree = λ i. go i (name_short i) }
  where
    go : (i : ℕ) → length (entry i).letters ≤ 8 → agrees size 0 (length (entry i).letters) (key_of (entry i).letters) ≡ same l (entry i).letters
    go i s =
        other_length size 0 (length (entry i).letters) (key_of (entry i).letters) (λ q. omega arith)
        ∙ sym (long_other l (entry i).letters (omega arith) (rw (← entry_is i) (laws.letters_sound i)))

pub is_own : {l : List ℕ} {x : Own} {y : code.Name} (n i : ℕ) → NameAt i y → OwnOf l x
    → (agrees x.size x.number y.size y.key && has_bit n y.known_in) ≡ is_named n l (entry_name (entry i))
is_own n i w o =
    rw (w.key_is, w.size_is, w.set_is, laws.key_at i, laws.code_at i, (laws.code_sound i).0, (laws.code_sound i).1.0, entry_is i, o.agree i, ← entry_is i, laws.member_at i n)

pub is_known : {y : code.Name} (n i : ℕ) → NameAt i y → has_bit n y.known_in ≡ member n (entry i).known_in
is_known n i w = rw (w.set_is, laws.code_at i, (laws.code_sound i).1.0, ← entry_is i, laws.member_at i n)

-- A PART OF THE TABLE

-- the names from place i on, up to the place end
abbrev pub from : ℕ → ℕ → List Name
from i end = names_in (record { first = i; end = end })

no_names : (i end : ℕ) → end ≤ i → from i end ≡ []
unfolding names_in
no_names i end h = let e : end - i ≡ 0 = omega arith in rw e

next_name : (i end : ℕ) → i < end → end ≤ name_count → from i end ≡ entry_name (entry i) ∷ from (i + 1) end
unfolding names_in entry laws.nobody
next_name i end h g =
    let e : end - i ≡ suc (end - suc i) = omega arith in
    rw (e, drop-cons names i laws.nobody (omega (arith, laws.names_count)), add-one i)

-- WHICH NAME IS TAKEN

letters_own : (n i : ℕ) (l : List ℕ) → is_named n l (entry_name (entry i)) ≡ true → some (entry i).letters ≡ some l
letters_own n i l e = ap (λ (s : List ℕ). some s) (sym (same_is l (entry i).letters (and_left (same l (entry i).letters) _ e)))

-- a search for the first place of x that meets Yes, none before it, finds the name that is the answer for the names of x
module _ (answer : List Name → Maybe (List ℕ)) (x : NameRange) (g : InTable x) (Yes No : ℕ → Type 0)
    (stop : (i : ℕ) (ys : List Name) → Yes i → answer (entry_name (entry i) ∷ ys) ≡ some (entry i).letters)
    (skip : (i : ℕ) (ys : List Name) → No i → answer (entry_name (entry i) ∷ ys) ≡ answer ys) (nothing : answer [] ≡ none) where
  skipped : (n i j : ℕ) → i + n ≡ j → j ≤ x.end → ((k : ℕ) → i ≤ k → k < j → No k) → answer (from i x.end) ≡ answer (from j x.end)
  skipped zero i j e h f = let q : i ≡ j = omega arith in rw q
  skipped (suc n) i j e h f =
      ap answer (next_name i x.end (omega arith) g.within) ∙ skip i (from (i + 1) x.end) (f i (omega arith) (omega arith))
      ∙ skipped n (i + 1) j (omega arith) h (λ k a b. f k (omega arith) b)

  pub first_place : (r : Option ℕ) → MatchOption r ((k : ℕ) → x.first ≤ k → k < x.end → No k) (λ i. (x.first ≤ i) × (i < x.end) × Yes i × ((k : ℕ) → x.first ≤ k → k < i → No k))
      → (name_at r ≡ answer (names_in x)) × IfSome r (λ i. i < name_count)
  unfolding name_at
  first_place None f = (sym nothing ∙ sym (ap answer (no_names x.end x.end (omega arith))) ∙ go (cases_lt x.end x.first), tt)
    where
      go : (x.end < x.first) ⊎ (x.first ≤ x.end) → answer (from x.end x.end) ≡ answer (names_in x)
      go (inr h) = sym (skipped (x.end - x.first) x.first x.end (omega arith) (omega arith) f)
      go (inl h) = ap answer (no_names x.end x.end (omega arith)) ∙ sym (ap answer (no_names x.first x.end (omega arith)))
  first_place (Some i) f = (
    sym (stop i (from (i + 1) x.end) f.2) ∙ sym (ap answer (next_name i x.end f.1 g.within))
        ∙ sym (skipped (i - x.first) x.first i (omega arith) (omega arith) f.3),
    omega (arith, g.within),
  )

-- its own name
abbrev pub own_answer : ℕ → List ℕ → List Name → Maybe (List ℕ)
own_answer n l xs = pick (has_name n l xs) (some l) none

module _ (n : ℕ) (l : List ℕ) (i : ℕ) (ys : List Name) where
  pub own_this : is_named n l (entry_name (entry i)) ≡ true → own_answer n l (entry_name (entry i) ∷ ys) ≡ some (entry i).letters
  unfolding has_name
  own_this e = rw e (sym (letters_own n i l e))

  pub own_later : is_named n l (entry_name (entry i)) ≡ false → own_answer n l (entry_name (entry i) ∷ ys) ≡ own_answer n l ys
  unfolding has_name
  own_later e = rw e

pub own_none : (n : ℕ) (l : List ℕ) → own_answer n l [] ≡ none
unfolding has_name
own_none n l = refl

-- the first name that is known

pub among_this : (n : ℕ) (y : Name) (ys : List Name) → member n y.known_in ≡ true → name_among n (y ∷ ys) ≡ some y.letters
unfolding name_among
among_this n y ys e = rw (e, name_among)

pub among_later : (n : ℕ) (y : Name) (ys : List Name) → member n y.known_in ≡ false → name_among n (y ∷ ys) ≡ name_among n ys
unfolding name_among
among_later n y ys e = rw (e, name_among)

pub among_none : (n : ℕ) → name_among n [] ≡ none
unfolding name_among
among_none n = refl

module _ (n : ℕ) (l : List ℕ) (xs : List Name) where
  -- its own name, where there is one, or else another
  pub takes : {P : Type 0} (r q : Option ℕ) → name_at r ≡ pick (has_name n l xs) (some l) none → MatchOption r P (λ i. q ≡ Some i)
      → (P → name_at q ≡ name_among n xs) → name_at q ≡ name_in n l xs
  unfolding name_in name_at
  takes None q p m f = go (has_name n l xs) p
    where
      go : (b : Bool) → none ≡ pick b (some l) none → name_at q ≡ pick b (some l) (name_among n xs)
      go true e = absurd (none_some e)
      go false e = f m
  takes (Some i) q p m f = rw m (go (has_name n l xs) p)
    where
      go : (b : Bool) → some (entry i).letters ≡ pick b (some l) none → some (entry i).letters ≡ pick b (some l) (name_among n xs)
      go true e = e
      go false e = absurd (none_some (sym e))

-- THE NAMES OF A UNIT

abbrev no_unit : KnownUnit
no_unit = bare [] (ten_to (pos 0) [])

entries_length : (i : ℕ) (xs : List Name) → length (entries_of i xs) ≡ length xs
unfolding entries_of
entries_length i [] = refl
entries_length i (x ∷ xs) = ap suc (entries_length i xs)

entries_names : (i : ℕ) (xs : List Name) → map entry_name (entries_of i xs) ≡ xs
unfolding entries_of
entries_names i [] = refl
entries_names i (x ∷ xs) = ap (λ (ys : List Name). x ∷ ys) (entries_names i xs)

head_place : (j : ℕ) (us : List KnownUnit) → get_or (places_from j us) 0 0 ≡ j
unfolding places_from
head_place j [] = refl
head_place j (u ∷ us) = refl

part_of : (us : List KnownUnit) (i j : ℕ) (before : List Entry) (u : ℕ) → length before ≡ j → u < length us
    → take (get_or (places_from j us) (suc u) 0 - get_or (places_from j us) u 0) (drop (get_or (places_from j us) u 0) (before ++ entries_from i us))
    ≡ entries_of (i + u) (get_or us u no_unit).names
unfolding places_from entries_from
part_of [] i j before u e h = absurd (omega arith)
part_of (x ∷ xs) i j before zero e h =
    let n : get_or (places_from (j + length x.names) xs) 0 0 - j ≡ length x.names = omega (arith, head_place (j + length x.names) xs) in
    let z : i + 0 ≡ i = omega arith in
    rw (n, z, drop_at before (entries_of i x.names ++ entries_from (suc i) xs) j e)
    (take_at (entries_of i x.names) (entries_from (suc i) xs) (length x.names) (entries_length i x.names))
part_of (x ∷ xs) i j before (suc u) e h =
    let z : i + suc u ≡ suc i + u = omega arith in
    let m : length (before ++ entries_of i x.names) ≡ j + length x.names = length-append before (entries_of i x.names) ∙ rw (e, entries_length i x.names) in
    rw (z, ← append_assoc before (entries_of i x.names) (entries_from (suc i) xs))
    (part_of xs (suc i) (j + length x.names) (before ++ entries_of i x.names) u m (omega arith))

-- from row a on, n units in a row have their first names c places after their rows
unfoldable pub in_a_row : ℕ → ℕ → ℕ → Bool
in_a_row a n c = all_below (λ i. eqb (a + i + c) (get_or first_places (a + i) 0)) n

unfoldable pub rows_compute : Unit {0}
unfolding in_a_row all_below places_from first_places columns_compute
rows_compute = tt

pub first_in_row : (a n c : ℕ) → in_a_row a n c ≡ true → (u : ℕ) → a ≤ u → u < a + n → u + c ≡ get_or first_places u 0
unfolding in_a_row
first_in_row a n c t u h g =
    let e : a + (u - a) ≡ u = omega arith in
    rw e at (eqb-true (a + (u - a) + c) (get_or first_places (a + (u - a)) 0) (at_below (λ i. eqb (a + i + c) (get_or first_places (a + i) 0)) n t (u - a) (omega arith)))

-- a row's part of the table of names
place_at : ℕ → ℕ
place_at u = get_or first_places u 0

ends_in_table : ℕ → Bool
ends_in_table u = leb (place_at (suc u)) name_count

parts_in_table : all_below ends_in_table unit_count ≡ true
unfolding all_below ends_in_table place_at places_from first_places columns_compute
parts_in_table = refl

module _ (u : ℕ) (h : u < unit_count) where
  part_in_table : InTable (record { first = place_at u; end = place_at (suc u) })
  unfolding ends_in_table
  part_in_table = record { within = leb-true _ _ (at_below ends_in_table unit_count parts_in_table u (omega arith)) }

  part_names : names_in (record { first = place_at u; end = place_at (suc u) }) ≡ (unit_at u).names
  unfolding names_in place_at first_places names
  part_names = ap (λ (es : List Entry). map entry_name es) (part_of units 0 0 [] u refl (omega (arith, units_count))) ∙ entries_names (0 + u) (unit_at u).names

  pub unit_names : (first end : ℕ) → first ≡ get_or first_places u 0 → end ≡ get_or first_places (u + 1) 0 → NamesOf u (record { first = first; end = end })
  unfolding place_at
  unit_names first end e f =
      let g : end ≡ get_or first_places (suc u) 0 = f ∙ ap (λ (i : ℕ). get_or first_places i 0) (add-one u) in
      rw (e, g) (record { part = part_in_table; are = part_names })

pub no_unit_names : (u : ℕ) → unit_count ≤ u → NamesOf u (record { first = 0; end = 0 })
unfolding names_in
no_unit_names u h = record {
  part = record { within = omega arith };
  are = let e : unit_at u ≡ no_unit = get_or-eq_default units no_unit (omega (arith, units_count)) in rw e;
}

-- PREFIXES

prefix_spelt : Prefix → Bool
prefix_spelt p = spells most_in_prefix p.name

prefixes_spelt : T (every prefix_spelt prefixes)
unfolding every prefix_spelt spells letters_of columns_compute
prefixes_spelt = tt

nothing_spelt : T (prefix_spelt prefix_laws.nothing)
unfolding prefix_spelt spells letters_of prefix_laws.nothing columns_compute
nothing_spelt = tt

codes_count : length prefix_codes ≡ prefix_count
unfolding columns_compute
codes_count = refl

module _ (i : ℕ) where
  here_spelt : T (spells most_in_prefix (prefix_laws.entry i).name)
  unfolding prefix_spelt prefix_laws.entry
  here_spelt = every_at prefix_spelt prefixes prefix_laws.nothing prefixes_spelt nothing_spelt i

  letters_are : prefix_letters (some i) ≡ (prefix_laws.entry i).name
  unfolding prefix_laws.entry prefix_laws.nothing columns_compute
  letters_are = refl

  -- the code in the column
  pub prefix_coded : PrefixCode (Some i) (get_or prefix_codes i 0)
  prefix_coded = rw (prefix_laws.code_at i) (record {
    size = prefix_laws.code_length i ∙ ap length (sym letters_are);
    letters = rw (prefix_laws.code_key i) (spelled_back most_in_prefix _ here_spelt ∙ sym letters_are);
    few = rw (prefix_laws.code_length i) (spelled_short most_in_prefix _ here_spelt);
  })

-- past the end of the column
pub prefix_uncoded : (i : ℕ) → prefix_count ≤ i → PrefixCode (Some i) 0
prefix_uncoded i h = rw (get_or-eq_default prefix_codes 0 {n = i} (rw codes_count h)) at (prefix_coded i)

pub no_prefix : PrefixCode None 0
unfolding letters_of
no_prefix = record { size = refl; letters = refl; few = omega arith }
