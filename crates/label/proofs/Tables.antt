-- The rows of the units by computed tests, each turned into the rule at every row: which units take a prefix, which are recommended, and what their sizes have.
use Prim.Native.Nat.{ℕ, zero, suc, ◌*◌, ◌^◌}
use mathlib.Core.Path.{◌≡◌, refl, sym, ap, ◌∙◌}
use mathlib.Core.Bool.{Bool, true, false, ◌&&◌, ◌||◌, not}
use mathlib.Core.List.{List, [], ◌∷◌, map}
use mathlib.Core.Logic.{◌⊎◌, inl, inr}
use mathlib.Core.Option.{Option, none, some}
use lib.Dec.{T, eqb}
use lib.IntN.{ℤ, pos, ◌+ℤ◌, +ℤ_idl, +ℤ_idr}
use lib.ListN.{get_or}
use borrow.Author.Tests.{eqb-true, eqb-false, eq-eqb, not-true}
use Rattle.label.proofs.Basics.{false_true, both, T→true, same_is}
use Rattle.label.proofs.Computing.{symbols_compute}
use Rattle.label.proofs.Cuts.{all_members}
use Rattle.label.specs.Bytes.{bytes, same, all}
use Rattle.label.specs.Choice.{pick}
use Rattle.label.specs.Notations.{ogip, cds, vounits, starlink, everywhere, member, notation}
use Rattle.label.specs.Symbols.{has_name, row_named, unit_named}
use Rattle.label.specs.Units.{BasePower, ◌↑◌, ten_to, Name, KnownUnit, bare, units, unit_at, base_power, multiplicity}
use Rattle.label.specs.Meaning.{◌∈◌, Named, prefixable, Prefixable, among, arcsec, unrecommended, PowerIn, listed, unlisted, Product}

-- A TEST OF EVERY ROW

all_rows : (KnownUnit → Bool) → List KnownUnit → Bool
all_rows f [] = true
all_rows f (u ∷ us) = f u && all_rows f us

row_passes : (f : KnownUnit → Bool) (us : List KnownUnit) (d : KnownUnit) → T (all_rows f us) → T (f d) → (u : ℕ) → T (f (get_or us u d))
unfolding all_rows
row_passes f [] d t e u = e
row_passes f (x ∷ us) d t e zero = (both (f x) (all_rows f us) t).0
row_passes f (x ∷ us) d t e (suc u) = row_passes f us d (both (f x) (all_rows f us) t).1 e u

-- a row that is not in the table
abbrev no_row : KnownUnit
no_row = bare [] (ten_to (pos 0) [])

every_row : (f : KnownUnit → Bool) → T (all_rows f units) → T (f no_row) → (u : ℕ) → T (f (unit_at u))
every_row f t e u = row_passes f units no_row t e u

alike : Bool → Bool → Bool
alike true b = b
alike false b = not b

alike_is : (a b : Bool) → T (alike a b) → a ≡ b
unfolding alike
alike_is true true t = refl
alike_is false false t = refl
alike_is false true t = elim t [ ]
alike_is true false t = elim t [ ]

-- NAMES

same_refl : (s : List ℕ) → same s s ≡ true
unfolding same
same_refl [] = refl
same_refl (c ∷ s) = rw (eq-eqb c c refl, same_refl s)

is_in : List ℕ → List (List ℕ) → Bool
is_in l [] = false
is_in l (m ∷ ms) = same l m || is_in l ms

is_in_in : (l : List ℕ) (ms : List (List ℕ)) → is_in l ms ≡ true → l ∈ ms
unfolding is_in
is_in_in l [] e = absurd (false_true e)
is_in_in l (m ∷ ms) e = go (same l m) refl (λ e. is_in_in l ms e) e
  where
    go : (b : Bool) → same l m ≡ b → (is_in l ms ≡ true → l ∈ ms) → (b || is_in l ms) ≡ true → (l ≡ m) ⊎ (l ∈ ms)
    go true p ih e = inl (same_is l m p)
    go false p ih e = inr (ih e)

or_right : (a b : Bool) → b ≡ true → (a || b) ≡ true
or_right true b e = refl
or_right false b e = e

or_left : (a b : Bool) → a ≡ true → (a || b) ≡ true
or_left a b e = rw e

in_is_in : (l : List ℕ) (ms : List (List ℕ)) → l ∈ ms → is_in l ms ≡ true
unfolding is_in
in_is_in l (m ∷ ms) (inl e) = or_left (same l m) (is_in l ms) (rw e (same_refl m))
in_is_in l (m ∷ ms) (inr h) = or_right (same l m) (is_in l ms) (in_is_in l ms h)
in_is_in l [] f = elim f [ ]

-- two lists share a name
shares : List (List ℕ) → List (List ℕ) → Bool
shares [] ls = false
shares (x ∷ xs) ls = is_in x ls || shares xs ls

abbrev Shared : List (List ℕ) → List (List ℕ) → Type 0
Shared xs ls = (l : List ℕ) × (l ∈ xs) × (l ∈ ls)

shares_shared : (xs ls : List (List ℕ)) → shares xs ls ≡ true → Shared xs ls
unfolding shares
shares_shared [] ls e = absurd (false_true e)
shares_shared (x ∷ xs) ls e = go (is_in x ls) refl (λ e. shares_shared xs ls e) e
  where
    go : (b : Bool) → is_in x ls ≡ b → (shares xs ls ≡ true → Shared xs ls) → (b || shares xs ls) ≡ true → Shared (x ∷ xs) ls
    go true p ih e = (x, inl refl, is_in_in x ls p)
    go false p ih e = let w = ih e in (w.0, inr w.1, w.2)

shared_shares : (xs ls : List (List ℕ)) (l : List ℕ) → l ∈ xs → l ∈ ls → shares xs ls ≡ true
unfolding shares
shared_shares (x ∷ xs) ls l (inl e) h = or_left (is_in x ls) (shares xs ls) (rw (← e) (in_is_in l ls h))
shared_shares (x ∷ xs) ls l (inr g) h = or_right (is_in x ls) (shares xs ls) (shared_shares xs ls l g h)
shared_shares [] ls l f h = elim f [ ]

abbrev names_of : KnownUnit → List (List ℕ)
names_of u = map (λ (x : Name). x.letters) u.names

-- WHICH NAMES STARLINK KNOWS

-- "with Ang in place of angstrom"
abbrev apart : List (List ℕ)
apart = map bytes ("Ang" ∷ "angstrom" ∷ [])

-- any other name is known in Starlink and in OGIP, or in neither
names_shared : List Name → Bool
names_shared [] = true
names_shared (x ∷ xs) = (is_in x.letters apart || alike (member starlink x.known_in) (member ogip x.known_in)) && names_shared xs

all_names_shared : T (all_rows (λ u. names_shared u.names) units)
unfolding names_shared all_rows alike is_in symbols_compute
all_names_shared = tt

module _ (l : List ℕ) (h : is_in l apart ≡ false) where
  names_as_ogip : (xs : List Name) → T (names_shared xs) → has_name starlink l xs ≡ has_name ogip l xs
  unfolding names_shared has_name
  names_as_ogip [] t = refl
  names_as_ogip (x ∷ xs) t = go (same l x.letters) refl (names_as_ogip xs passed.1)
    where
      passed : T (is_in x.letters apart || alike (member starlink x.known_in) (member ogip x.known_in)) × T (names_shared xs)
      passed = both (is_in x.letters apart || alike (member starlink x.known_in) (member ogip x.known_in)) (names_shared xs) t

      known : (m : List ℕ) → m ≡ l → T (is_in m apart || alike (member starlink x.known_in) (member ogip x.known_in)) → member starlink x.known_in ≡ member ogip x.known_in
      known m e t = alike_is (member starlink x.known_in) (member ogip x.known_in) (rw (e, h) at t)

      go : (b : Bool) → same l x.letters ≡ b → has_name starlink l xs ≡ has_name ogip l xs
          → ((b && member starlink x.known_in) || has_name starlink l xs) ≡ ((b && member ogip x.known_in) || has_name ogip l xs)
      go true e ih = rw (known x.letters (sym (same_is l x.letters e)) passed.0, ih)
      go false e ih = ih

  rows_as_ogip : (i : ℕ) (us : List KnownUnit) → T (all_rows (λ u. names_shared u.names) us) → row_named starlink l i us ≡ row_named ogip l i us
  unfolding all_rows row_named
  rows_as_ogip i [] t = refl
  rows_as_ogip i (u ∷ us) t =
      let w = both (names_shared u.names) (all_rows (λ u. names_shared u.names) us) t in
      rw (row_named, names_as_ogip u.names w.0)
      (ap (λ (o : Option ℕ). elim (has_name ogip l u.names) as (λ (z : Bool). Option ℕ) [ true ↦ some i | false ↦ o ]) (rows_as_ogip (suc i) us w.1))

-- "Known symbols are OGIP's, with Ang in place of angstrom"
pub starlink_as_ogip : (l : List ℕ) → (l ≡ bytes "Ang" → ⊥) → (l ≡ bytes "angstrom" → ⊥) → unit_named starlink l ≡ unit_named ogip l
unfolding unit_named
starlink_as_ogip l f g = go (is_in l apart) refl
  where
    go : (b : Bool) → is_in l apart ≡ b → row_named starlink l 0 units ≡ row_named ogip l 0 units
    go true e = absurd (neither (is_in_in l apart e))
      where
        neither : l ∈ apart → ⊥
        neither (inl e) = f e
        neither (inr (inl e)) = g e
        neither (inr (inr f)) = elim f [ ]
    go false e = rows_as_ogip l e 0 units all_names_shared

pub ang_for_angstrom : (u : ℕ) × (unit_named starlink (bytes "Ang") ≡ some u) × (unit_named ogip (bytes "angstrom") ≡ some u)
unfolding symbols_compute
ang_for_angstrom = (59, refl, refl)

pub not_both : (unit_named starlink (bytes "angstrom") ≡ none) × (unit_named ogip (bytes "Ang") ≡ none)
unfolding symbols_compute
not_both = (refl, refl)

-- WHERE A PREFIX IS LAWFUL

in_arcsec_notations : ℕ → Bool
in_arcsec_notations n = eqb n cds || eqb n vounits

prefixable_in : ℕ → KnownUnit → Bool
prefixable_in n u = shares (names_of u) (map bytes prefixable) || (shares (names_of u) (map bytes ("arcsec" ∷ [])) && in_arcsec_notations n)

prefixes_right : ℕ → Bool
prefixes_right n = all_rows (λ u. alike (member n u.prefixed_in) (prefixable_in n u)) units

all_prefixes_right : T (all prefixes_right everywhere)
unfolding prefixes_right all_rows alike prefixable_in in_arcsec_notations shares is_in symbols_compute
all_prefixes_right = tt

no_row_prefixed : (n : ℕ) → T (alike (member n []) (prefixable_in n no_row))
unfolding alike member prefixable_in shares
no_row_prefixed n = tt

prefixed_in_is : (n : ℕ) → notation n ≡ true → (u : ℕ) → member n (unit_at u).prefixed_in ≡ prefixable_in n (unit_at u)
unfolding notation prefixes_right
prefixed_in_is n e u =
    alike_is (member n (unit_at u).prefixed_in) (prefixable_in n (unit_at u))
    (every_row (λ u. alike (member n u.prefixed_in) (prefixable_in n u)) (all_members prefixes_right n everywhere all_prefixes_right e) (no_row_prefixed n) u)

-- the test of a row says that a prefix is lawful on it
test_prefixable : (n u : ℕ) → prefixable_in n (unit_at u) ≡ true → Prefixable n u
unfolding prefixable_in in_arcsec_notations
test_prefixable n u e = go (shares (names_of (unit_at u)) (map bytes prefixable)) (shares (names_of (unit_at u)) (map bytes ("arcsec" ∷ []))) (eqb n cds) (eqb n vounits) refl refl refl refl e
  where
    go : (a b c d : Bool) → shares (names_of (unit_at u)) (map bytes prefixable) ≡ a → shares (names_of (unit_at u)) (map bytes ("arcsec" ∷ [])) ≡ b
        → eqb n cds ≡ c → eqb n vounits ≡ d → (a || (b && (c || d))) ≡ true → Prefixable n u
    go true b c d p q r s e = among (shares_shared (names_of (unit_at u)) (map bytes prefixable) p)
    go false true true d p q r s e = arcsec (shares_shared (names_of (unit_at u)) (map bytes ("arcsec" ∷ [])) q) (inl (eqb-true n cds r))
    go false true false true p q r s e = arcsec (shares_shared (names_of (unit_at u)) (map bytes ("arcsec" ∷ [])) q) (inr (eqb-true n vounits s))
    go false true false false p q r s e = absurd (false_true e)
    go false false c d p q r s e = absurd (false_true e)

prefixable_test : (n u : ℕ) → Prefixable n u → prefixable_in n (unit_at u) ≡ true
unfolding prefixable_in in_arcsec_notations
prefixable_test n u (among h) = rw (shared_shares (names_of (unit_at u)) (map bytes prefixable) h.0 h.1 h.2)
prefixable_test n u (arcsec h (inl e)) =
    rw (shared_shares (names_of (unit_at u)) (map bytes ("arcsec" ∷ [])) h.0 h.1 h.2, eq-eqb n cds e)
    (or_right (shares (names_of (unit_at u)) (map bytes prefixable)) true refl)
prefixable_test n u (arcsec h (inr e)) =
    rw (shared_shares (names_of (unit_at u)) (map bytes ("arcsec" ∷ [])) h.0 h.1 h.2, eq-eqb n vounits e)
    (or_right (shares (names_of (unit_at u)) (map bytes prefixable)) (eqb n cds || true) (or_right (eqb n cds) true refl))

pub lawful_prefixable : (n : ℕ) → notation n ≡ true → (u : ℕ) → member n (unit_at u).prefixed_in ≡ true → Prefixable n u
lawful_prefixable n e u h = test_prefixable n u (sym (prefixed_in_is n e u) ∙ h)

pub prefixable_lawful : (n : ℕ) → notation n ≡ true → (u : ℕ) → Prefixable n u → member n (unit_at u).prefixed_in ≡ true
prefixable_lawful n e u h = prefixed_in_is n e u ∙ prefixable_test n u h

-- WHICH ROWS ARE RECOMMENDED

recommended_right : KnownUnit → Bool
recommended_right u = alike u.recommended (not (shares (names_of u) (map bytes unrecommended)))

all_recommended_right : T (all_rows recommended_right units)
unfolding recommended_right all_rows alike shares is_in symbols_compute
all_recommended_right = tt

no_row_recommended : T (recommended_right no_row)
unfolding recommended_right alike shares
no_row_recommended = tt

recommended_is : (u : ℕ) → (unit_at u).recommended ≡ not (shares (names_of (unit_at u)) (map bytes unrecommended))
unfolding recommended_right
recommended_is u =
    alike_is (unit_at u).recommended (not (shares (names_of (unit_at u)) (map bytes unrecommended)))
    (every_row recommended_right all_recommended_right no_row_recommended u)

pub recommended_unnamed : (u : ℕ) → (unit_at u).recommended ≡ true → Named u unrecommended → ⊥
recommended_unnamed u e h =
    let q = not-true (shares (names_of (unit_at u)) (map bytes unrecommended)) (sym (recommended_is u) ∙ e) in
    false_true (sym q ∙ shared_shares (names_of (unit_at u)) (map bytes unrecommended) h.0 h.1 h.2)

pub unnamed_recommended : (u : ℕ) → (Named u unrecommended → ⊥) → (unit_at u).recommended ≡ true
unnamed_recommended u h = recommended_is u ∙ go (shares (names_of (unit_at u)) (map bytes unrecommended)) refl
  where
    go : (b : Bool) → shares (names_of (unit_at u)) (map bytes unrecommended) ≡ b → not b ≡ true
    go true e = absurd (h (shares_shared (names_of (unit_at u)) (map bytes unrecommended) e))
    go false e = refl

-- THE BASES OF A SIZE

-- base b is not listed
unlists : ℕ → List BasePower → Bool
unlists b [] = true
unlists b (x ∷ xs) = not (eqb b x.base) && unlists b xs

-- each base is listed once
bases_differ : List BasePower → Bool
bases_differ [] = true
bases_differ (x ∷ xs) = unlists x.base xs && bases_differ xs

all_bases_differ : T (all_rows (λ u. bases_differ u.size.bases) units)
unfolding all_rows bases_differ unlists symbols_compute
all_bases_differ = tt

no_row_differs : T (bases_differ [])
unfolding bases_differ
no_row_differs = tt

row_bases_differ : (u : ℕ) → T (bases_differ (unit_at u).size.bases)
row_bases_differ u = every_row (λ u. bases_differ u.size.bases) all_bases_differ no_row_differs u

unlists_power : (b : ℕ) (xs : List BasePower) → T (unlists b xs) → base_power b xs ≡ pos 0
unfolding unlists base_power
unlists_power b [] t = refl
unlists_power b (x ∷ xs) t =
    let w = both (not (eqb b x.base)) (unlists b xs) t in
    rw (not-true (eqb b x.base) (T→true (not (eqb b x.base)) w.0), unlists_power b xs w.1)

power_in : (b : ℕ) (xs : List BasePower) → T (bases_differ xs) → PowerIn b xs (base_power b xs)
unfolding bases_differ base_power
power_in b [] t = unlisted (λ z h. h)
power_in b (x ∷ xs) t =
    let w = both (unlists x.base xs) (bases_differ xs) t in
    go (eqb b x.base) refl w.0 (power_in b xs w.1)
  where
    later : (z : ℤ) → eqb b x.base ≡ false → PowerIn b xs z → PowerIn b (x ∷ xs) z
    later z e (listed h) = listed (inr h)
    later z e (unlisted g) = unlisted (λ y h. elsewhere y h)
      where
        elsewhere : (y : ℤ) → (b ↑ y ≡ x) ⊎ ((b ↑ y) ∈ xs) → ⊥
        elsewhere y (inl q) = eqb-false b x.base e (ap (λ (v : BasePower). v.base) q)
        elsewhere y (inr h) = g y h

    go : (c : Bool) → eqb b x.base ≡ c → T (unlists x.base xs) → PowerIn b xs (base_power b xs)
        → PowerIn b (x ∷ xs) (pick c x.power (pos 0) +ℤ base_power b xs)
    go true e t ih =
        let q = eqb-true b x.base e in
        let z = ap (λ (c : ℕ). base_power c xs) q ∙ unlists_power x.base xs t in
        rw (z, +ℤ_idr x.power) (listed (inl (ap (λ (c : ℕ). c ↑ x.power) q)))
    go false e t ih = rw (+ℤ_idl (base_power b xs)) (later (base_power b xs) e ih)

pub row_power : (b u : ℕ) → PowerIn b (unit_at u).size.bases (base_power b (unit_at u).size.bases)
row_power b u = power_in b (unit_at u).size.bases (row_bases_differ u)

-- THE COUNT OF A SIZE: "a product of powers of 2, 3, 5 and 487"

powers : ℕ → ℕ → ℕ
powers n p = multiplicity 64 p n

factored : KnownUnit → Bool
factored u = eqb u.size.count (2 ^ powers u.size.count 2 * 3 ^ powers u.size.count 3 * 5 ^ powers u.size.count 5 * 487 ^ powers u.size.count 487)

sizes_factored : T (all_rows factored units)
unfolding all_rows factored powers symbols_compute
sizes_factored = tt

no_row_factored : T (factored no_row)
unfolding factored powers symbols_compute
no_row_factored = tt

pub row_product : (u : ℕ) → Product (λ p. multiplicity 64 p (unit_at u).size.count) (unit_at u).size.count
unfolding factored powers
row_product u = eqb-true _ _ (T→true (factored (unit_at u)) (every_row factored sizes_factored no_row_factored u))
