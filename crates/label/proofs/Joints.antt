-- What is between units: the texts that join are found by the functions, and what the functions find joins.
use Prim.Native.Nat.{ℕ, ◌≤◌}
use mathlib.Core.Path.{◌≡◌, refl, sym, ◌∙◌, ap}
use mathlib.Core.Bool.{Bool, true, false, ◌&&◌, ◌||◌}
use mathlib.Core.List.{List, [], ◌∷◌, ◌++◌, append_assoc}
use mathlib.Core.Option.{none as nothing, some}
use lib.Dec.{T, eqb}
use lib.ListN.{length, length-append}
use native.Mathlib.Omega.{arith}
use borrow.Author.Tests.{eqb-true}
use Rattle.label.specs.declared.Rules.{Rules}
use Rattle.label.specs.Bytes.{letter, all, run, past, close_bracket, open_bracket, percent, point, quote, slash, space, star}
use Rattle.label.specs.Choice.{pick}
use Rattle.label.specs.Parse.{stop, times, over, padded, spaced, joint_at, joint, leading_at, leading}
use Rattle.label.proofs.Basics.{none_some, T→true, true→T, both, Stops, run_past, run_all, past_of, differs, NoStar, Ends}
use Rattle.label.proofs.General.{Pad, TimesBy, OverBy}

-- what begins a spelling
pub data Spells : List ℕ → Type 0 where
  by_letter : {c : ℕ} {s : List ℕ} → T (letter c) → Spells (c ∷ s)
  by_percent : {s : List ℕ} → Spells (percent ∷ s)
  by_quote : {s : List ℕ} → Spells (quote ∷ s)

-- what begins a unit or a group
pub data BeginsItem : List ℕ → Type 0 where
  by_spelling : {s : List ℕ} → Spells s → BeginsItem s
  by_bracket : {s : List ℕ} → BeginsItem (open_bracket ∷ s)

abbrev pub is_space : ℕ → Bool
is_space c = eqb c space

-- a beginning's first byte is none of these
pub record Opener (c : ℕ) : Type 0 where
  pub no_space : eqb c space ≡ false
  pub no_star : eqb c star ≡ false
  pub no_point : eqb c point ≡ false
  pub no_slash : eqb c slash ≡ false

letter_opens : (c : ℕ) → T (letter c) → Opener c
unfolding letter
letter_opens c t = record { no_space = differs letter c space t refl; no_star = differs letter c star t refl; no_point = differs letter c point t refl; no_slash = differs letter c slash t refl }

-- a beginning taken apart
pub record Opens (s : List ℕ) : Type 0 where
  pub byte : ℕ
  pub rest : List ℕ
  pub is : s ≡ byte ∷ rest
  pub opener : Opener byte

opens_with : (c : ℕ) (s : List ℕ) → Opener c → Opens (c ∷ s)
opens_with c s o = record { byte = c; rest = s; is = refl; opener = o }

spelling_opens : {s : List ℕ} → Spells s → Opens s
spelling_opens (Spells.by_letter {c = c} {s = s} t) = opens_with c s (letter_opens c t)
spelling_opens (Spells.by_percent {s = s}) = opens_with percent s (record { no_space = refl; no_star = refl; no_point = refl; no_slash = refl })
spelling_opens (Spells.by_quote {s = s}) = opens_with quote s (record { no_space = refl; no_star = refl; no_point = refl; no_slash = refl })

pub opens : {s : List ℕ} → BeginsItem s → Opens s
opens (BeginsItem.by_spelling d) = spelling_opens d
opens (BeginsItem.by_bracket {s = s}) = opens_with open_bracket s (record { no_space = refl; no_star = refl; no_point = refl; no_slash = refl })

pub begins_stops : {s : List ℕ} → BeginsItem s → Stops is_space s
begins_stops b = let o = opens b in rw o.is (Stops.other o.opener.no_space)

-- SPACES

pub pad_all : {r : Rules} {a : List ℕ} → Pad r a → T (all is_space a)
unfolding all
pad_all Pad.none = tt
pad_all (Pad.space f p) = pad_all p

pad_none : {r : Rules} {a : List ℕ} → Pad r a → r.spaces ≡ false → a ≡ []
pad_none Pad.none e = refl
pad_none (Pad.space f p) e = absurd (rw e at f)

pub padded_pad : (r : Rules) {a : List ℕ} → Pad r a → (s : List ℕ) → Stops is_space s → padded r (a ++ s) ≡ s
unfolding padded
padded_pad r {a} p s h = go r.spaces refl
  where
    go : (b : Bool) → r.spaces ≡ b → pick b (past is_space (a ++ s)) (a ++ s) ≡ s
    go true e = past_of is_space a s (pad_all p) h
    go false e = rw (pad_none p e)

-- SEPARATORS

-- a byte that joins, alone or between spaces
separates : Rules → ℕ → Bool
separates r c = (eqb c star && r.star) || (eqb c point && r.point)

joint_byte : (r : Rules) {a b : List ℕ} (c : ℕ) → Pad r a → Pad r b → eqb c space ≡ false → separates r c ≡ true → (s : List ℕ) → Stops is_space s
    → joint r ((a ++ c ∷ b) ++ s) ≡ times s
unfolding joint joint_at separates
joint_byte r {a} {b} c p q n h s w = rw (append_assoc a (c ∷ b) s, padded_pad r p (c ∷ b ++ s) (Stops.other n), h, padded_pad r q s w)

after_spaces : (r : Rules) (w : List ℕ) (c : ℕ) (u v : List ℕ) → Opener c → r.space ≡ true → padded r w ≡ v → joint_at r (space ∷ w) (c ∷ u) ≡ times v
unfolding joint_at spaced
after_spaces r w c u v o f q = rw (o.no_star, o.no_point, o.no_slash, q, f)

joint_space : (r : Rules) {a : List ℕ} → r.space ≡ true → Pad r a → (s : List ℕ) → BeginsItem s → joint r (space ∷ a ++ s) ≡ times s
unfolding joint joint_at spaced padded all
joint_space r {a} f p s w = go r.spaces refl
  where
    tail : padded r (a ++ s) ≡ s
    tail = padded_pad r p s (begins_stops w)

    after : joint_at r (space ∷ a ++ s) s ≡ times s
    after = let o = opens w in ap (λ (l : List ℕ). joint_at r (space ∷ a ++ s) l) o.is ∙ after_spaces r (a ++ s) o.byte o.rest s o.opener f tail

    go : (b : Bool) → r.spaces ≡ b → joint_at r (space ∷ a ++ s) (pick b (past is_space (space ∷ a ++ s)) (space ∷ a ++ s)) ≡ times s
    go true e = rw (past_of is_space (space ∷ a) s (pad_all p) (begins_stops w)) after
    go false e = rw (f, tail)

pub times_joint : (r : Rules) {j : List ℕ} → TimesBy r j → (s : List ℕ) → BeginsItem s → joint r (j ++ s) ≡ times s
unfolding separates
times_joint r (TimesBy.space f p) s w = joint_space r (T→true r.space f) p s w
times_joint r (TimesBy.star f p q) s w = joint_byte r star p q refl (rw (T→true r.star f)) s (begins_stops w)
times_joint r (TimesBy.point f p q) s w = joint_byte r point p q refl (rw (T→true r.point f)) s (begins_stops w)

pub over_joint : (r : Rules) {j : List ℕ} → OverBy r j → (s : List ℕ) → BeginsItem s → joint r (j ++ s) ≡ over s
unfolding joint joint_at
over_joint r (OverBy.slashed {a = a} {b = b} f p q) s w =
    rw (append_assoc a (slash ∷ b) s, padded_pad r p (slash ∷ b ++ s) (Stops.other refl), padded_pad r q s (begins_stops w), T→true r.each f)

pub over_leading : (r : Rules) {j : List ℕ} → OverBy r j → (s : List ℕ) → BeginsItem s → leading r (j ++ s) ≡ some s
unfolding leading leading_at
over_leading r (OverBy.slashed {a = a} {b = b} f p q) s w =
    rw (append_assoc a (slash ∷ b) s, padded_pad r p (slash ∷ b ++ s) (Stops.other refl), padded_pad r q s (begins_stops w), T→true r.each f)

-- no slash leads a text that begins with a unit or a group
pub begins_leading : (r : Rules) {s : List ℕ} → BeginsItem s → leading r s ≡ nothing
unfolding leading leading_at
begins_leading r {s} w =
    let o = opens w in
    rw (padded_pad r Pad.none s (begins_stops w), o.is, o.opener.no_slash)

-- WHERE NOTHING JOINS

pub end_stops : (r : Rules) → joint r [] ≡ stop
unfolding joint joint_at
end_stops r = rw (padded_pad r Pad.none [] Stops.end)

pub close_stops : (r : Rules) (s : List ℕ) → joint r (close_bracket ∷ s) ≡ stop
unfolding joint joint_at spaced
close_stops r s = rw (padded_pad r Pad.none (close_bracket ∷ s) (Stops.other refl))

pub slash_stops : (r : Rules) (s : List ℕ) → r.each ≡ false → joint r (slash ∷ s) ≡ stop
unfolding joint joint_at spaced
slash_stops r s f = rw (padded_pad r Pad.none (slash ∷ s) (Stops.other refl), f)

-- WHAT JOINS MAY FOLLOW A UNIT OR A GROUP

begins_no_star : {s : List ℕ} → BeginsItem s → NoStar s
begins_no_star b = let o = opens b in rw o.is (NoStar.other o.opener.no_star)

pad_no_star : {r : Rules} {b : List ℕ} → Pad r b → (s : List ℕ) → BeginsItem s → NoStar (b ++ s)
pad_no_star Pad.none s w = begins_no_star w
pad_no_star (Pad.space f p) s w = NoStar.other refl

pad_ends : {r : Rules} {a : List ℕ} → Pad r a → (s : List ℕ) → Ends s → Ends (a ++ s)
pad_ends Pad.none s h = h
pad_ends (Pad.space f p) s h = Ends.space

pub times_ends : {r : Rules} {j : List ℕ} → TimesBy r j → (s : List ℕ) → BeginsItem s → Ends (j ++ s)
times_ends (TimesBy.space f p) s w = Ends.space
times_ends (TimesBy.star {a = a} {b = b} f p q) s w = rw (append_assoc a (star ∷ b) s) (pad_ends p (star ∷ b ++ s) (Ends.star (pad_no_star q s w)))
times_ends (TimesBy.point {a = a} {b = b} f p q) s w = rw (append_assoc a (point ∷ b) s) (pad_ends p (point ∷ b ++ s) Ends.point)

pub over_ends : {r : Rules} {j : List ℕ} → OverBy r j → (s : List ℕ) → Ends (j ++ s)
over_ends (OverBy.slashed {a = a} {b = b} f p q) s = rw (append_assoc a (slash ∷ b) s) (pad_ends p (slash ∷ b ++ s) Ends.slash)

-- what joins has a byte at least
middle_long : (a b : List ℕ) (c : ℕ) → 1 ≤ length (a ++ c ∷ b)
middle_long a b c = omega (arith, length-append a (c ∷ b))

pub times_long : {r : Rules} {j : List ℕ} → TimesBy r j → 1 ≤ length j
times_long (TimesBy.space f p) = omega arith
times_long (TimesBy.star {a = a} {b = b} f p q) = middle_long a b star
times_long (TimesBy.point {a = a} {b = b} f p q) = middle_long a b point

pub over_long : {r : Rules} {j : List ℕ} → OverBy r j → 1 ≤ length j
over_long (OverBy.slashed {a = a} {b = b} f p q) = middle_long a b slash

-- WHAT IS FOUND JOINS

all_pad : (r : Rules) → T r.spaces → (a : List ℕ) → T (all is_space a) → Pad r a
unfolding all
all_pad r f [] t = Pad.none
all_pad r f (c ∷ a) t =
    let w = both (is_space c) (all is_space a) t in
    rw (eqb-true c space (T→true (is_space c) w.0)) (Pad.space f (all_pad r f a w.1))

-- the spaces that are passed, and what follows them
padded_sound : (r : Rules) (s : List ℕ) → (a : List ℕ) × Pad r a × (s ≡ a ++ padded r s)
unfolding padded
padded_sound r s = go r.spaces refl
  where
    go : (b : Bool) → r.spaces ≡ b → (a : List ℕ) × Pad r a × (s ≡ a ++ pick b (past is_space s) s)
    go true e = (run is_space s, all_pad r (true→T e) (run is_space s) (run_all is_space s), run_past is_space s)
    go false e = ([], Pad.none, refl)

stop_times : {u : List ℕ} → stop ≡ times u → ⊥
stop_times e = let z : ◌≡◌ {A = ℕ} 0 1 = cc in omega arith

over_times : {u v : List ℕ} → over v ≡ times u → ⊥
over_times e = let z : ◌≡◌ {A = ℕ} 0 1 = cc in omega arith

stop_over : {u : List ℕ} → stop ≡ over u → ⊥
stop_over e = let z : ◌≡◌ {A = ℕ} 0 1 = cc in omega arith

spaced_sound : (r : Rules) (s u : List ℕ) → spaced r s ≡ times u → (j : List ℕ) × TimesBy r j × (s ≡ j ++ u)
unfolding spaced
spaced_sound r [] u h = absurd (stop_times h)
spaced_sound r (c ∷ s) u h = go (eqb c space) r.space refl refl h
  where
    go : (x y : Bool) → eqb c space ≡ x → r.space ≡ y → pick (x && y) (times (padded r s)) stop ≡ times u → (j : List ℕ) × TimesBy r j × (c ∷ s ≡ j ++ u)
    go true true p q h =
        let w = padded_sound r s in
        let e : padded r s ≡ u = cc in
        (space ∷ w.0, TimesBy.space (true→T q) w.1, rw (eqb-true c space p) (ap (λ (l : List ℕ). space ∷ l) (w.2 ∙ ap (λ (l : List ℕ). w.0 ++ l) e)))
    go true false p q h = absurd (stop_times h)
    go false y p q h = absurd (stop_times h)

spaced_no_over : (r : Rules) (s u : List ℕ) → spaced r s ≡ over u → ⊥
unfolding spaced
spaced_no_over r [] u h = stop_over h
spaced_no_over r (c ∷ s) u h = go (eqb c space && r.space) h
  where
    go : (x : Bool) → pick x (times (padded r s)) stop ≡ over u → ⊥
    go true h = over_times (sym h)
    go false h = stop_over h

-- a separator between its spaces
between : (r : Rules) (s t u : List ℕ) (c d : ℕ) → padded r s ≡ c ∷ t → c ≡ d → padded r t ≡ u → (a : List ℕ) × (b : List ℕ) × Pad r a × Pad r b × (s ≡ (a ++ d ∷ b) ++ u)
between r s t u c d p q e =
    let v = padded_sound r s in
    let w = padded_sound r t in (
      v.0,
      w.0,
      v.1,
      w.1,
      v.2 ∙ ap (λ (l : List ℕ). v.0 ++ l) (p ∙ ap (λ (z : ℕ). z ∷ t) q ∙ ap (λ (l : List ℕ). d ∷ l) (w.2 ∙ ap (λ (l : List ℕ). w.0 ++ l) e)) ∙ sym (append_assoc v.0 (d ∷ w.0) u),
    )

joint_at_times : (r : Rules) (s t u : List ℕ) → padded r s ≡ t → joint_at r s t ≡ times u → (j : List ℕ) × TimesBy r j × (s ≡ j ++ u)
unfolding joint_at
joint_at_times r s [] u p h = absurd (stop_times h)
joint_at_times r s (c ∷ t) u p h = go (eqb c star) r.star (eqb c point) r.point (eqb c slash && r.each) refl refl refl refl h
  where
    stars : eqb c star ≡ true → r.star ≡ true → times (padded r t) ≡ times u → (j : List ℕ) × TimesBy r j × (s ≡ j ++ u)
    stars e f h = let w = between r s t u c star p (eqb-true c star e) (cc) in (w.0 ++ star ∷ w.1, TimesBy.star (true→T f) w.2 w.3, w.4)

    points : eqb c point ≡ true → r.point ≡ true → times (padded r t) ≡ times u → (j : List ℕ) × TimesBy r j × (s ≡ j ++ u)
    points e f h = let w = between r s t u c point p (eqb-true c point e) (cc) in (w.0 ++ point ∷ w.1, TimesBy.point (true→T f) w.2 w.3, w.4)

    rest : (z : Bool) → pick z (over (padded r t)) (spaced r s) ≡ times u → (j : List ℕ) × TimesBy r j × (s ≡ j ++ u)
    rest true h = absurd (over_times h)
    rest false h = spaced_sound r s u h

    go : (x₁ y₁ x₂ y₂ z : Bool) → eqb c star ≡ x₁ → r.star ≡ y₁ → eqb c point ≡ x₂ → r.point ≡ y₂
        → pick ((x₁ && y₁) || (x₂ && y₂)) (times (padded r t)) (pick z (over (padded r t)) (spaced r s)) ≡ times u → (j : List ℕ) × TimesBy r j × (s ≡ j ++ u)
    go true true x₂ y₂ z e₁ f₁ e₂ f₂ h = stars e₁ f₁ h
    go true false true true z e₁ f₁ e₂ f₂ h = points e₂ f₂ h
    go true false true false z e₁ f₁ e₂ f₂ h = rest z h
    go true false false y₂ z e₁ f₁ e₂ f₂ h = rest z h
    go false y₁ true true z e₁ f₁ e₂ f₂ h = points e₂ f₂ h
    go false y₁ true false z e₁ f₁ e₂ f₂ h = rest z h
    go false y₁ false y₂ z e₁ f₁ e₂ f₂ h = rest z h

pub joint_times : (r : Rules) (s u : List ℕ) → joint r s ≡ times u → (j : List ℕ) × TimesBy r j × (s ≡ j ++ u)
unfolding joint
joint_times r s u h = joint_at_times r s (padded r s) u refl h

joint_at_over : (r : Rules) (s t u : List ℕ) → padded r s ≡ t → joint_at r s t ≡ over u → (j : List ℕ) × OverBy r j × (s ≡ j ++ u)
unfolding joint_at
joint_at_over r s [] u p h = absurd (stop_over h)
joint_at_over r s (c ∷ t) u p h = go ((eqb c star && r.star) || (eqb c point && r.point)) (eqb c slash) r.each refl refl h
  where
    go : (x y z : Bool) → eqb c slash ≡ y → r.each ≡ z → pick x (times (padded r t)) (pick (y && z) (over (padded r t)) (spaced r s)) ≡ over u
        → (j : List ℕ) × OverBy r j × (s ≡ j ++ u)
    go true y z e f h = absurd (over_times (sym h))
    go false true true e f h = let w = between r s t u c slash p (eqb-true c slash e) (cc) in (w.0 ++ slash ∷ w.1, OverBy.slashed (true→T f) w.2 w.3, w.4)
    go false true false e f h = absurd (spaced_no_over r s u h)
    go false false z e f h = absurd (spaced_no_over r s u h)

pub joint_over : (r : Rules) (s u : List ℕ) → joint r s ≡ over u → (j : List ℕ) × OverBy r j × (s ≡ j ++ u)
unfolding joint
joint_over r s u h = joint_at_over r s (padded r s) u refl h

leading_at_over : (r : Rules) (s t u : List ℕ) → padded r s ≡ t → leading_at r t ≡ some u → (j : List ℕ) × OverBy r j × (s ≡ j ++ u)
unfolding leading_at
leading_at_over r s [] u p h = absurd (none_some h)
leading_at_over r s (c ∷ t) u p h = go (eqb c slash) r.each refl refl h
  where
    go : (y z : Bool) → eqb c slash ≡ y → r.each ≡ z → pick (y && z) (some (padded r t)) nothing ≡ some u → (j : List ℕ) × OverBy r j × (s ≡ j ++ u)
    go true true e f h = let w = between r s t u c slash p (eqb-true c slash e) (cc) in (w.0 ++ slash ∷ w.1, OverBy.slashed (true→T f) w.2 w.3, w.4)
    go true false e f h = absurd (none_some h)
    go false z e f h = absurd (none_some h)

pub leading_over : (r : Rules) (s u : List ℕ) → leading r s ≡ some u → (j : List ℕ) × OverBy r j × (s ≡ j ++ u)
unfolding leading
leading_over r s u h = leading_at_over r s (padded r s) u refl h
