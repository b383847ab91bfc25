-- Units under a sign: turning twice, and turning of what is joined.
use Prim.Native.Nat.{ℕ}
use mathlib.Core.Path.{◌≡◌, refl}
use mathlib.Core.Bool.{Bool, true, false, not, not-not}
use mathlib.Core.List.{List, [], ◌∷◌, ◌++◌, map-append}
use Rattle.label.specs.Lexical.{Written, Part, part, turn, turned_all}

-- the units as they are under a sign
abbrev pub by : Bool → List Part → List Part
by true ps = turned_all ps
by false ps = ps

pub turn_turn : (ps : List Part) → turned_all (turned_all ps) ≡ ps
turn_turn [] = refl
turn_turn (p ∷ ps) = rw (not-not p.turned, turn_turn ps)

pub by_append : (b : Bool) (ps qs : List Part) → by b (ps ++ qs) ≡ by b ps ++ by b qs
by_append true ps qs = map-append turn ps qs
by_append false ps qs = refl

pub by_nil : (b : Bool) → by b [] ≡ []
by_nil true = refl
by_nil false = refl

pub by_turned : (b : Bool) (ps : List Part) → by b (turned_all ps) ≡ by (not b) ps
by_turned true ps = turn_turn ps
by_turned false ps = refl

pub by_part : (b : Bool) (l : List ℕ) (w : Written) (u : List ℕ)
    → by b (part l w u ∷ []) ≡ record { spelling = l; power = w; turned = b; left = (part l w u).left } ∷ []
by_part true l w u = refl
by_part false l w u = refl
