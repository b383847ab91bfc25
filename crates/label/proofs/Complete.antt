-- Completeness: the functions find every derivation of the general grammar, whatever follows it, with any fuel from a bound on.
use Prim.Native.Nat.{ℕ, zero, suc, ◌+◌, ◌*◌, ◌≤◌, ◌<◌}
use native.Mathlib.Omega.{arith}
use mathlib.Core.Path.{◌≡◌, refl, ap, sym, ◌∙◌}
use mathlib.Core.Bool.{Bool, false, not}
use mathlib.Core.List.{List, [], ◌∷◌, ◌++◌, append_assoc}
use lib.ListN.{length, length-append}
use Rattle.label.specs.declared.Rules.{Rules}
use Rattle.label.specs.Bytes.{letter, close_bracket, open_bracket, quote, slash}
use Rattle.label.specs.Lexical.{Written, Part, part, turned_all, Kind, item, more, product, quotient, Letters, letters, quoted, prefixed}
use Rattle.label.specs.Parse.{Found, found, then, mapped, byte, closed, unit, stop, joint, appended, chained, item_at, item_by, more_at, product_at, quotient_on, inside, read}
use Rattle.label.proofs.Basics.{T_not, differs, Ends}
use Rattle.label.proofs.Signs.{by, by_append, by_nil, by_turned, by_part}
use Rattle.label.proofs.General.{SpellingBy, ExponentBy, G}
use Rattle.label.proofs.Joints.{Spells, BeginsItem, times_joint, over_joint, over_leading, begins_leading, end_stops, close_stops, slash_stops, times_ends, over_ends, times_long, over_long}
use Rattle.label.proofs.LexComplete.{prefix_lettered, exponent_complete, exponent_unlettered, spelling_complete}

-- WHAT A UNIT OR A GROUP BEGINS WITH

letters_spell : {l : List ℕ} → Letters l → (u : List ℕ) → Spells (l ++ u)
letters_spell (letters t a) u = Spells.by_letter t

spelling_begins : {r : Rules} {l : List ℕ} → SpellingBy r l → (u : List ℕ) → Spells (l ++ u)
spelling_begins (SpellingBy.letters d) u = letters_spell d u
spelling_begins (SpellingBy.percent f) u = Spells.by_percent
spelling_begins (SpellingBy.quoted f (quoted d)) u = Spells.by_quote
spelling_begins (SpellingBy.quoted f (prefixed {p = p} {l = l} d e)) u =
    rw (append_assoc (p ++ quote ∷ l) (quote ∷ []) u, append_assoc p (quote ∷ l) (quote ∷ u)) (letters_spell (prefix_lettered d) (quote ∷ l ++ quote ∷ u))

pub item_begins : {r : Rules} {s t : List ℕ} {ps : List Part} → G r item s t ps → BeginsItem s
item_begins (G.unit {l = l} {e = e} {t = t} d x) = BeginsItem.by_spelling (spelling_begins d (e ++ t))
item_begins (G.group d) = BeginsItem.by_bracket

-- WHAT MAY FOLLOW

-- the end, or a closing bracket
pub data Closes : List ℕ → Type 0 where
  end : Closes []
  close : {s : List ℕ} → Closes (close_bracket ∷ s)

closes_ends : {s : List ℕ} → Closes s → Ends s
closes_ends Closes.end = Ends.end
closes_ends Closes.close = Ends.close

closes_stops : (r : Rules) {s : List ℕ} → Closes s → joint r s ≡ stop
closes_stops r Closes.end = end_stops r
closes_stops r (Closes.close {s = s}) = close_stops r s

-- what each kind asks of what follows it
abbrev pub Follows : Rules → Kind → List ℕ → Type 0
Follows r item s = Ends s
Follows r more s = Ends s × (joint r s ≡ stop)
Follows r product s = Ends s × (joint r s ≡ stop)
Follows r quotient s = Closes s

close_follows : (r : Rules) (x : Kind) (s : List ℕ) → Follows r x (close_bracket ∷ s)
close_follows r item s = Ends.close
close_follows r more s = (Ends.close, close_stops r s)
close_follows r product s = (Ends.close, close_stops r s)
close_follows r quotient s = Closes.close

more_ends : {r : Rules} {s t : List ℕ} {ps : List Part} → G r more s t ps → Ends t → Ends s
more_ends G.done h = h
more_ends (G.times {s = s} j d m) h = times_ends j s (item_begins d)
more_ends (G.over {s = s} j d m) h = over_ends j s

-- HOW MUCH IS READ

abbrev pub least : Kind → ℕ
least item = 1
least more = 0
least product = 1
least quotient = 1

spelling_long : {r : Rules} {l : List ℕ} → SpellingBy r l → 1 ≤ length l
spelling_long (SpellingBy.letters (letters t a)) = omega arith
spelling_long (SpellingBy.percent f) = omega arith
spelling_long (SpellingBy.quoted f (quoted d)) = omega arith
spelling_long (SpellingBy.quoted f (prefixed {p = p} {l = l} d e)) = omega (arith, length-append (p ++ quote ∷ l) (quote ∷ []))

pub shorter : {r : Rules} {x : Kind} {s t : List ℕ} {ps : List Part} → G r x s t ps → length t + least x ≤ length s
shorter (G.unit {l = l} {e = e} {t = t} d x) = omega (arith, spelling_long d, length-append l (e ++ t), length-append e t)
shorter (G.group d) = omega (arith, shorter d)
shorter (G.first d m) = omega (arith, shorter d, shorter m)
shorter (G.under {j = j} {s = s} o d m) = omega (arith, shorter d, shorter m, length-append j s)
shorter G.done = omega arith
shorter (G.times {j = j} {s = s} o d m) = omega (arith, shorter d, shorter m, length-append j s)
shorter (G.over {j = j} {s = s} o d m) = omega (arith, shorter d, shorter m, length-append j s)
shorter (G.plain d) = shorter d
shorter (G.divided f d i) = omega (arith, shorter d, shorter i)

-- THE PARTS

-- a unit
unit_complete : (r : Rules) (b : Bool) {l e : List ℕ} {w : Written} → SpellingBy r l → ExponentBy r e w → (t : List ℕ) → Ends t
    → unit r b (l ++ (e ++ t)) ≡ found (by b (part l w (e ++ t) ∷ [])) t
unfolding unit then mapped
unit_complete r b {l} {e} {w} d x t h =
    rw (spelling_complete r d (e ++ t) (exponent_unlettered x t h), exponent_complete r x t h, by_part b l w (e ++ t))

-- a text that begins with a unit's spelling is read as a unit
item_unit : (r : Rules) (b : Bool) (f : List ℕ → Found (List Part)) {s : List ℕ} → Spells s → item_by r b f s ≡ unit r b s
unfolding item_by item_at letter
item_unit r b f (Spells.by_letter {c = c} t) = rw (differs letter c open_bracket t refl)
item_unit r b f Spells.by_percent = refl
item_unit r b f Spells.by_quote = refl

-- a group
group_complete : (r : Rules) (b : Bool) (f : List ℕ → Found (List Part)) (s t : List ℕ) (ps : List Part) → f s ≡ found ps (close_bracket ∷ t) → item_by r b f (open_bracket ∷ s) ≡ found ps t
unfolding item_by item_at closed then byte
group_complete r b f s t ps q = rw q

-- an item, then what follows it
chained_by : (x : Found (List Part)) (f : List ℕ → Found (List Part)) (b : Bool) (ps qs : List Part) (u v : List ℕ)
    → x ≡ found (by b ps) u → f u ≡ found (by b qs) v → chained x f ≡ found (by b (ps ++ qs)) v
unfolding chained then appended mapped
chained_by x f b ps qs u v p q = rw (p, q, by_append b ps qs)

-- an item below a slash, then what follows it
chained_turned : (x : Found (List Part)) (f : List ℕ → Found (List Part)) (b : Bool) (ps qs : List Part) (u v : List ℕ)
    → x ≡ found (by (not b) ps) u → f u ≡ found (by b qs) v → chained x f ≡ found (by b (turned_all ps ++ qs)) v
chained_turned x f b ps qs u v p q = chained_by x f b (turned_all ps) qs u v (p ∙ ap (λ (l : List Part). found l u) (sym (by_turned b ps))) q

-- how much fuel a kind asks for beyond three times the text's length
abbrev pub rank : Kind → ℕ
rank item = 0
rank more = 0
rank product = 1
rank quotient = 2

pub rank_most : (x : Kind) → rank x ≤ 2
rank_most item = omega arith
rank_most more = omega arith
rank_most product = omega arith
rank_most quotient = omega arith

quotient_ends : (r : Rules) (f : List ℕ → Found (List Part)) (ps : List Part) {s : List ℕ} → Closes s → quotient_on r f ps s ≡ found ps s
unfolding quotient_on
quotient_ends r f ps Closes.end = refl
quotient_ends r f ps Closes.close = refl

quotient_slash : (r : Rules) (f : List ℕ → Found (List Part)) (b : Bool) (ps qs : List Part) (s u : List ℕ) → r.each ≡ false
    → f s ≡ found (by (not b) qs) u → quotient_on r f (by b ps) (slash ∷ s) ≡ found (by b (ps ++ turned_all qs)) u
unfolding quotient_on appended mapped
quotient_slash r f b ps qs s u e q = rw (e, q, by_append b ps (turned_all qs), by_turned b qs)

pub complete : {r : Rules} {x : Kind} {s t : List ℕ} {ps : List Part} → G r x s t ps → (b : Bool) → Follows r x t
    → (k : ℕ) → 3 * length s + rank x < k → read r k x b s ≡ found (by b ps) t
unfolding read product_at more_at then
complete d b h zero le = absurd (omega arith)
complete {r} (G.unit {l = l} {e = e} {t = t} d x) b h (suc k) le = item_unit r b _ (spelling_begins d (e ++ t)) ∙ unit_complete r b d x t h
complete {r} (G.group {s = s} {t = t} d) b h (suc k) le =
    group_complete r b _ s t _ (complete d b (close_follows r (inside r) t) k (omega (arith, rank_most (inside r), le)))
complete {r} (G.first {s = s} {t = t} {u = u} {ps = ps} {qs = qs} d m) b h (suc k) le =
    rw (begins_leading r (item_begins d))
    (chained_by _ _ b ps qs t u
    (complete d b (more_ends m h.0) k (omega (arith, le)))
    (complete m b h k (omega (arith, le, shorter d))))
complete {r} (G.under {j = j} {s = s} {t = t} {u = u} {ps = ps} {qs = qs} o d m) b h (suc k) le =
    rw (over_leading r o s (item_begins d))
    (chained_turned _ _ b ps qs t u
    (complete d (not b) (more_ends m h.0) k (omega (arith, le, length-append j s)))
    (complete m b h k (omega (arith, le, shorter d, length-append j s))))
complete {r} (G.done {s = s}) b h (suc k) le = rw (h.1, by_nil b)
complete {r} (G.times {j = j} {s = s} {t = t} {u = u} {ps = ps} {qs = qs} o d m) b h (suc k) le =
    rw (times_joint r o s (item_begins d))
    (chained_by _ _ b ps qs t u
    (complete d b (more_ends m h.0) k (omega (arith, le, length-append j s, times_long o)))
    (complete m b h k (omega (arith, le, shorter d, length-append j s, times_long o))))
complete {r} (G.over {j = j} {s = s} {t = t} {u = u} {ps = ps} {qs = qs} o d m) b h (suc k) le =
    rw (over_joint r o s (item_begins d))
    (chained_turned _ _ b ps qs t u
    (complete d (not b) (more_ends m h.0) k (omega (arith, le, length-append j s, over_long o)))
    (complete m b h k (omega (arith, le, shorter d, length-append j s, over_long o))))
complete {r} (G.plain {s = s} {t = t} {ps = ps} d) b h (suc k) le =
    rw (complete d b (closes_ends h, closes_stops r h) k (omega (arith, le))) (quotient_ends r _ (by b ps) h)
complete {r} (G.divided {s = s} {t = t} {u = u} {ps = ps} {qs = qs} f d i) b h (suc k) le =
    rw (complete d b (Ends.slash, slash_stops r t (T_not r.each f)) k (omega (arith, le)))
    (quotient_slash r _ b ps qs t u (T_not r.each f) (complete i (not b) (closes_ends h) k (omega (arith, le, shorter d))))
