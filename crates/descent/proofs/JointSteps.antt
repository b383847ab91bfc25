-- What is between units, at a place of the text: one law for each way through the code.
use Prim.Native.Nat.{ℕ, ◌≤◌, ◌<◌, ◌+◌}
use native.Mathlib.Omega.{arith}
use mathlib.Core.Path.{◌≡◌, refl, sym, ◌∙◌}
use mathlib.Core.Bool.{Bool, true, false, ◌&&◌, not}
use mathlib.Core.List.{List}
use mathlib.Core.Option.{none, some}
use Rattle.std.specs.Prelude.{Option, Some, None}
use lib.Dec.{eqb}
use lib.ListN.{length, drop, get_or}
use Rattle.label.specs.declared.Rules.{Rules}
use Rattle.label.specs.Bytes.{space, slash}
use Rattle.label.specs.Choice.{pick}
use Rattle.label.specs.Parse.{stop, times, padded, spaced, joint_at, joint, leading_at, leading}
use Rattle.label.proofs.Between.{here, beyond}
use Rattle.scan.specs.Runs.{Run, is_space}
use Rattle.tokens.proofs.Readers.{by_byte}
use Rattle.descent.specs.declared.joint.JointAt.{JointAt}
use Rattle.descent.specs.Joints.{separates, Pads, Joins, SpacesJoin, Leads, slashed, Slashes}

module _ {r : Rules} {s : List ℕ} {at : ℕ} where
  pub pads_spaces : {e : ℕ} → r.spaces ≡ true → Run is_space s at e → Pads r s at e
  unfolding padded
  pads_spaces f w = record { rest = rw f w.rest; from = w.from; within = w.within }

  pub pads_nothing : r.spaces ≡ false → at ≤ length s → Pads r s at at
  unfolding padded
  pads_nothing f h = record { rest = rw f; from = omega arith; within = h }

-- SPACES

spaced_is : (r : Rules) (s : List ℕ) (at : ℕ) → spaced r (drop at s) ≡ pick (eqb (get_or s at 0) space && r.space) (times (padded r (drop (at + 1) s))) stop
unfolding spaced
spaced_is r s at = by_byte (spaced r) (λ c w u. pick (eqb c space && r.space) (times (padded r u)) stop) (λ c u. refl) refl s at

module _ {r : Rules} {s : List ℕ} {at c : ℕ} (h : c ≡ get_or s at 0) where
  pub spaces_join : {p : ℕ} → (eqb c space && r.space) ≡ true → Pads r s (at + 1) p → SpacesJoin r s at (Some (record { over = false; next = p }))
  spaces_join t w = record { tied = record { is = rw (spaced_is r s at, ← h, t, w.rest); after = omega (arith, w.from); within = w.within } }

  pub no_space_joins : (eqb c space && r.space) ≡ false → SpacesJoin r s at None
  no_space_joins t = record { tied = rw (spaced_is r s at, ← h, t) }

-- SEPARATORS AND SLASHES

module _ {r : Rules} {s : List ℕ} {at p : ℕ} (w : Pads r s at p) where
  pub end_joins_nothing : length s ≤ p → Joins r s at None
  unfolding joint joint_at
  end_joins_nothing h = record { tied = rw (← w.rest, beyond s p h) }

  module _ (h : p < length s) {c : ℕ} (k : c ≡ get_or s p 0) {x : Bool} (e : x ≡ separates r c) where
    pub separator_joins : {q : ℕ} → x ≡ true → Pads r s (p + 1) q → Joins r s at (Some (record { over = false; next = q }))
    unfolding joint joint_at
    separator_joins t v = record { tied = record { is = rw (← w.rest, here s p h, ← k, sym e ∙ t, v.rest); after = omega (arith, w.from, v.from); within = v.within } }

    module _ (t : x ≡ false) where
      pub slash_joins : {q : ℕ} → (eqb c slash && r.each) ≡ true → Pads r s (p + 1) q → Joins r s at (Some (record { over = true; next = q }))
      unfolding joint joint_at
      slash_joins u v = record {
        tied = record { is = rw (← w.rest, here s p h, ← k, sym e ∙ t, u, v.rest); after = omega (arith, w.from, v.from); within = v.within };
      }

      pub spaces_alone_join : {o : Option JointAt} → (eqb c slash && r.each) ≡ false → SpacesJoin r s at o → Joins r s at o
      unfolding joint joint_at
      spaces_alone_join u v = record { tied = rw (← w.rest, here s p h, ← k, sym e ∙ t, u) v.tied }

-- THE LEADING SLASH

module _ {r : Rules} {s : List ℕ} {at p : ℕ} (w : Pads r s at p) where
  leading_is : leading r (drop at s) ≡ pick (eqb (get_or s p 0) slash && r.each) (some (padded r (drop (p + 1) s))) none
  unfolding leading leading_at
  leading_is = rw (← w.rest) (by_byte (leading_at r) (λ c v u. pick (eqb c slash && r.each) (some (padded r u)) none) (λ c u. refl) refl s p)

  module _ {c : ℕ} (h : c ≡ get_or s p 0) where
    pub slash_leads : {q : ℕ} → (eqb c slash && r.each) ≡ true → Pads r s (p + 1) q → Leads r s at (Some q)
    slash_leads t v = record { leads = record { is = rw (leading_is, ← h, t, v.rest); from = omega (arith, w.from, v.from); within = v.within } }

    pub no_slash_leads : (eqb c slash && r.each) ≡ false → Leads r s at None
    no_slash_leads t = record { leads = rw (leading_is, ← h, t) }

-- THE LAST SLASH

pub slashed_is : (r : Rules) (s : List ℕ) (at : ℕ) → slashed r (drop at s) ≡ (eqb (get_or s at 0) slash && not r.each)
unfolding slashed
slashed_is r s at = by_byte (slashed r) (λ c w u. eqb c slash && not r.each) (λ c u. refl) refl s at

module _ {r : Rules} {s : List ℕ} {at : ℕ} {over : Bool} where
  pub no_slash_allowed : {x : Bool} → over ≡ false → x ≡ over → Slashes r over s at x
  no_slash_allowed e q = record { is = rw (q, e) }

  pub slash_allowed : {c : ℕ} {x : Bool} → over ≡ true → c ≡ get_or s at 0 → x ≡ (eqb c slash && not r.each) → Slashes r over s at x
  slash_allowed e h q = record { is = rw (e, slashed_is r s at, ← h) q }
