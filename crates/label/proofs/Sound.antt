-- Soundness: what the functions find has a derivation in the general grammar.
use Prim.Native.Nat.{ℕ, zero, suc}
use mathlib.Core.Path.{◌≡◌, refl, ap, sym, ◌∙◌}
use mathlib.Core.Bool.{Bool, true, false, ◌&&◌, not}
use mathlib.Core.List.{List, [], ◌∷◌, ◌++◌}
use mathlib.Core.Option.{Option, none as nothing, some}
use lib.Dec.{eqb}
use lib.ListN.{length}
use borrow.Author.Tests.{eqb-true}
use Rattle.label.specs.Bytes.{close_bracket, open_bracket, slash}
use Rattle.label.specs.declared.Rules.{Rules}
use Rattle.label.specs.Choice.{pick}
use Rattle.label.specs.Lexical.{Written, Part, part, turned_all, Kind, item, more, product, quotient}
use Rattle.label.specs.Parse.{Found, found, then, mapped, exponent, spelling, unit, Joint, stop, times, over, joint, leading, appended, chained, item_at, item_by, more_at, product_at, quotient_on, inside, read}
use Rattle.label.proofs.Basics.{none_found, then_found, mapped_found, closed_found}
use Rattle.label.proofs.Signs.{by, by_append, by_nil, by_turned, by_part}
use Rattle.label.proofs.General.{SpellingBy, ExponentBy, G}
use Rattle.label.proofs.Joints.{joint_times, joint_over, leading_over}
use Rattle.label.proofs.LexSound.{exponent_sound, spelling_sound}

-- a derivation of what was found under a sign
pub record Derived (r : Rules) (x : Kind) (b : Bool) (s : List ℕ) (ps : List Part) (t : List ℕ) : Type 0 where
  pub parts : List Part
  pub derivation : G r x s t parts
  pub signed : ps ≡ by b parts

-- UNITS AND GROUPS

-- the texts of a spelling and its power put together
unit_derived : (r : Rules) (b : Bool) (s l mid e t : List ℕ) (w : Written) (ps : List Part) → SpellingBy r l → ExponentBy r e w
    → s ≡ l ++ mid → mid ≡ e ++ t → record { spelling = l; power = w; turned = b; left = length s } ∷ [] ≡ ps → Derived r item b s ps t
unit_derived r b s l mid e t w ps d x p q h =
    let z : s ≡ l ++ (e ++ t) = p ∙ ap (λ (u : List ℕ). l ++ u) q in
    record {
      parts = part l w (e ++ t) ∷ [];
      derivation = rw z (G.unit d x);
      signed = sym h ∙ ap (λ (u : List ℕ). record { spelling = l; power = w; turned = b; left = length u } ∷ []) z ∙ sym (by_part b l w (e ++ t));
    }

unit_sound : (r : Rules) (b : Bool) (s : List ℕ) (ps : List Part) (t : List ℕ) → unit r b s ≡ found ps t → Derived r item b s ps t
unfolding unit
unit_sound r b s ps t h =
    let v = then_found (spelling r s) _ ps t h in
    let w = mapped_found _ (exponent r v.mid) ps t v.two in
    let d = spelling_sound r s v.value v.mid v.one in
    let x = exponent_sound r v.mid w.value t w.one in
    unit_derived r b s v.value v.mid x.0 t w.value ps d.0 x.1 d.1 x.2 w.is

-- one thing and then another, both found
record BothFound (x : Found (List Part)) (g : List ℕ → Found (List Part)) (ps : List Part) (t : List ℕ) : Type 0 where
  ps₁ : List Part
  mid : List ℕ
  ps₂ : List Part
  one : x ≡ found ps₁ mid
  two : g mid ≡ found ps₂ t
  joined : ps₁ ++ ps₂ ≡ ps

chained_found : (x : Found (List Part)) (g : List ℕ → Found (List Part)) (ps : List Part) (t : List ℕ) → chained x g ≡ found ps t → BothFound x g ps t
unfolding chained appended
chained_found x g ps t h =
    let v = then_found x _ ps t h in
    let w = mapped_found _ (g v.mid) ps t v.two in
    record { ps₁ = v.value; mid = v.mid; ps₂ = w.value; one = v.one; two = w.one; joined = w.is }

-- what a kind is read into, whatever is found
abbrev Sound : Rules → Kind → Bool → (List ℕ → Found (List Part)) → Type 0
Sound r x b f = (s : List ℕ) (ps : List Part) (t : List ℕ) → f s ≡ found ps t → Derived r x b s ps t

module _ (r : Rules) (b : Bool) where
  item_sound : (f : List ℕ → Found (List Part)) → Sound r (inside r) b f → Sound r item b (λ s. item_by r b f s)
  unfolding item_by item_at
  item_sound f fs [] ps t h = absurd (none_found h)
  item_sound f fs (c ∷ s) ps t h = go (eqb c open_bracket) refl h
    where
      go : (d : Bool) → eqb c open_bracket ≡ d → item_at d r b f (c ∷ s) s ≡ found ps t → Derived r item b (c ∷ s) ps t
      go true e h =
          let w = closed_found (λ qs. qs) (f s) ps t h in
          let i = fs s w.value (close_bracket ∷ t) w.one in
          rw (eqb-true c open_bracket e) (record { parts = i.parts; derivation = G.group i.derivation; signed = sym w.is ∙ i.signed })
      go false e h = unit_sound r b (c ∷ s) ps t h

  module _ (f : Bool → List ℕ → Found (List Part)) (g : Bool → List ℕ → Found (List Part))
      (fs : (d : Bool) → Sound r item d (f d)) (gs : (d : Bool) → Sound r more d (g d)) where
    -- an item under the sign d, and what follows it
    record Chain (d : Bool) (s : List ℕ) (ps : List Part) (t : List ℕ) : Type 0 where
      first : List Part
      rest : List Part
      mid : List ℕ
      an_item : G r item s mid first
      others : G r more mid t rest
      signed : ps ≡ by d first ++ by b rest

    chain_sound : (d : Bool) (s : List ℕ) (ps : List Part) (t : List ℕ) → chained (f d s) (g b) ≡ found ps t → Chain d s ps t
    chain_sound d s ps t h =
        let w = chained_found (f d s) (g b) ps t h in
        let i = fs d s w.ps₁ w.mid w.one in
        let m = gs b w.mid w.ps₂ t w.two in
        record {
          first = i.parts;
          rest = m.parts;
          mid = w.mid;
          an_item = i.derivation;
          others = m.derivation;
          signed = sym w.joined ∙ ap (λ (l : List Part). l ++ w.ps₂) i.signed ∙ ap (λ (l : List Part). by d i.parts ++ l) m.signed;
        }

    plain_signed : (ps qs : List Part) → by b ps ++ by b qs ≡ by b (ps ++ qs)
    plain_signed ps qs = sym (by_append b ps qs)

    turned_signed : (ps qs : List Part) → by (not b) ps ++ by b qs ≡ by b (turned_all ps ++ qs)
    turned_signed ps qs = rw (by_append b (turned_all ps) qs, by_turned b ps)

    more_sound : (s : List ℕ) (ps : List Part) (t : List ℕ) → more_at (joint r s) b f g s ≡ found ps t → Derived r more b s ps t
    unfolding more_at
    more_sound s ps t h = go (joint r s) refl h
      where
        nothing_more : (ps : List Part) (u : List ℕ) → [] ≡ ps → s ≡ u → Derived r more b s ps u
        nothing_more ps u p q = record { parts = []; derivation = rw q G.done; signed = sym p ∙ sym (by_nil b) }

        go : (o : Joint) → joint r s ≡ o → more_at o b f g s ≡ found ps t → Derived r more b s ps t
        go stop e h = nothing_more ps t (cc) (cc)
        go (times u) e h =
            let j = joint_times r s u e in
            let w = chain_sound b u ps t h in
            rw j.2 (record { parts = w.first ++ w.rest; derivation = G.times j.1 w.an_item w.others; signed = w.signed ∙ plain_signed w.first w.rest })
        go (over u) e h =
            let j = joint_over r s u e in
            let w = chain_sound (not b) u ps t h in
            rw j.2 (record { parts = turned_all w.first ++ w.rest; derivation = G.over j.1 w.an_item w.others; signed = w.signed ∙ turned_signed w.first w.rest })

    product_sound : (s : List ℕ) (ps : List Part) (t : List ℕ) → product_at (leading r s) b f g s ≡ found ps t → Derived r product b s ps t
    unfolding product_at
    product_sound s ps t h = go (leading r s) refl h
      where
        go : (o : Option (List ℕ)) → leading r s ≡ o → product_at o b f g s ≡ found ps t → Derived r product b s ps t
        go nothing e h =
            let w = chain_sound b s ps t h in
            record { parts = w.first ++ w.rest; derivation = G.first w.an_item w.others; signed = w.signed ∙ plain_signed w.first w.rest }
        go (some u) e h =
            let j = leading_over r s u e in
            let w = chain_sound (not b) u ps t h in
            rw j.2 (record { parts = turned_all w.first ++ w.rest; derivation = G.under j.1 w.an_item w.others; signed = w.signed ∙ turned_signed w.first w.rest })

  quotient_sound : (f g : List ℕ → Found (List Part)) → Sound r product b f → Sound r item (not b) g
      → Sound r quotient b (λ s. then (f s) (λ ps t. quotient_on r g ps t))
  unfolding quotient_on appended
  quotient_sound f g fs gs s ps t h =
      let v = then_found (f s) _ ps t h in
      go v.value v.mid (fs s v.value v.mid v.one) v.two
    where
      alone : (qs : List Part) (u : List ℕ) → Derived r product b s qs u → found qs u ≡ found ps t → Derived r quotient b s ps t
      alone qs u i h =
          let p : qs ≡ ps = cc in
          let q : u ≡ t = cc in
          record { parts = i.parts; derivation = rw q at (G.plain i.derivation); signed = sym p ∙ i.signed }

      under : (qs : List Part) (u : List ℕ) → r.each ≡ false → Derived r product b s qs (slash ∷ u) → mapped (λ rs. qs ++ rs) (g u) ≡ found ps t → Derived r quotient b s ps t
      under qs u e i h =
          let w = mapped_found _ (g u) ps t h in
          let j = gs u w.value t w.one in
          record {
            parts = i.parts ++ turned_all j.parts;
            derivation = G.divided (rw e tt) i.derivation j.derivation;
            signed = sym w.is ∙ ap (λ (l : List Part). l ++ w.value) i.signed ∙ ap (λ (l : List Part). by b i.parts ++ l) j.signed
                ∙ ap (λ (l : List Part). by b i.parts ++ l) (sym (by_turned b j.parts)) ∙ sym (by_append b i.parts (turned_all j.parts));
          }

      go : (qs : List Part) (u : List ℕ) → Derived r product b s qs u → quotient_on r g qs u ≡ found ps t → Derived r quotient b s ps t
      go qs [] i h = alone qs [] i h
      go qs (c ∷ u) i h = at (eqb c slash) r.each refl refl h
        where
          at : (x y : Bool) → eqb c slash ≡ x → r.each ≡ y → pick (x && not y) (mapped (λ rs. qs ++ rs) (g u)) (found qs (c ∷ u)) ≡ found ps t → Derived r quotient b s ps t
          at true true p q h = alone qs (c ∷ u) i h
          at true false p q h = under qs u q (rw (eqb-true c slash p) at i) h
          at false y p q h = alone qs (c ∷ u) i h

pub read_sound : (r : Rules) (k : ℕ) (x : Kind) (b : Bool) → Sound r x b (λ s. read r k x b s)
unfolding read
read_sound r zero x b s ps t h = absurd (none_found h)
read_sound r (suc k) item b s ps t h = item_sound r b (λ u. read r k (inside r) b u) (λ u qs v e. read_sound r k (inside r) b u qs v e) s ps t h
read_sound r (suc k) more b s ps t h =
    more_sound r b (λ d u. read r k item d u) (λ d u. read r k more d u) (λ d u qs v e. read_sound r k item d u qs v e) (λ d u qs v e. read_sound r k more d u qs v e) s ps t h
read_sound r (suc k) product b s ps t h =
    product_sound r b (λ d u. read r k item d u) (λ d u. read r k more d u) (λ d u qs v e. read_sound r k item d u qs v e) (λ d u qs v e. read_sound r k more d u qs v e) s ps t h
read_sound r (suc k) quotient b s ps t h =
    quotient_sound r b (λ u. read r k product b u) (λ u. read r k item (not b) u) (λ u qs v e. read_sound r k product b u qs v e) (λ u qs v e. read_sound r k item (not b) u qs v e) s ps t h
