-- The steps of the descent: one law for each way through the code.
use Prim.Native.Nat.{ℕ, zero, suc, ◌≤◌, ◌<◌, ◌+◌}
use native.Mathlib.Omega.{arith}
use mathlib.Core.Path.{◌≡◌, refl, sym, ap, ◌∙◌}
use mathlib.Core.Bool.{Bool, true, false, ◌&&◌, not}
use mathlib.Core.List.{List, [], ◌∷◌, ◌++◌, append_assoc, append-nil}
use lib.Dec.{eqb}
use lib.ListN.{length, drop, get_or, length-drop}
use borrow.Author.Tests.{ne_eqb}
use Rattle.std.specs.Bool.{then_some}
use Rattle.std.specs.Prelude.{Option, Some, None, Result, is_some, unwrap_or}
use Rattle.std.specs.Result.{result_ok}
use Rattle.label.specs.declared.Rules.{Rules}
use Rattle.label.specs.Choice.{pick}
use Rattle.label.specs.declared.Exponent.{Exponent}
use Rattle.label.specs.Options.{told}
use Rattle.label.specs.Lexical.{Part, item, more, product, quotient}
use Rattle.label.specs.Limits.{exponent_of}
use Rattle.label.specs.Bytes.{open_bracket, close_bracket, slash}
use Rattle.label.specs.Parse.{Found, none, found, then, mapped, closed, exponent, spelling, unit, appended, chained, item_at, item_by, more_at, product_at, quotient_on, inside, read}
use Rattle.label.specs.Ranges.{between, written_in}
use Rattle.label.proofs.Basics.{and_left, and_right}
use Rattle.label.proofs.Complete.{rank_most}
use Rattle.scan.specs.Spellings.{ReadsSpelling}
use Rattle.label.specs.declared.WrittenPower.{WrittenPower}
use Rattle.tokens.specs.declared.At.{At}
use Rattle.tokens.specs.Answers.{begins, ReadsPower}
use Rattle.tokens.proofs.Readers.{by_byte, byte_found, byte_tested, byte_is, byte_no_close, begins_room, close_found}
use Rattle.descent.specs.declared.joint.JointAt.{JointAt}
use Rattle.descent.specs.declared.terms.Terms.{Terms}
use Rattle.descent.specs.Terms.{KeepsTerm}
use Rattle.descent.specs.Joints.{turned_by, joint_by, Joins, Leads, slashed, Slashes}
use Rattle.descent.specs.Steps.{Ready, ReadsParts, least, fuel_at, kind, Stepped, Chained, Grouped, ReadsUnit}
use Rattle.descent.proofs.TermSteps.{holds_more}
use Rattle.descent.proofs.JointSteps.{slashed_is}

-- READINGS

module _ {f : ℕ → List ℕ → Found (List Part)} {need least : ℕ} {s : List ℕ} {at : ℕ} {t : Terms} where
  -- what g reads at another place
  same_read : {g : ℕ → List ℕ → Found (List Part)} {need' least' at' : ℕ} {u : Terms} (o : Option ℕ) → at + least ≤ at' + least'
      → ((k : ℕ) → need < k → (j : ℕ) × (need' < j) × (f k (drop at s) ≡ g j (drop at' s))) → ReadsParts g need' least' s at' t u o → ReadsParts f need least s at t u o
  same_read None le same a = record { is = λ k h. let q = same k h in q.2 ∙ a.is q.0 q.1 }
  same_read (Some e) le same a = record {
    is = record {
      parts = a.is.parts;
      finds = λ k h. let q = same k h in q.2 ∙ a.is.finds q.0 q.1;
      ahead = omega (arith, a.is.ahead);
      ready = a.is.ready;
      keeps = a.is.keeps;
    };
  }

  module _ {g : ℕ → List ℕ → Found (List Part)} {need' least' : ℕ} {u : Terms} {e : ℕ} (a : ReadsParts g need' least' s at t u (Some e)) where
    -- just what g reads
    more_read : at + least ≤ at + least' → ((k : ℕ) → need < k → f k (drop at s) ≡ found a.is.parts (drop e s)) → ReadsParts f need least s at t u (Some e)
    more_read le same = record { is = record { parts = a.is.parts; finds = same; ahead = omega (arith, a.is.ahead); ready = a.is.ready; keeps = a.is.keeps } }

    -- what g reads, then what h reads after it
    then_read : {h : ℕ → List ℕ → Found (List Part)} {need'' least'' at' : ℕ} {v : Terms} (o : Option ℕ) → at + least ≤ at' + least''
        → ((k : ℕ) → need < k → (j : ℕ) × (need'' < j) × (f k (drop at s) ≡ appended a.is.parts (h j (drop at' s)))) → ReadsParts h need'' least'' s at' u v o
        → ReadsParts f need least s at t v o
    unfolding appended mapped
    then_read None le same b = record { is = λ k z. let q = same k z in q.2 ∙ ap (appended a.is.parts) (b.is q.0 q.1) }
    then_read (Some n) le same b = record {
      is = record {
        parts = a.is.parts ++ b.is.parts;
        finds = λ k z. let q = same k z in q.2 ∙ ap (appended a.is.parts) (b.is.finds q.0 q.1);
        ahead = omega (arith, b.is.ahead);
        ready = b.is.ready;
        keeps = λ ps z. rw (append_assoc ps a.is.parts b.is.parts) at (b.is.keeps (ps ++ a.is.parts) (a.is.keeps ps z));
      };
    }

-- fuel above a bound is not zero
above : {need : ℕ} (P : ℕ → Type 0) → ((k : ℕ) → need ≤ k → P (suc k)) → (k : ℕ) → need < k → P k
above P f zero h = absurd (omega arith)
above P f (suc k) h = f k (omega arith)

-- UNITS

module _ {r : Rules} {b : Bool} {s : List ℕ} {at : ℕ} {t : Terms} where
  pub unit_unspelled : ReadsSpelling r s at None → ReadsUnit r b s at t t None
  unfolding unit then
  unit_unspelled v = record { reads = record { is = λ k h. rw v } }

  module _ {z : ℕ} (v : ReadsSpelling r s at (Some z)) where
    pub unit_unpowered : ReadsPower (exponent r (drop z s)) s z None → ReadsUnit r b s at t t None
    unfolding unit then mapped
    unit_unpowered q = record { reads = record { is = λ k h. rw (v.is, q) } }

    pub unit_read : {p : At WrittenPower} {x : Result Exponent Exponent} {u : Terms} → ReadsPower (exponent r (drop z s)) s z (Some p) → Ready s at t
        → told (result_ok x) ≡ exponent_of b (written_in s p.value) → KeepsTerm t at z x u → ReadsUnit r b s at t u (Some p.next)
    unfolding unit then mapped
    unit_read {p} {x} q g m y =
        let far = v.ahead in
        record {
          reads = record {
            is = record {
              parts = part ∷ [];
              finds = λ k h. rw (v.is, q.is);
              ahead = omega (arith, q.ahead);
              ready = record { within = omega (arith, q.within); few = omega (arith, y.counted, g.few, q.ahead) };
              keeps = λ ps h. holds_more s x part m refl (length-drop at s) y (record { forward = omega arith; within = v.within }) ps h;
            };
          };
        }
      where
        part : Part
        part = record { spelling = between s at z; power = written_in s p.value; turned = b; left = length (drop at s) }

-- GROUPS

inside_is : (r : Rules) → inside r ≡ kind r.within
inside_is r = go r.within
  where
    go : (b : Bool) → pick b quotient product ≡ kind b
    go true = refl
    go false = refl

one_least : (b : Bool) → least (kind b) ≡ 1
one_least true = refl
one_least false = refl

-- x is what is read in the group
inside_read : (r : Rules) (b : Bool) (s : List ℕ) (at : ℕ) {x : Found (List Part)} (k : ℕ)
    → read r k (kind r.within) b (drop at s) ≡ x → closed (λ ps. ps) (read r k (inside r) b (drop at s)) ≡ closed (λ ps. ps) x
inside_read r b s at k e = rw (inside_is r, e)

pub group_of_nothing : {r : Rules} {b : Bool} {s : List ℕ} {at : ℕ} {t u : Terms} → Stepped (kind r.within) r b s at t u None → Grouped r b s at t u None
unfolding closed then
group_of_nothing {r} {b} {s} {at} a = record { reads = record { is = λ k h. inside_read r b s at k (a.reads.is k (omega (arith, rank_most (kind r.within)))) } }

module _ {r : Rules} {b : Bool} {s : List ℕ} {at : ℕ} {t u : Terms} {p : ℕ} (a : Stepped (kind r.within) r b s at t u (Some p)) {x : Bool} (q : x ≡ begins close_bracket (drop p s)) where
  inside_found : (k : ℕ) → fuel_at s at + 2 < k → closed (λ ps. ps) (read r k (inside r) b (drop at s)) ≡ closed (λ (ps : List Part). ps) (found a.reads.is.parts (drop p s))
  inside_found k h = inside_read r b s at k (a.reads.is.finds k (omega (arith, rank_most (kind r.within))))

  group_closed : x ≡ true → Grouped r b s at t u (Some (p + 1))
  unfolding closed then
  group_closed y =
      let w = a.reads.is.ready in
      record {
        reads = record {
          is = record {
            parts = a.reads.is.parts;
            finds = λ k h. inside_found k h ∙ close_found s p a.reads.is.parts (sym q ∙ y);
            ahead = omega (arith, a.reads.is.ahead, one_least r.within);
            ready = record { within = omega (arith, begins_room s p (sym q ∙ y)); few = omega (arith, w.few) };
            keeps = a.reads.is.keeps;
          };
        };
      }

  group_unclosed : x ≡ false → Grouped r b s at t u None
  unfolding closed then
  group_unclosed y = record { reads = record { is = λ k h. inside_found k h ∙ byte_no_close s p a.reads.is.parts (sym q ∙ y) } }

  pub group_ended : Grouped r b s at t u (then_some x (p + 1))
  group_ended = go x refl
    where
      go : (y : Bool) → x ≡ y → Grouped r b s at t u (then_some y (p + 1))
      go true e = group_closed e
      go false e = group_unclosed e

-- ITEMS

item_is : (r : Rules) (b : Bool) (f : List ℕ → Found (List Part)) (s : List ℕ) (at : ℕ)
    → item_by r b f (drop at s) ≡ item_at (eqb (get_or s at 0) open_bracket) r b f (drop at s) (drop (at + 1) s)
unfolding item_by item_at unit spelling then
item_is r b f s at = by_byte (item_by r b f) (λ c w u. item_at (eqb c open_bracket) r b f w u) (λ c u. refl) refl s at

module _ {r : Rules} {b : Bool} {s : List ℕ} {at c : ℕ} {t u : Terms} {o : Option ℕ} (h : c ≡ get_or s at 0) where
  pub item_group : c ≡ open_bracket → Grouped r b s (at + 1) t u o → Stepped item r b s at t u o
  unfolding read item_at
  item_group e a =
      let l = byte_found s at open_bracket (omega arith) (byte_is h e) in
      record { reads = same_read o (omega arith) (above _ (λ k g. (k, omega arith, rw (item_is r b (λ v. read r k (inside r) b v) s at, ← h, e)))) a.reads }

  pub item_unit : (c ≡ open_bracket → ⊥) → ReadsUnit r b s at t u o → Stepped item r b s at t u o
  unfolding read item_at
  item_unit n a = record { reads = same_read o (omega arith) (above _ (λ k g. (1, omega arith, rw (item_is r b (λ v. read r k (inside r) b v) s at, ← h, ne_eqb c open_bracket n)))) a.reads }

pub ready_inside : {s : List ℕ} {at c : ℕ} {t : Terms} → c ≡ get_or s at 0 → c ≡ open_bracket → Ready s at t → Ready s (at + 1) t
ready_inside {s} {at} h e w = record { within = omega (arith, byte_found s at open_bracket (omega arith) (byte_is h e)); few = omega (arith, w.few) }

-- WHAT FOLLOWS AN ITEM

abbrev one_by_one : Rules → Bool → Bool → ℕ → List ℕ → Found (List Part)
one_by_one r d b k v = chained (read r k item d v) (λ w. read r k more b w)

more_next : (r : Rules) (b : Bool) (s : List ℕ) (at : ℕ) (j : JointAt) (k : ℕ) → Joins r s at (Some j)
    → read r (suc k) more b (drop at s) ≡ one_by_one r (turned_by j.over b) b k (drop j.next s)
unfolding read more_at
more_next r b s at j k w = rw w.tied.is (go j.over)
  where
    go : (v : Bool) → more_at (joint_by v (drop j.next s)) b (λ d u. read r k item d u) (λ d u. read r k more d u) (drop at s)
        ≡ one_by_one r (turned_by v b) b k (drop j.next s)
    go true = refl
    go false = refl

product_next : (r : Rules) (b : Bool) (s : List ℕ) (at : ℕ) (l : Option ℕ) (k : ℕ) → Leads r s at l
    → read r (suc k) product b (drop at s) ≡ one_by_one r (turned_by (is_some l) b) b k (drop (unwrap_or l at) s)
unfolding read product_at
product_next r b s at (Some p) k w = rw w.leads.is
product_next r b s at None k w = rw w.leads

-- an item, then what follows it
chain_next : (r : Rules) (d b : Bool) (s : List ℕ) (at n k : ℕ) (ps : List Part) → read r k item d (drop at s) ≡ found ps (drop n s)
    → one_by_one r d b k (drop at s) ≡ appended ps (read r k more b (drop n s))
unfolding chained then
chain_next r d b s at n k ps e = rw e

chain_none : (r : Rules) (d b : Bool) (s : List ℕ) (at k : ℕ) → read r k item d (drop at s) ≡ none → one_by_one r d b k (drop at s) ≡ none
unfolding chained then
chain_none r d b s at k e = rw e

more_none : (r : Rules) (b : Bool) (s : List ℕ) (at k : ℕ) (ps : List Part) → Joins r s at None
    → appended ps (read r (suc k) more b (drop at s)) ≡ found ps (drop at s)
unfolding read more_at appended mapped
more_none r b s at k ps w = rw (w.tied, append-nil ps)

-- THE LAST SLASH

quotient_is : (r : Rules) (f : List ℕ → Found (List Part)) (ps : List Part) (s : List ℕ) (at : ℕ)
    → quotient_on r f ps (drop at s) ≡ pick (slashed r (drop at s)) (appended ps (f (drop (at + 1) s))) (found ps (drop at s))
unfolding quotient_on
quotient_is r f ps s at = rw (slashed_is r s at) (by_byte (quotient_on r f ps) (λ c w u. pick (eqb c slash && not r.each) (appended ps (f u)) (found ps w)) (λ c u. refl) refl s at)

module _ {r : Rules} {over x : Bool} {s : List ℕ} {at : ℕ} (w : Slashes r over s at x) (e : x ≡ true) where
  over_slash : over ≡ true
  over_slash = and_left over (slashed r (drop at s)) (sym w.is ∙ e)

  is_slashed : slashed r (drop at s) ≡ true
  is_slashed = and_right over (slashed r (drop at s)) (sym w.is ∙ e)

  slash_room : at < length s
  slash_room = byte_tested s at slash (not r.each) (omega arith) (sym (slashed_is r s at) ∙ is_slashed)

-- A PRODUCT, TURN BY TURN

-- of a product under the sign b that starts at `at` with the terms t, what is before `from` has been read: whatever is read from there on, first an
-- item under the sign d, ends the product
pub record Ongoing (r : Rules) (b : Bool) (s : List ℕ) (at : ℕ) (t : Terms) (from : ℕ) (d : Bool) (u : Terms) : Type 0 where
  pub forward : at ≤ from
  pub ready : Ready s from u
  pub whole : (v : Terms) (o : Option ℕ) → Chained r d b s from u v o → Stepped product r b s at t v o

-- where a leading slash ends the text from `at` on, at least there
leads_from : (r : Rules) (s : List ℕ) (at : ℕ) (l : Option ℕ) → at ≤ length s → Leads r s at l → (at ≤ unwrap_or l at) × (unwrap_or l at ≤ length s)
leads_from r s at (Some p) h w = (w.leads.from, w.leads.within)
leads_from r s at None h w = (omega arith, h)

pub turn_first : {r : Rules} {b d : Bool} {s : List ℕ} {at from : ℕ} {t : Terms} {l : Option ℕ} → Ready s at t → Leads r s at l
    → d ≡ turned_by (is_some l) b → from ≡ unwrap_or l at → Ongoing r b s at t from d t
turn_first {r} {b} {d} {s} {at} {from} {t} {l} w v e q =
    let n = leads_from r s at l w.within v in
    record {
      forward = omega (arith, n.0);
      ready = record { within = omega (arith, n.1); few = omega (arith, w.few, n.0) };
      whole = λ x o a. record {
        reads = same_read o (omega (arith, n.0)) (above _ (λ k h. (k, omega (arith, n.0), product_next r b s at l k v ∙ (rw (e, q))))) a.reads;
      };
    }

pub turn_none : {r : Rules} {b d : Bool} {s : List ℕ} {at from : ℕ} {t u v : Terms} → Ongoing r b s at t from d u → Stepped item r d s from u v None
    → (over : Bool) → Stepped (kind over) r b s at t v None
unfolding read then
turn_none {r} {b} {d} {s} {at} {from} {t} {u} {v} g a over = go over
  where
    product_none : Stepped product r b s at t v None
    product_none = g.whole v None (record { reads = record { is = λ k h. chain_none r d b s from k (a.reads.is k (omega arith)) } })

    go : (y : Bool) → Stepped (kind y) r b s at t v None
    go true = record { reads = record { is = above _ (λ k h. rw (product_none.reads.is k (omega arith))) } }
    go false = product_none

module _ {r : Rules} {b d : Bool} {s : List ℕ} {at from i : ℕ} {t u v : Terms} (g : Ongoing r b s at t from d u) (a : Stepped item r d s from u v (Some i)) where
  module _ {j : JointAt} (w : Joins r s i (Some j)) where
    pub turn_next : {c : Bool} → c ≡ turned_by j.over b → Ongoing r b s at t j.next c v
    turn_next {c} q =
        let near = w.tied.after in
        let far = a.reads.is.ahead in
        let z = a.reads.is.ready in
        record {
          forward = omega (arith, g.forward);
          ready = record { within = w.tied.within; few = omega (arith, z.few) };
          whole = λ x o m. g.whole x o (record {
            reads = then_read a.reads o (omega arith) (above _ (λ k h. (
              k,
              omega (arith, w.tied.within),
              chain_next r d b s from i (suc k) a.reads.is.parts (a.reads.is.finds (suc k) (omega arith))
                  ∙ ap (appended a.reads.is.parts) (more_next r b s i j k w ∙ (rw q)),
            ))) m.reads;
          });
        }

  module _ (w : Joins r s i None) {over x : Bool} (m : Slashes r over s i x) where
    product_ends : Stepped product r b s at t v (Some i)
    product_ends = g.whole v (Some i) (record {
      reads = more_read a.reads (omega arith) (above _ (λ k h. (
          chain_next r d b s from i (suc k) a.reads.is.parts (a.reads.is.finds (suc k) (omega arith))
          ∙ more_none r b s i k a.reads.is.parts w)));
    })

    -- the product, then what may come after it
    quotient_by : (k : ℕ) → fuel_at s at + 2 ≤ k
        → read r (suc k) quotient b (drop at s) ≡ quotient_on r (λ z. read r k item (not b) z) product_ends.reads.is.parts (drop i s)
    unfolding read then
    quotient_by k h = rw (product_ends.reads.is.finds k (omega arith))

    pub turn_last : x ≡ false → Stepped (kind over) r b s at t v (Some i)
    turn_last y = go over refl
      where
        go : (c : Bool) → over ≡ c → Stepped (kind c) r b s at t v (Some i)
        go false q = product_ends
        go true q = record {
          reads = more_read product_ends.reads (omega arith) (above _ (λ k h. (
              quotient_by k h ∙ quotient_is r (λ z. read r k item (not b) z) product_ends.reads.is.parts s i ∙ (rw (rw q at (sym m.is ∙ y))))));
        }

    pub turn_over : {n : Terms} {o : Option ℕ} → x ≡ true → Stepped item r (not b) s (i + 1) v n o → Stepped (kind over) r b s at t n o
    turn_over {n} {o} y c =
        let far = product_ends.reads.is.ahead in
        rw (over_slash m y) (record {
          reads = then_read product_ends.reads o (omega arith) (above _ (λ k h. (
            k,
            omega arith,
            quotient_by k h ∙ quotient_is r (λ z. read r k item (not b) z) product_ends.reads.is.parts s i ∙ (rw (is_slashed m y)),
          ))) c.reads;
        })

    pub ready_over : x ≡ true → Ready s (i + 1) v
    ready_over y = let z = a.reads.is.ready in record { within = omega (arith, slash_room m y); few = omega (arith, z.few) }
