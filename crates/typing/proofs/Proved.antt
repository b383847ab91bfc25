-- The claims on labels that come in parts, proved.
use Prim.Native.Nat.{ℕ, ◌≤◌, ◌<◌, ◌^◌}
use native.Mathlib.Omega.{arith}
use mathlib.Core.Path.{◌≡◌, refl, sym, ap, ◌∙◌}
use mathlib.Core.Bool.{Bool, true, false}
use mathlib.Core.List.{List, [], ◌++◌}
use mathlib.Core.Logic.{◌↔◌}
use lib.Dec.{ltb}
use lib.ListN.{length, length-replicate}
use Rattle.label.specs.Choice.{pick}
use Rattle.label.specs.Limits.{most_bytes}
use Rattle.label.specs.Notations.{notation}
use Rattle.label.specs.Reading.{Reading, refusal, answered, reading}
use Rattle.label.proofs.Refusals.{bounds}
use Rattle.label.proofs.Readings.{Answered, answer_of, number_refused, accepted_number}
use Rattle.typing.specs.declared.state.Typing.{Typing}
use Rattle.typing.specs.declared.state.Sent.{Sent}
use Rattle.typing.specs.Typing.{typed_bytes, fresh_state, has_ended, after_the_end, sent, read_as_typed, end_reading, after_end}
use Rattle.typing.specs.Layout.{state_size, lent_state, replaced, lent_after_begin, lent_after_part, lent_after_end}
use Rattle.typing.specs.Claims.{ReadsAsOne, CutAnywhere, NothingAfterTheEnd, RefusedEndsAreEmpty}
use Rattle.typing.proofs.WrittenOver.{written_length}
use Rattle.typing.proofs.Typed.{capped_most, empty_room, typed_state, fresh_typed, going, sent_typed, along, reads_as_one}
use Rattle.typing.proofs.PartSteps.{sent_by, sent_ended, end_reading_ended, after_end_by}
use Rattle.typing.proofs.Layouts.{Storable, replaced_length, renewed_going, renewed_ended, begun_with_room, lent_state_replaced, marked, too_short, has_all_bytes, after_end_room, after_end_ended, lent_state_room, ended_replaced}

-- CUT ANYWHERE

abbrev next_state : Typing → List ℕ → Typing
next_state t u = (sent t u).state

by_value : (n : ℕ) → ReadsAsOne (λ (t : Typing). t) next_state (fresh_state n) n
by_value n =
    reads_as_one
    (λ (t : Typing). t)
    next_state
    (fresh_state n)
    n
    (λ us.
    along
    next_state
    (λ s t. t ≡ typed_state n s)
    (λ s t u h. ap (λ (x : Typing). (sent x u).state) h ∙ ap (λ (r : Sent). r.state) (sent_typed n s u))
    us
    []
    (fresh_state n)
    (fresh_typed n))

-- lent bytes hold the state of the bytes s, and have room for it
record Lends (n : ℕ) (s b : List ℕ) : Type 0 where
  pub holds : lent_state b ≡ typed_state n s
  pub roomy : state_size ≤ length b

module _ (n : ℕ) (small : n < 2 ^ 32) where
  storable : (s : List ℕ) → Storable (typed_state n s)
  storable s = record {
    notation = small;
    count = omega (arith, capped_most (length s));
    room = written_length s empty_room ∙ length-replicate {A = ℕ} most_bytes 0;
  }

  -- the state of the bytes s is written
  lends : (s b : List ℕ) → state_size ≤ length b → Lends n s (replaced b (typed_state n s))
  lends s b l = record {
    holds = lent_state_replaced b l (typed_state n s) (storable s);
    roomy = omega (arith, replaced_length b (typed_state n s) (storable s).room l);
  }

  sends : (s b u : List ℕ) → Lends n s b → Lends n (s ++ u) (lent_after_part b u)
  sends s b u w =
      let e : (sent (lent_state b) u).state ≡ typed_state n (s ++ u) = ap (λ (x : Typing). (sent x u).state) w.holds ∙ ap (λ (r : Sent). r.state) (sent_typed n s u) in
      rw (renewed_going b (sent (lent_state b) u).state (ap has_ended w.holds ∙ going n s), e) (lends (s ++ u) b w.roomy)

  lends_begun : (b : List ℕ) → state_size ≤ length b → Lends n [] (lent_after_begin n b)
  lends_begun b l = rw (begun_with_room b n l ∙ ap (replaced b) (fresh_typed n)) (lends [] b l)

  lent : (b : List ℕ) → state_size ≤ length b → ReadsAsOne lent_state lent_after_part (lent_after_begin n b) n
  lent b l = reads_as_one lent_state lent_after_part (lent_after_begin n b) n (λ us. (along lent_after_part (Lends n) sends us [] (lent_after_begin n b) (lends_begun b l)).holds)

pub cut_anywhere : CutAnywhere
cut_anywhere = record { by_value = by_value; lent = λ n small b l. lent n small b l }

-- AFTER THE END

part_refused : (t : Typing) (u : List ℕ) → ((sent t u).number ≡ 16) ↔ (has_ended t ≡ true)
unfolding sent
part_refused t u = (there (has_ended t), λ h. ap (λ (e : Bool). (sent_by e t u).number) h)
  where
    there : (e : Bool) → (sent_by e t u).number ≡ 16 → e ≡ true
    there true h = refl
    there false h = absurd (omega (arith, h))

-- no reading has the number 16
small_number : (n : ℕ) (s : List ℕ) → (reading n s).number ≤ 7
small_number n s = go (answer_of n s)
  where
    go : Answered n s → (reading n s).number ≤ 7
    go (Answered.refusing i c d) = let l = bounds d.holds in omega (arith, l.1, (number_refused n s i l.0).1 d)
    go (Answered.accepting v x) = omega (arith, accepted_number x)

small_typed : (t : Typing) → (read_as_typed t).number ≤ 7
unfolding read_as_typed refusal
small_typed t = go (ltb most_bytes t.count) (notation t.notation)
  where
    go : (f m : Bool) → (pick f (refusal (pick m 2 1)) (reading t.notation (typed_bytes t))).number ≤ 7
    go true true = omega arith
    go true false = omega arith
    go false m = small_number t.notation (typed_bytes t)

end_by : (e : Bool) (t : Typing) → (pick e (refusal after_the_end) (read_as_typed t)).number ≡ 16 → e ≡ true
unfolding refusal
end_by true t h = refl
end_by false t h = absurd (omega (arith, h, small_typed t))

end_refused : (t : Typing) → ((end_reading t).number ≡ 16) ↔ (has_ended t ≡ true)
unfolding end_reading refusal
end_refused t = (end_by (has_ended t) t, λ h. ap (λ (r : Reading). r.number) (end_reading_ended t h))

part_changes_nothing : (t : Typing) (u : List ℕ) → has_ended t ≡ true → (sent t u).state ≡ t
part_changes_nothing t u h = ap (λ (r : Sent). r.state) (sym (sent_ended t u h))

end_changes_nothing : (t : Typing) → has_ended t ≡ true → after_end t ≡ t
end_changes_nothing t h = sym (after_end_by t true h)

-- LENT STATES

lent_marked : (b : List ℕ) → has_ended (lent_state (lent_after_end b)) ≡ true
lent_marked b = go (has_ended (lent_state b)) refl
  where
    go : (e : Bool) → has_ended (lent_state b) ≡ e → has_ended (lent_state (lent_after_end b)) ≡ true
    go true h = rw (renewed_ended b (after_end (lent_state b)) h) h
    go false h = rw (renewed_going b (after_end (lent_state b)) h) (ended_replaced b (has_all_bytes b h) (after_end (lent_state b)) (ap length (after_end_room (lent_state b)) ∙ lent_state_room b (has_all_bytes b h)) (after_end_ended (lent_state b) h))

pub nothing_after_the_end : NothingAfterTheEnd
nothing_after_the_end = record {
  part_refused = part_refused;
  end_refused = end_refused;
  refused_as_others = end_reading_ended;
  marked = marked;
  part_changes_nothing = part_changes_nothing;
  end_changes_nothing = end_changes_nothing;
  lent_marked = lent_marked;
  lent_part_changes_nothing = λ b u h. renewed_ended b (sent (lent_state b) u).state h;
  lent_end_changes_nothing = λ b h. renewed_ended b (after_end (lent_state b)) h;
  too_short = too_short;
}

-- REFUSED ENDS

-- a refusal has nothing but its number
abbrev EmptyIfRefused : Reading → Type 0
EmptyIfRefused r = 0 < r.number → r ≡ refusal r.number

refusal_empty : (i : ℕ) → EmptyIfRefused (refusal i)
unfolding refusal
refusal_empty i h = refl

reading_empty : (n : ℕ) (s : List ℕ) → EmptyIfRefused (reading n s)
unfolding reading answered refusal
reading_empty n s h = go (answer_of n s)
  where
    go : Answered n s → reading n s ≡ refusal (reading n s).number
    go (Answered.refusing i e d) = let q = ap (answered n s) e in q ∙ ap (λ (r : Reading). refusal r.number) (sym q)
    go (Answered.accepting v x) = absurd (omega (arith, h, accepted_number x))

pub refused_ends_are_empty : RefusedEndsAreEmpty
unfolding end_reading read_as_typed
refused_ends_are_empty t = go (has_ended t) (ltb most_bytes t.count)
  where
    go : (e f : Bool) → EmptyIfRefused (pick e (refusal after_the_end) (pick f (refusal (pick (notation t.notation) 2 1)) (reading t.notation (typed_bytes t))))
    go true f = refusal_empty after_the_end
    go false true = refusal_empty (pick (notation t.notation) 2 1)
    go false false = reading_empty t.notation (typed_bytes t)
