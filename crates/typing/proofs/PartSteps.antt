-- What a part and an end do, before the label's end and after it.
use Prim.Native.Nat.{ℕ, ◌+◌, ◌≤◌, ◌<◌}
use native.Mathlib.Omega.{arith}
use mathlib.Core.Path.{◌≡◌, sym, ap, ◌∙◌}
use mathlib.Core.Bool.{Bool, true, false, ◌||◌, true≢false}
use mathlib.Core.List.{List}
use lib.Dec.{ltb}
use lib.ListN.{length}
use borrow.Author.Tests.{lt-ltb, le-ltb, ltb-false, ne_eqb}
use Rattle.label.specs.Choice.{pick}
use Rattle.label.specs.Limits.{most_bytes}
use Rattle.label.specs.Notations.{notation}
use Rattle.label.specs.Reading.{Reading, refusal, reading}
use Rattle.record.specs.Record.{buffer_after}
use Rattle.typing.specs.declared.state.Typing.{Typing}
use Rattle.typing.specs.declared.state.Sent.{Sent}
use Rattle.typing.specs.Typing.{typed_bytes, most_counted, capped, has_ended, after_the_end, with_part, sent, read_as_typed, end_reading, after_end}
use Rattle.typing.proofs.WrittenOver.{written_from}

-- WHETHER IT HAS ENDED

pub ended_says : (t : Typing) → t.ended ≡ true → true ≡ has_ended t
unfolding has_ended
ended_says t h = sym (ap (λ (e : Bool). e || ltb most_counted t.count) h)

pub count_says : (t : Typing) → t.ended ≡ false → ltb most_counted t.count ≡ has_ended t
unfolding has_ended
count_says t h = sym (ap (λ (e : Bool). e || ltb most_counted t.count) h)

going_by : (e : Bool) (n : ℕ) → (e || ltb most_counted n) ≡ false → n ≤ most_counted
going_by true n h = absurd (true≢false h)
going_by false n h = ltb-false most_counted n h

-- before the end no more than 256 bytes are counted
pub going_count : (t : Typing) → has_ended t ≡ false → t.count ≤ most_counted
unfolding has_ended
going_count t h = going_by t.ended t.count h

-- A PART

-- the answer, by whether the label has ended
abbrev pub sent_by : Bool → Typing → List ℕ → Sent
sent_by e t u = pick e (record { number = after_the_end; state = t }) (record { number = 0; state = with_part t u })

module _ (t : Typing) (u : List ℕ) where
  pub sent_ended : has_ended t ≡ true → record { number = after_the_end; state = t } ≡ sent t u
  unfolding sent
  sent_ended h = sym (ap (λ (e : Bool). sent_by e t u) h)

  pub sent_going : has_ended t ≡ false → (n : ℕ) (r : List ℕ) → n ≡ capped (t.count + length u) → r ≡ written_from t.count u t.room
      → record { number = 0; state = record { notation = t.notation; count = n; ended = t.ended; room = r } } ≡ sent t u
  unfolding sent
  sent_going h n r e f =
      (λ i. record { number = 0; state = record { notation = t.notation; count = e i; ended = t.ended; room = f i } })
      ∙ sym (ap (λ (e : Bool). sent_by e t u) h)

-- AN END

-- a refusal changes no byte
pub buffer_refused : (i : ℕ) (b : List ℕ) → 0 < i → b ≡ buffer_after (refusal i) b
unfolding buffer_after refusal
buffer_refused i b h = rw (ne_eqb i 0 (λ e. omega (arith, e, h)))

module _ (t : Typing) where
  abbrev long_refusal : Reading
  long_refusal = refusal (pick (notation t.notation) 2 1)

  pub read_long : most_bytes < t.count → read_as_typed t ≡ long_refusal
  unfolding read_as_typed
  read_long h = ap (λ (f : Bool). pick f long_refusal (reading t.notation (typed_bytes t))) (lt-ltb most_bytes t.count h)

  pub read_short : (s : List ℕ) → t.count ≤ most_bytes → s ≡ typed_bytes t → reading t.notation s ≡ read_as_typed t
  unfolding read_as_typed
  read_short s h e = ap (reading t.notation) e ∙ sym (ap (λ (f : Bool). pick f long_refusal (reading t.notation (typed_bytes t))) (le-ltb most_bytes t.count h))

  -- too many bytes: the number of the notation decides
  pub long_answer : most_bytes < t.count → (b : List ℕ) (f : Bool) → notation t.notation ≡ f
      → (pick f 2 1 ≡ (read_as_typed t).number) × (b ≡ buffer_after (read_as_typed t) b)
  unfolding refusal
  long_answer h b f e =
      let q : read_as_typed t ≡ refusal (pick f 2 1) = read_long h ∙ ap (λ (g : Bool). refusal (pick g 2 1)) e in
      (sym (ap (λ (r : Reading). r.number) q), buffer_refused (pick f 2 1) b (positive f) ∙ sym (ap (λ (r : Reading). buffer_after r b) q))
    where
      positive : (f : Bool) → 0 < pick f 2 1
      positive true = omega arith
      positive false = omega arith

  pub end_reading_ended : has_ended t ≡ true → end_reading t ≡ refusal after_the_end
  unfolding end_reading
  end_reading_ended h = ap (λ (e : Bool). pick e (refusal after_the_end) (read_as_typed t)) h

  pub end_reading_going : has_ended t ≡ false → end_reading t ≡ read_as_typed t
  unfolding end_reading
  end_reading_going h = ap (λ (e : Bool). pick e (refusal after_the_end) (read_as_typed t)) h

  -- the state, by whether the label has ended
  abbrev pub left_by : Bool → Typing
  left_by e = pick e t (record { notation = t.notation; count = t.count; ended = true; room = t.room })

  pub after_end_by : (e : Bool) → has_ended t ≡ e → left_by e ≡ after_end t
  unfolding after_end
  after_end_by e h = sym (ap left_by h)

  -- a second end
  pub ended_again : (b : List ℕ) → has_ended t ≡ true → (after_the_end ≡ (end_reading t).number) × ((t ≡ after_end t) × (b ≡ buffer_after (end_reading t) b))
  unfolding refusal
  ended_again b h =
      let e = end_reading_ended h in (
        sym (ap (λ (r : Reading). r.number) e),
        (after_end_by true h, buffer_refused after_the_end b (omega arith) ∙ sym (ap (λ (r : Reading). buffer_after r b) e)),
      )

  -- the first end
  pub ended_first : (b : List ℕ) → has_ended t ≡ false → {n : ℕ} {c : List ℕ} → n ≡ (read_as_typed t).number → c ≡ buffer_after (read_as_typed t) b
      → (n ≡ (end_reading t).number) × ((left_by false ≡ after_end t) × (c ≡ buffer_after (end_reading t) b))
  ended_first b h e f =
      let q = sym (end_reading_going h) in
      (e ∙ ap (λ (r : Reading). r.number) q, (after_end_by false h, f ∙ ap (λ (r : Reading). buffer_after r b) q))
