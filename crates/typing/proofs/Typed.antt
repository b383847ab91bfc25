-- The state after parts is that of their bytes, and its end reads them.
use Prim.Native.Nat.{ℕ, ◌+◌, ◌≤◌, ◌<◌}
use native.Mathlib.Omega.{arith}
use mathlib.Core.Path.{◌≡◌, refl, sym, ap, ◌∙◌}
use mathlib.Core.Bool.{Bool, true, false}
use mathlib.Core.List.{List, [], ◌∷◌, ◌++◌, append_assoc, append-nil}
use lib.Dec.{ltb, leb}
use lib.ListN.{length, take, replicate, length-append, length-replicate}
use borrow.Author.Tests.{lt-ltb, le-ltb, lt-leb, ltb-true, ltb-false}
use Rattle.label.specs.Choice.{pick}
use Rattle.label.specs.Limits.{most_bytes}
use Rattle.label.specs.Notations.{notation}
use Rattle.label.specs.Reading.{Reading, refusal, Checked, unless, checked, answered, reading}
use Rattle.record.specs.Record.{written_over, buffer_after}
use Rattle.typing.specs.declared.state.Typing.{Typing}
use Rattle.typing.specs.declared.state.Sent.{Sent}
use Rattle.typing.specs.Typing.{fresh_state, most_counted, capped, has_ended, after_the_end, with_part, sent, read_as_typed, end_reading, after_parts, concatenated}
use Rattle.typing.specs.Claims.{ReadsAsOne}
use Rattle.typing.proofs.WrittenOver.{written_from, written_none, written_kept, written_next, written_dropped}

-- COUNTING

-- by cases: at most 255, or more
pub fits_or_not : {P : Type 0} (n : ℕ) → (n ≤ most_bytes → P) → (most_bytes < n → P) → P
fits_or_not {P} n f g = go (ltb most_bytes n) refl
  where
    go : (t : Bool) → ltb most_bytes n ≡ t → P
    go true e = g (ltb-true most_bytes n e)
    go false e = f (ltb-false most_bytes n e)

pub capped_below : (n : ℕ) → n ≤ most_bytes → capped n ≡ n
unfolding capped
capped_below n h = ap (λ (t : Bool). pick t n most_counted) (lt-ltb n most_counted (omega arith))

pub capped_above : (n : ℕ) → most_bytes < n → capped n ≡ most_counted
unfolding capped
capped_above n h = ap (λ (t : Bool). pick t n most_counted) (le-ltb n most_counted (omega arith))

pub capped_most : (n : ℕ) → capped n ≤ most_counted
capped_most n = fits_or_not n (λ h. omega (arith, capped_below n h)) (λ h. omega (arith, capped_above n h))

-- A LABEL THAT HAS NOT ENDED

abbrev pub empty_room : List ℕ
empty_room = replicate most_bytes 0

room_length : length empty_room ≡ most_bytes
room_length = length-replicate {A = ℕ} most_bytes 0

-- its state, where the bytes s have come
abbrev pub typed_state : ℕ → List ℕ → Typing
typed_state n s = record { notation = n; count = capped (length s); ended = false; room = written_over s empty_room }

pub fresh_typed : (n : ℕ) → fresh_state n ≡ typed_state n []
fresh_typed n = λ i. record { notation = n; count = sym (capped_below 0 (omega arith)) i; ended = false; room = sym (written_none empty_room) i }

module _ (n : ℕ) (s : List ℕ) where
  pub going : has_ended (typed_state n s) ≡ false
  unfolding has_ended
  going = le-ltb most_counted (capped (length s)) (capped_most (length s))

  module _ (u : List ℕ) where
    count_with : capped (capped (length s) + length u) ≡ capped (length (s ++ u))
    count_with =
        fits_or_not
        (length s)
        (λ h. ap (λ (k : ℕ). capped (k + length u)) (capped_below (length s) h) ∙ ap capped (sym (length-append s u)))
        (λ h.
        ap (λ (k : ℕ). capped (k + length u)) (capped_above (length s) h)
        ∙ capped_above (most_counted + length u) (omega arith)
        ∙ sym (capped_above (length (s ++ u)) (omega (arith, length-append s u))))

    room_with : written_from (capped (length s)) u (written_over s empty_room) ≡ written_over (s ++ u) empty_room
    room_with =
        fits_or_not
        (length s)
        (λ h.
        ap (λ (k : ℕ). written_from k u (written_over s empty_room)) (capped_below (length s) h)
        ∙ written_next s u empty_room (omega (arith, room_length)))
        (λ h.
        ap (λ (k : ℕ). written_from k u (written_over s empty_room)) (capped_above (length s) h)
        ∙ written_dropped s u empty_room most_counted (omega (arith, room_length)) (omega (arith, room_length)))

    -- after a part, that of the bytes with that part
    pub sent_typed : sent (typed_state n s) u ≡ record { number = 0; state = typed_state n (s ++ u) }
    unfolding sent
    sent_typed =
        ap (λ (t : Bool). pick t (record { number = after_the_end; state = typed_state n s }) (record { number = 0; state = with_part (typed_state n s) u })) going
        ∙ (λ i. record { number = 0; state = record { notation = n; count = count_with i; ended = false; room = room_with i } })

  -- ITS END

  long_refused : (t : Bool) (x : Checked) (l : Bool) → l ≡ false → answered n s (unless t 1 (unless l 2 x)) ≡ refusal (pick t 2 1)
  unfolding answered unless
  long_refused true x l e = ap (λ (b : Bool). answered n s (unless b 2 x)) e
  long_refused false x l e = refl

  over_long : most_bytes < length s → reading n s ≡ refusal (pick (notation n) 2 1)
  unfolding reading checked
  over_long h = long_refused (notation n) _ (leb (length s) most_bytes) (lt-leb (length s) most_bytes h)

  abbrev read_at : ℕ → Reading
  read_at k = pick (ltb most_bytes k) (refusal (pick (notation n) 2 1)) (reading n (take k (written_over s empty_room)))

  read_typed : read_as_typed (typed_state n s) ≡ reading n s
  unfolding read_as_typed
  read_typed =
      fits_or_not
      (length s)
      (λ h.
      ap read_at (capped_below (length s) h)
      ∙ ap (λ (t : Bool). pick t (refusal (pick (notation n) 2 1)) (reading n (take (length s) (written_over s empty_room)))) (le-ltb most_bytes (length s) h)
      ∙ ap (reading n) (written_kept s empty_room (omega (arith, room_length))))
      (λ h. ap read_at (capped_above (length s) h) ∙ sym (over_long h))

  pub end_typed : end_reading (typed_state n s) ≡ reading n s
  unfolding end_reading
  end_typed = ap (λ (t : Bool). pick t (refusal after_the_end) (read_as_typed (typed_state n s))) going ∙ read_typed

-- PARTS ONE AFTER THE OTHER

-- what holds at the start, and stays so with each part, holds after all of them
module _ {S : Type 0} (next : S → List ℕ → S) (P : List ℕ → S → Type 0) (step : (s : List ℕ) (x : S) (u : List ℕ) → P s x → P (s ++ u) (next x u)) where
  pub along : (us : List (List ℕ)) (s : List ℕ) (x : S) → P s x → P (s ++ concatenated us) (after_parts next x us)
  unfolding concatenated after_parts
  along [] s x h = rw (append-nil s) h
  along (u ∷ us) s x h = rw (← append_assoc s u (concatenated us)) (along us (s ++ u) (next x u) (step s x u h))

-- a state that is the one of the bytes, whatever the parts are, is read as one
module _ {S : Type 0} (state : S → Typing) (next : S → List ℕ → S) (start : S) (n : ℕ)
    (typed : (us : List (List ℕ)) → state (after_parts next start us) ≡ typed_state n (concatenated us)) where
  whole_answers : (us : List (List ℕ)) → end_reading (state (after_parts next start us)) ≡ reading n (concatenated us)
  whole_answers us = ap end_reading (typed us) ∙ end_typed n (concatenated us)

  pub reads_as_one : ReadsAsOne state next start n
  reads_as_one = record {
    part_answers = λ us u. ap (λ (t : Typing). (sent t u).number) (typed us) ∙ ap (λ (r : Sent). r.number) (sent_typed n (concatenated us) u);
    end_answers = whole_answers;
    same_record = λ us c. ap (λ (r : Reading). buffer_after r c) (whole_answers us);
  }
