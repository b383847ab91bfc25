-- A state is read back from the bytes that are written.
use Prim.Native.Nat.{ℕ, ◌≤◌, ◌<◌, ◌^◌}
use native.Mathlib.Omega.{arith}
use mathlib.Core.Path.{◌≡◌, refl, sym, ap, ◌∙◌}
use mathlib.Core.Bool.{Bool, true, false, not, ◌||◌, true≢false}
use mathlib.Core.List.{List, ◌++◌}
use lib.Dec.{ltb, eqb}
use lib.ListN.{length, take, drop, get_or, length-append, length-drop}
use lib.Seq.{take_at, length-take-le}
use borrow.Author.Tests.{lt-ltb, le-ltb, ltb-true, ltb-false}
use Rattle.label.specs.Choice.{pick}
use Rattle.label.specs.Limits.{most_bytes}
use Rattle.record.specs.Record.{digits, value}
use Rattle.record.proofs.ReadingBack.{value_digits}
use Rattle.typing.specs.declared.state.Typing.{Typing}
use Rattle.typing.specs.Typing.{fresh_state, most_counted, has_ended, after_end}
use Rattle.typing.specs.Layout.{number_bytes, count_offset, ended_offset, room_offset, state_size, ended_byte, state_head, state_in, lent_state, replaced, lent_after_begin, renewed}
use Rattle.typing.proofs.PartSteps.{left_by, after_end_by}

pub head_length : (t : Typing) → length (state_head t) ≡ room_offset
unfolding state_head digits
head_length t = refl

byte_back : (e : Bool) → not (eqb (ended_byte e) 0) ≡ e
byte_back true = refl
byte_back false = refl

-- a state whose numbers have four bytes, and 255 bytes of room
pub record Storable (t : Typing) : Type 0 where
  pub notation : t.notation < 2 ^ 32
  pub count : t.count < 2 ^ 32
  pub room : length t.room ≡ most_bytes

module _ (b : List ℕ) (t : Typing) where
  ended_back : not (eqb (get_or (replaced b t) ended_offset 0) 0) ≡ t.ended
  unfolding state_head digits
  ended_back = byte_back t.ended

  notation_back : t.notation < 2 ^ 32 → value (take number_bytes (replaced b t)) ≡ t.notation
  unfolding state_head digits
  notation_back h = value_digits 4 t.notation (omega arith)

  count_back : t.count < 2 ^ 32 → value (take number_bytes (drop count_offset (replaced b t))) ≡ t.count
  unfolding state_head digits
  count_back h = value_digits 4 t.count (omega arith)

  room_back : length t.room ≡ most_bytes → take most_bytes (drop room_offset (replaced b t)) ≡ t.room
  unfolding state_head digits
  room_back h = take_at t.room (drop state_size b) most_bytes h

  pub replaced_length : length t.room ≡ most_bytes → state_size ≤ length b → length (replaced b t) ≡ length b
  replaced_length h l =
      length-append (state_head t ++ t.room) (drop state_size b)
      ∙ omega (arith, length-append (state_head t) t.room, head_length t, length-drop state_size b)

module _ (b : List ℕ) where
  pub lent_state_short : length b < state_size → lent_state b ≡ after_end (fresh_state 0)
  unfolding lent_state
  lent_state_short h = ap (λ (f : Bool). pick f (after_end (fresh_state 0)) (state_in b)) (lt-ltb (length b) state_size h)

  pub lent_state_long : state_size ≤ length b → lent_state b ≡ state_in b
  unfolding lent_state
  lent_state_long h = ap (λ (f : Bool). pick f (after_end (fresh_state 0)) (state_in b)) (le-ltb (length b) state_size h)

  pub renewed_going : (t : Typing) → has_ended (lent_state b) ≡ false → renewed b t ≡ replaced b t
  unfolding renewed
  renewed_going t h = ap (λ (f : Bool). pick f b (replaced b t)) h

  pub renewed_ended : (t : Typing) → has_ended (lent_state b) ≡ true → renewed b t ≡ b
  unfolding renewed
  renewed_ended t h = ap (λ (f : Bool). pick f b (replaced b t)) h

  pub begun_with_room : (n : ℕ) → state_size ≤ length b → lent_after_begin n b ≡ replaced b (fresh_state n)
  unfolding lent_after_begin
  begun_with_room n h = ap (λ (f : Bool). pick f b (replaced b (fresh_state n))) (le-ltb (length b) state_size h)

-- what was written is what the bytes hold
module _ (b : List ℕ) (l : state_size ≤ length b) (t : Typing) (w : Storable t) where
  pub lent_state_replaced : lent_state (replaced b t) ≡ t
  unfolding state_in
  lent_state_replaced =
      lent_state_long (replaced b t) (omega (arith, replaced_length b t w.room l))
      ∙ (λ i. record { notation = notation_back b t w.notation i; count = count_back b t w.count i; ended = ended_back b t i; room = room_back b t w.room i })

-- AFTER AN END

marked_by : (e : Bool) (t : Typing) → has_ended t ≡ e → has_ended (left_by t e) ≡ true
unfolding has_ended
marked_by true t h = h
marked_by false t h = refl

pub marked : (t : Typing) → has_ended (after_end t) ≡ true
marked t = ap has_ended (sym (after_end_by t (has_ended t) refl)) ∙ marked_by (has_ended t) t refl

pub too_short : (b : List ℕ) → length b < state_size → has_ended (lent_state b) ≡ true
too_short b h = ap has_ended (lent_state_short b h) ∙ marked (fresh_state 0)

-- a state that has not ended has all its bytes
pub has_all_bytes : (b : List ℕ) → has_ended (lent_state b) ≡ false → state_size ≤ length b
has_all_bytes b h = go (ltb (length b) state_size) refl
  where
    go : (f : Bool) → ltb (length b) state_size ≡ f → state_size ≤ length b
    go true e = absurd (true≢false (sym (too_short b (ltb-true (length b) state_size e)) ∙ h))
    go false e = ltb-false (length b) state_size e

room_by : (e : Bool) (t : Typing) → (left_by t e).room ≡ t.room
room_by true t = refl
room_by false t = refl

pub after_end_room : (t : Typing) → (after_end t).room ≡ t.room
after_end_room t = ap (λ (x : Typing). x.room) (sym (after_end_by t (has_ended t) refl)) ∙ room_by (has_ended t) t

pub after_end_ended : (t : Typing) → has_ended t ≡ false → (after_end t).ended ≡ true
after_end_ended t h = ap (λ (x : Typing). x.ended) (sym (after_end_by t false h))

module _ (b : List ℕ) (l : state_size ≤ length b) where
  pub lent_state_room : length (lent_state b).room ≡ most_bytes
  unfolding state_in
  lent_state_room = ap (λ (t : Typing). length t.room) (lent_state_long b l) ∙ length-take-le most_bytes (drop room_offset b) (omega (arith, length-drop room_offset b))

  pub ended_replaced : (t : Typing) → length t.room ≡ most_bytes → t.ended ≡ true → has_ended (lent_state (replaced b t)) ≡ true
  unfolding has_ended state_in
  ended_replaced t r h =
      ap has_ended (lent_state_long (replaced b t) (omega (arith, replaced_length b t r l)))
      ∙ ap (λ (e : Bool). e || ltb most_counted (state_in (replaced b t)).count) (ended_back b t ∙ h)
