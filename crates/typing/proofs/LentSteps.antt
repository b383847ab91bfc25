-- What the functions over a lent state do, with what they call.
use Prim.Native.Nat.{ℕ, ◌+◌, ◌≤◌, ◌<◌}
use native.Mathlib.Omega.{arith}
use native.Mathlib.Nat.{add-zero}
use mathlib.Core.Path.{◌≡◌, refl, sym, ap, ◌∙◌}
use mathlib.Core.Bool.{Bool, true, false, not}
use Rattle.std.specs.Int.{w32, to_le_bytes, from_le_bytes}
use mathlib.Core.List.{List, [], ◌∷◌, ◌++◌}
use lib.Dec.{eqb}
use Rattle.record.proofs.Writing.{low_digits}
use lib.ListN.{length, set, take, drop, get_or, length-drop}
use lib.Seq.{drop-drop, get_or-drop}
use borrow.Rule.Slice.PartMut.{put_mid}
use borrow.Author.Tests.{lt-ltb, le-ltb}
use Rattle.label.specs.Choice.{pick}
use Rattle.label.specs.Limits.{most_bytes}
use Rattle.label.specs.Reading.{Reading, refusal}
use Rattle.record.specs.Record.{digits, value, buffer_after}
use Rattle.typing.specs.declared.state.Typing.{Typing}
use Rattle.typing.specs.declared.state.Sent.{Sent}
use Rattle.typing.specs.Typing.{fresh_state, has_ended, after_the_end, sent, end_reading, after_end}
use Rattle.typing.specs.Layout.{number_bytes, count_offset, ended_offset, room_offset, state_size, ended_byte, state_head, state_in, lent_state, replaced, lent_after_begin, begin_number, lent_after_part, lent_after_end}
use Rattle.typing.proofs.PartSteps.{sent_ended, sent_going, end_reading_ended, buffer_refused}
use Rattle.typing.proofs.Layouts.{lent_state_short, lent_state_long, renewed_going, renewed_ended, begun_with_room}

-- NUMBERS OF FOUR BYTES

first_four : (l : List ℕ) → number_bytes ≤ length l → from_le_bytes w32 (get_or l 0 0 ∷ get_or l 1 0 ∷ get_or l 2 0 ∷ get_or l 3 0 ∷ []) ≡ value (take number_bytes l)
unfolding value
first_four [] h = absurd (omega arith)
first_four (x ∷ []) h = absurd (omega arith)
first_four (x ∷ y ∷ []) h = absurd (omega arith)
first_four (x ∷ y ∷ z ∷ []) h = absurd (omega arith)
first_four (x ∷ y ∷ z ∷ w ∷ l) h = omega arith

pub four_bytes : (b : List ℕ) (a : ℕ) → a + number_bytes ≤ length b
    → from_le_bytes w32 (get_or b a 0 ∷ get_or b (a + 1) 0 ∷ get_or b (a + 2) 0 ∷ get_or b (a + 3) 0 ∷ []) ≡ value (take number_bytes (drop a b))
four_bytes b a h =
    let first : get_or b a 0 ≡ get_or (drop a b) 0 0 = ap (λ (k : ℕ). get_or b k 0) (sym (add-zero a)) ∙ sym (get_or-drop a b 0 0) in
    (λ i. from_le_bytes w32 (first i ∷ sym (get_or-drop a b 1 0) i ∷ sym (get_or-drop a b 2 0) i ∷ sym (get_or-drop a b 3 0) i ∷ []))
    ∙ first_four (drop a b) (omega (arith, length-drop a b))

-- WRITING

first_set : (e : ℕ) (d : List ℕ) → 0 < length d → (take 1 (set d 0 e) ≡ e ∷ []) × (drop 1 (set d 0 e) ≡ drop 1 d)
first_set e [] h = absurd (omega arith)
first_set e (x ∷ d) h = (refl, refl)

-- the numbers, the mark and the room, one after the other
pub state_stored : (t : Typing) (b : List ℕ) {n c : List ℕ} {e : ℕ} {r : List ℕ} → state_size ≤ length b
    → n ≡ to_le_bytes w32 t.notation → c ≡ to_le_bytes w32 t.count → e ≡ ended_byte t.ended → r ≡ t.room
    → put_mid room_offset most_bytes (set (put_mid number_bytes number_bytes (n ++ drop number_bytes b) c) ended_offset e) r ≡ replaced b t
unfolding state_head digits
state_stored t b {n} {c} {e} {r} l p q h f =
    let d = drop number_bytes (drop number_bytes b) in
    let s = first_set e d (omega (arith, length-drop number_bytes b, length-drop number_bytes (drop number_bytes b))) in
    let numbers = digits number_bytes t.notation ++ digits number_bytes t.count in
    let rest : drop most_bytes (drop 1 d) ≡ drop state_size b = rw (drop-drop, drop-drop, drop-drop) refl in
    (λ i. put_mid room_offset most_bytes (set (put_mid number_bytes number_bytes ((p ∙ low_digits 4 t.notation) i ++ drop number_bytes b) ((q ∙ low_digits 4 t.count) i)) ended_offset e) (f i))
    ∙ (λ i. numbers ++ (s.0 i ++ (t.room ++ drop most_bytes (s.1 i))))
    ∙ (λ i. numbers ++ (h i ∷ t.room ++ rest i))

-- READING

module _ (b : List ℕ) where
  -- too few bytes
  pub short_loaded : (f : Typing) → f ≡ fresh_state 0 → length b < state_size
      → record { notation = f.notation; count = f.count; ended = true; room = f.room } ≡ lent_state b
  unfolding after_end has_ended
  short_loaded f e h = ap (λ (x : Typing). record { notation = x.notation; count = x.count; ended = true; room = x.room }) e ∙ sym (lent_state_short b h)

  pub state_loaded : {n k : ℕ} {r : List ℕ} → state_size ≤ length b → n ≡ value (take number_bytes b) → k ≡ value (take number_bytes (drop count_offset b))
      → r ≡ take most_bytes (drop room_offset b)
      → record { notation = n; count = k; ended = not (eqb (get_or b ended_offset 0) 0); room = r } ≡ lent_state b
  unfolding state_in
  state_loaded l e f g =
      (λ i. record { notation = e i; count = f i; ended = not (eqb (get_or b ended_offset 0) 0); room = g i }) ∙ sym (lent_state_long b l)

-- THE CALLS

module _ (n : ℕ) (b : List ℕ) where
  pub begin_too_short : length b < state_size → (16 ≡ begin_number b) × (b ≡ lent_after_begin n b)
  unfolding begin_number lent_after_begin
  begin_too_short h =
      let e = lt-ltb (length b) state_size h in
      (sym (ap (λ (f : Bool). pick f after_the_end 0) e), sym (ap (λ (f : Bool). pick f b (replaced b (fresh_state n))) e))

  pub begin_with_room : state_size ≤ length b → (t : Typing) (c : List ℕ) → t ≡ fresh_state n → c ≡ replaced b t → (0 ≡ begin_number b) × (c ≡ lent_after_begin n b)
  unfolding begin_number
  begin_with_room l t c e f =
      (sym (ap (λ (g : Bool). pick g after_the_end 0) (le-ltb (length b) state_size l)), f ∙ ap (replaced b) e ∙ sym (begun_with_room b n l))

module _ (b : List ℕ) (t : Typing) (loads : t ≡ lent_state b) where
  -- by what was loaded
  pub ended_as : (f g : Bool) → f ≡ has_ended t → f ≡ g → has_ended (lent_state b) ≡ g
  ended_as f g e h = sym (ap has_ended loads) ∙ sym e ∙ h

  pub sends_after : (u : List ℕ) → has_ended (lent_state b) ≡ true → (16 ≡ (sent (lent_state b) u).number) × (b ≡ lent_after_part b u)
  sends_after u h = (ap (λ (r : Sent). r.number) (sent_ended (lent_state b) u h), sym (renewed_ended b (sent (lent_state b) u).state h))

  pub sends_before : (u c : List ℕ) (r : Sent) → has_ended (lent_state b) ≡ false → r ≡ sent t u → c ≡ replaced b r.state
      → (0 ≡ (sent (lent_state b) u).number) × (c ≡ lent_after_part b u)
  sends_before u c r h e f =
      let q : r ≡ sent (lent_state b) u = e ∙ ap (λ (x : Typing). sent x u) loads in
      (ap (λ (x : Sent). x.number) (sent_going (lent_state b) u h _ _ refl refl), f ∙ ap (λ (x : Sent). replaced b x.state) q ∙ sym (renewed_going b (sent (lent_state b) u).state h))

  pub ends_after : (d : List ℕ) → has_ended (lent_state b) ≡ true
      → (16 ≡ (end_reading (lent_state b)).number) × ((b ≡ lent_after_end b) × (d ≡ buffer_after (end_reading (lent_state b)) d))
  unfolding refusal
  ends_after d h =
      let e = end_reading_ended (lent_state b) h in (
        sym (ap (λ (r : Reading). r.number) e),
        (sym (renewed_ended b (after_end (lent_state b)) h), buffer_refused after_the_end d (omega arith) ∙ sym (ap (λ (r : Reading). buffer_after r d) e)),
      )

  pub ends_before : (d d' c : List ℕ) (r : Sent) → has_ended (lent_state b) ≡ false → r.number ≡ (end_reading t).number → r.state ≡ after_end t
      → d' ≡ buffer_after (end_reading t) d → c ≡ replaced b r.state
      → (r.number ≡ (end_reading (lent_state b)).number) × ((c ≡ lent_after_end b) × (d' ≡ buffer_after (end_reading (lent_state b)) d))
  ends_before d d' c r h e f g q = (
    e ∙ ap (λ (x : Typing). (end_reading x).number) loads,
    (q ∙ ap (replaced b) (f ∙ ap after_end loads) ∙ sym (renewed_going b (after_end (lent_state b)) h), g ∙ ap (λ (x : Typing). buffer_after (end_reading x) d) loads),
  )
