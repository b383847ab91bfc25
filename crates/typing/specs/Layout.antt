-- A state in lent bytes.
use Rattle.std.specs.Prelude.{ℕ, ◌+◌, Bool, true, false, not, List, [], ◌∷◌, ◌++◌, ltb, eqb, length, take, drop, get_or}
use Rattle.label.specs.Choice.{pick}
use Rattle.label.specs.Limits.{most_bytes}
use Rattle.record.specs.Record.{digits, value}
use Rattle.typing.specs.declared.state.Typing.{Typing}
use Rattle.typing.specs.Typing.{fresh_state, has_ended, sent, after_the_end, after_end}

-- THE LAYOUT: the notation and the count, of four bytes each, the lowest first; a byte that is 0 before the end; and the 255 bytes of the room

abbrev pub number_bytes : ℕ
number_bytes = 4

abbrev pub count_offset : ℕ
count_offset = number_bytes

abbrev pub ended_offset : ℕ
ended_offset = count_offset + number_bytes

abbrev pub room_offset : ℕ
room_offset = ended_offset + 1

abbrev pub state_size : ℕ
state_size = room_offset + most_bytes

abbrev pub ended_byte : Bool → ℕ
ended_byte true = 1
ended_byte false = 0

unfoldable pub state_head : Typing → List ℕ
state_head t = digits number_bytes t.notation ++ (digits number_bytes t.count ++ ended_byte t.ended ∷ [])

abbrev pub laid_out : Typing → List ℕ
laid_out t = state_head t ++ t.room

-- the state that as many bytes hold, or more
unfoldable pub state_in : List ℕ → Typing
state_in b = record {
  notation = value (take number_bytes b);
  count = value (take number_bytes (drop count_offset b));
  ended = not (eqb (get_or b ended_offset 0) 0);
  room = take most_bytes (drop room_offset b);
}

-- fewer bytes are taken as a state that has ended
unfoldable pub lent_state : List ℕ → Typing
lent_state b = pick (ltb (length b) state_size) (after_end (fresh_state 0)) (state_in b)

-- WHAT THE CALLS LEAVE IN IT

-- the state t in place of the one that was there; bytes after it stay
abbrev pub replaced : List ℕ → Typing → List ℕ
replaced b t = laid_out t ++ drop state_size b

-- a fresh state, where there is room for one; the answer is 0 then, else 16
unfoldable pub lent_after_begin : ℕ → List ℕ → List ℕ
lent_after_begin n b = pick (ltb (length b) state_size) b (replaced b (fresh_state n))

unfoldable pub begin_number : List ℕ → ℕ
begin_number b = pick (ltb (length b) state_size) after_the_end 0

-- after the end nothing changes
unfoldable pub renewed : List ℕ → Typing → List ℕ
renewed b t = pick (has_ended (lent_state b)) b (replaced b t)

abbrev pub lent_after_part : List ℕ → List ℕ → List ℕ
lent_after_part b u = renewed b (sent (lent_state b) u).state

abbrev pub lent_after_end : List ℕ → List ℕ
lent_after_end b = renewed b (after_end (lent_state b))
