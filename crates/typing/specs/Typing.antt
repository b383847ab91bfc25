-- A label that comes in parts, as it is typed (document 02, W5).
use Rattle.std.specs.Prelude.{ℕ, ◌+◌, Bool, true, false, ◌||◌, List, [], ◌∷◌, ◌++◌, ltb, length, take, drop, replicate}
use Rattle.label.specs.Choice.{pick}
use Rattle.label.specs.Limits.{most_bytes}
use Rattle.label.specs.Notations.{notation}
use Rattle.label.specs.Reading.{Reading, refusal, reading}
use Rattle.record.specs.Record.{written_over}
use Rattle.typing.specs.declared.state.Typing.{Typing}
use Rattle.typing.specs.declared.state.Sent.{Sent}

-- THE STATE

-- "holds a state of bounded size": a notation number, how many bytes have come, whether the label has ended, and room for 255 bytes.
-- The bytes that have come are the first of them.
abbrev pub typed_bytes : Typing → List ℕ
typed_bytes t = take t.count t.room

-- "A fresh state"
abbrev pub fresh_state : ℕ → Typing
fresh_state n = record { notation = n; count = 0; ended = false; room = replicate most_bytes 0 }

-- "counted as far as 256"
abbrev pub most_counted : ℕ
most_counted = most_bytes + 1

unfoldable pub capped : ℕ → ℕ
capped n = pick (ltb n most_counted) n most_counted

-- "A state handed in with a larger count is taken as ended."
unfoldable pub has_ended : Typing → Bool
has_ended t = t.ended || ltb most_counted t.count

-- "16, sent after the end"
abbrev pub after_the_end : ℕ
after_the_end = 16

-- A PART

-- "Bytes past 255 are counted as far as 256 and dropped": the part comes after the bytes that are kept, as far as there is room
abbrev pub with_part : Typing → List ℕ → Typing
with_part t u = record {
  notation = t.notation;
  count = capped (t.count + length u);
  ended = t.ended;
  room = take t.count t.room ++ written_over u (drop t.count t.room);
}

-- "A part before the end answers 0; a part .. sent after the end changes nothing and answers 16."
unfoldable pub sent : Typing → List ℕ → Sent
sent t u = pick (has_ended t) (record { number = after_the_end; state = t }) (record { number = 0; state = with_part t u })

-- AN END

-- "the answer is 2 unless 1 applies"; "A notation number outside the list is noticed at the end and gives 1."
unfoldable pub read_as_typed : Typing → Reading
read_as_typed t = pick (ltb most_bytes t.count) (refusal (pick (notation t.notation) 2 1)) (reading t.notation (typed_bytes t))

-- "a second end sent after the end .. answers 16", "before all others"
unfoldable pub end_reading : Typing → Reading
end_reading t = pick (has_ended t) (refusal after_the_end) (read_as_typed t)

-- "the first end marks it as ended, also where that end refuses"; a second one "changes nothing"
unfoldable pub after_end : Typing → Typing
after_end t = pick (has_ended t) t (record { notation = t.notation; count = t.count; ended = true; room = t.room })

-- PARTS ONE AFTER THE OTHER

-- what is there after parts, where `next` is what is there after one
unfoldable pub after_parts : {S : Type 0} → (S → List ℕ → S) → S → List (List ℕ) → S
after_parts next x [] = x
after_parts next x (u ∷ us) = after_parts next (next x u) us

-- the bytes of all parts
unfoldable pub concatenated : List (List ℕ) → List ℕ
concatenated [] = []
concatenated (u ∷ us) = u ++ concatenated us
