-- What is claimed of labels that come in parts.
use Rattle.std.specs.Prelude.{ℕ, ◌≤◌, ◌<◌, ◌^◌, ◌≡◌, true, List, ◌↔◌, length}
use Rattle.label.specs.Reading.{refusal, reading}
use Rattle.record.specs.Record.{buffer_after}
use Rattle.typing.specs.declared.state.Typing.{Typing}
use Rattle.typing.specs.Typing.{fresh_state, has_ended, sent, end_reading, after_end, after_parts, concatenated}
use Rattle.typing.specs.Layout.{state_size, lent_state, lent_after_begin, lent_after_part, lent_after_end}

-- Parts are sent to something that holds a state, from `start` on: `next` is what is there after one. Whatever the parts are, the answers are
-- those of the one-call reader to all their bytes.
pub record ReadsAsOne {S : Type 0} (state : S → Typing) (next : S → List ℕ → S) (start : S) (n : ℕ) : Type 0 where
  -- "A part before the end answers 0": each part, after those before it
  pub part_answers : (us : List (List ℕ)) (u : List ℕ) → (sent (state (after_parts next start us)) u).number ≡ 0
  -- "For the same bytes, cut anywhere, the answer is that of the one-call reader, refusals included."
  pub end_answers : (us : List (List ℕ)) → end_reading (state (after_parts next start us)) ≡ reading n (concatenated us)
  -- so is every byte of a lent buffer
  pub same_record : (us : List (List ℕ)) (c : List ℕ) → buffer_after (end_reading (state (after_parts next start us))) c ≡ buffer_after (reading n (concatenated us)) c

-- It holds of states by value, and of lent ones with room for a state.
pub record CutAnywhere : Type 0 where
  pub by_value : (n : ℕ) → ReadsAsOne (λ (t : Typing). t) (λ (t : Typing) (u : List ℕ). (sent t u).state) (fresh_state n) n
  pub lent : (n : ℕ) → n < 2 ^ 32 → (b : List ℕ) → state_size ≤ length b → ReadsAsOne lent_state lent_after_part (lent_after_begin n b) n

-- "16, sent after the end": given exactly then. A state is one that has ended after the first end, whatever that answers, and changes no more.
pub record NothingAfterTheEnd : Type 0 where
  pub part_refused : (t : Typing) (u : List ℕ) → ((sent t u).number ≡ 16) ↔ (has_ended t ≡ true)
  pub end_refused : (t : Typing) → ((end_reading t).number ≡ 16) ↔ (has_ended t ≡ true)
  pub refused_as_others : (t : Typing) → has_ended t ≡ true → end_reading t ≡ refusal 16
  pub marked : (t : Typing) → has_ended (after_end t) ≡ true
  pub part_changes_nothing : (t : Typing) (u : List ℕ) → has_ended t ≡ true → (sent t u).state ≡ t
  pub end_changes_nothing : (t : Typing) → has_ended t ≡ true → after_end t ≡ t
  -- lent states
  pub lent_marked : (b : List ℕ) → has_ended (lent_state (lent_after_end b)) ≡ true
  pub lent_part_changes_nothing : (b u : List ℕ) → has_ended (lent_state b) ≡ true → lent_after_part b u ≡ b
  pub lent_end_changes_nothing : (b : List ℕ) → has_ended (lent_state b) ≡ true → lent_after_end b ≡ b
  pub too_short : (b : List ℕ) → length b < state_size → has_ended (lent_state b) ≡ true

-- "A refused reading has no terms, k = 0, no dimensions, scale 1 and all verdicts no": so has every end that is refused, of any state.
abbrev pub RefusedEndsAreEmpty : Type 0
RefusedEndsAreEmpty = (t : Typing) → 0 < (end_reading t).number → end_reading t ≡ refusal (end_reading t).number
