-- An input that comes in chunks.
use Rattle.std.specs.Prelude.{ℕ, ◌+◌, ◌≤◌, ◌<◌, ◌≡◌, List, [], ◌++◌, ltb, length, take, drop}
use Rattle.label.specs.Choice.{pick}
use Rattle.label.specs.Lines.{most_line, output_after}
use Rattle.lines.specs.declared.input.Unfinished.{Unfinished}
use Rattle.lines.specs.declared.input.Fed.{Fed}
use Rattle.lines.specs.Writing.{most_answer, Puts}

-- so many bytes of an unfinished line are kept: one more than a line may have
abbrev pub most_kept : ℕ
most_kept = most_line + 1

-- the bytes of an unfinished line
abbrev pub kept_bytes : Unfinished → List ℕ
kept_bytes l = take l.kept l.bytes

-- the bytes u are appended to the unfinished line
pub record Keeps (u : List ℕ) (l l' : Unfinished) : Type 0 where
  pub within : l'.kept ≤ most_kept
  pub bytes_are : kept_bytes l' ≡ take most_kept (kept_bytes l ++ u)

-- What is written and the output that is still due are the output that was due, whatever comes after the chunk.
pub record OutputDue (chunk : List ℕ) (l l' : Unfinished) (out : List ℕ) (r : Fed) : Type 0 where
  pub used_within : r.used ≤ length chunk
  pub written_within : r.written ≤ length out
  pub output_is : (rest : List ℕ)
      → output_after (kept_bytes l) (chunk ++ rest) ≡ take r.written out ++ output_after (kept_bytes l') (drop r.used chunk ++ rest)

-- a step uses at least a byte, if there is one
pub record Steps (chunk : List ℕ) (l : Unfinished) (out : List ℕ) (l' : Unfinished) (out' : List ℕ) (r : Fed) : Type 0 where
  pub due : OutputDue chunk l l' out' r
  pub some_used : 0 < length chunk → 0 < r.used

-- the chunk is used, or there is no room for an answer and its newline
pub data FeedingEnds (chunk out : List ℕ) (r : Fed) : Type 0 where
  chunk_used : r.used ≡ length chunk → FeedingEnds chunk out r
  buffer_full : length out < r.written + most_answer + 1 → FeedingEnds chunk out r

pub record Feeds (chunk : List ℕ) (l : Unfinished) (out : List ℕ) (l' : Unfinished) (out' : List ℕ) (r : Fed) : Type 0 where
  pub due : OutputDue chunk l l' out' r
  pub ended : FeedingEnds chunk out r
  -- with room for a line's answer at least a byte is used, if there is one
  pub some_used : most_answer < length out → 0 < length chunk → 0 < r.used

-- at the end of the input the output that is due is written
pub record Finishes (l : Unfinished) (out out' : List ℕ) (size : ℕ) : Type 0 where
  pub puts : Puts (pick (ltb (length out) (most_answer + 1)) [] (output_after (kept_bytes l) [])) out out' size

-- A program that feeds its input in chunks, cut anywhere, writes after each what was put into its buffer, and finishes, wrote these bytes.
pub data ProgramWrites : Unfinished → List ℕ → List ℕ → Type 0 where
  fed : {l : Unfinished} {s all : List ℕ} (chunk rest out : List ℕ) (l' : Unfinished) (out' written : List ℕ) (r : Fed) → s ≡ chunk ++ rest → Feeds chunk l out l' out' r
      → ProgramWrites l' (drop r.used chunk ++ rest) written → all ≡ take r.written out' ++ written → ProgramWrites l s all
  finished : {l : Unfinished} {s all : List ℕ} (out out' : List ℕ) (size : ℕ) → s ≡ [] → most_answer < length out → Finishes l out out' size → all ≡ take size out'
      → ProgramWrites l s all
