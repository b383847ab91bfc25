-- Bytes of an unfinished line that are kept, and a line's answer with its newline.
use Prim.Native.Nat.{ℕ, ◌+◌, ◌-◌, ◌≤◌, ◌<◌, min}
use native.Mathlib.Omega.{arith}
use native.Mathlib.Decide.{dec_le}
use mathlib.Core.Path.{◌≡◌, refl, sym, ap, ◌∙◌}
use mathlib.Core.List.{List, [], ◌∷◌, ◌++◌}
use lib.ListN.{length, take, drop, set, length-append, length-drop}
use lib.Seq.{take_all, length-take-le, take-append-add, set-append_seam}
use borrow.Rule.Slice.PartMut.{put_mid}
use borrow.Author.Tests.{le-ltb}
use Rattle.std.proofs.lemmas.Slice.{take-put_mid}
use Rattle.label.specs.Bytes.{newline}
use Rattle.label.specs.Lines.{answer, answers}
use Rattle.lines.specs.Writing.{Puts, most_answer, AnswersLine}
use Rattle.lines.specs.Feeding.{most_kept}
use Rattle.lines.proofs.Putting.{over, over_append}

-- KEEPING

module _ (u line : List ℕ) (kept : ℕ) {from size k : ℕ} {p : List ℕ} (full : length line ≡ most_kept) (begins : from ≡ min kept most_kept)
    (some : size ≡ min (length u) (most_kept - from)) (same : k ≡ size) (copied : p ≡ take size u) where
  front : take from line ≡ take kept line
  front = go (dec_le kept most_kept)
    where
      go : Dec (kept ≤ most_kept) → take from line ≡ take kept line
      go (yes h) = let e : from ≡ kept = omega arith in ap (λ (n : ℕ). take n line) e
      go (no h) = take_all from line (omega arith) ∙ sym (take_all kept line (omega arith))

  cut : take size u ≡ take (most_kept - from) u
  cut = go (dec_le (length u) (most_kept - from))
    where
      go : Dec (length u ≤ most_kept - from) → take size u ≡ take (most_kept - from) u
      go (yes h) = take_all size u (omega arith) ∙ sym (take_all (most_kept - from) u h)
      go (no h) = let e : size ≡ most_kept - from = omega arith in ap (λ (n : ℕ). take n u) e

  front_length : length (take from line) ≡ from
  front_length = length-take-le from line (omega arith)

  -- as much of u as there is room for comes after the bytes that are kept
  pub bytes_kept : take (from + size) (put_mid from k line p) ≡ take most_kept (take kept line ++ u)
  bytes_kept =
      let all : length (take from line) + (most_kept - from) ≡ most_kept = omega (arith, front_length) in
      take-put_mid from k line p (from + size) (omega (arith, ap length copied, length-take-le size u (omega arith))) (omega arith)
      ∙ ap (λ (x : List ℕ). take from line ++ x) (copied ∙ cut)
      ∙ sym (take-append-add (take from line) u (most_kept - from))
      ∙ ap (λ (n : ℕ). take n (take from line ++ u)) all
      ∙ ap (λ (x : List ℕ). take most_kept (x ++ u)) front

-- A LINE WITH ITS NEWLINE

-- the place after a text that is put over the start of a longer buffer
set_after : (t b : List ℕ) (v : ℕ) → length t < length b → set (over t b) (length t) v ≡ over (t ++ v ∷ []) b
set_after t b v h = go (drop (length t) b) refl (length-drop (length t) b)
  where
    go : (rest : List ℕ) → drop (length t) b ≡ rest → length (drop (length t) b) ≡ length b - length t → set (over t b) (length t) v ≡ over (t ++ v ∷ []) b
    go [] e l = absurd (omega (arith, ap length e))
    go (y ∷ rest) e l = rw (over_append t (v ∷ []) b, e, set-append_seam)

answers_one : (s : List ℕ) → answers (s ∷ []) ≡ answer s ++ newline ∷ []
unfolding answers
answers_one s = refl

pub line_put : (s b c : List ℕ) (size : ℕ) → most_answer < length b → AnswersLine s b c size → Puts (answers (s ∷ [])) b (set c size newline) (size + 1)
line_put s b c size h a = go (rw (le-ltb (length b) most_answer (omega arith)) at a.puts)
  where
    go : Puts (answer s) b c size → Puts (answers (s ∷ [])) b (set c size newline) (size + 1)
    go p =
        rw (answers_one s)
        (record {
          size_is = omega (arith, p.size_is, length-append (answer s) (newline ∷ []));
          bytes_are = rw (p.size_is, p.bytes_are) (set_after (answer s) b newline (omega (arith, p.size_is, a.short)));
        })
