-- Chunks of the input: what is written and what is still due.
use Prim.Native.Nat.{ℕ, suc, ◌+◌, ◌-◌, ◌≤◌, ◌<◌}
use native.Mathlib.Omega.{arith}
use mathlib.Core.Path.{◌≡◌, refl, sym, ap, ◌∙◌}
use mathlib.Core.List.{List, [], ◌∷◌, ◌++◌, append_assoc, append-nil}
use lib.ListN.{length, take, drop, length-append, length-drop, length-take, drop_of_length-le}
use lib.Seq.{take_all, length-take-le, take-append_seam, take-append-add, drop-drop}
use borrow.Rule.Slice.PartMut.{mid_of, put_mid}
use borrow.Author.Tests.{lt-ltb, le-ltb}
use Rattle.slices.specs.Slices.{index_of}
use Rattle.label.specs.Bytes.{newline}
use Rattle.label.specs.Lines.{answers, output_after}
use Rattle.lines.specs.declared.input.Unfinished.{Unfinished}
use Rattle.lines.specs.declared.input.Fed.{Fed}
use Rattle.lines.specs.Writing.{Puts, most_answer}
use Rattle.lines.specs.Feeding.{most_kept, kept_bytes, Keeps, OutputDue, Steps, Finishes}
use Rattle.lines.proofs.Lines.{Found}
use Rattle.lines.proofs.Outputs.{line_goes_on, line_ends, last_output, no_output}

-- A STEP

module _ (s : List ℕ) (l l' : Unfinished) where
  -- there is no newline
  pub step_on : (out : List ℕ) → index_of newline s ≡ length s → Keeps s l l' → Steps s l out l' out (record { used = length s; written = 0 })
  step_on out h keeps = record {
    due = record {
      used_within = omega arith;
      written_within = omega arith;
      output_is = λ rest.
          line_goes_on s (kept_bytes l) rest h
          ∙ ap (λ (x : List ℕ). output_after x rest) (sym keeps.bytes_are)
          ∙ ap (λ (x : List ℕ). output_after (kept_bytes l') (x ++ rest)) (sym (drop_of_length-le s {i = length s} (omega arith)));
    };
    some_used = λ z. z;
  }

  -- there is a newline
  pub step_ends : {i : ℕ} → Found newline s i → Keeps (take i s) l l' → (out out' : List ℕ) (written : ℕ) → Puts (answers (kept_bytes l' ∷ [])) out out' written
      → Steps s l out (record { bytes = l'.bytes; kept = 0 }) out' (record { used = i + 1; written = written })
  step_ends {i} w keeps out out' written puts =
      let text = answers (kept_bytes l' ∷ []) in
      let e : i + 1 ≡ suc (index_of newline s) = omega (arith, w.is) in
      let all : take written out' ≡ text =
      ap (λ (n : ℕ). take n out') puts.size_is ∙ ap (take (length text)) puts.bytes_are ∙ take-append_seam text (drop (length text) out) in
      record {
        due = record {
          used_within = omega (arith, w.within);
          written_within = omega (arith, puts.size_is, ap length puts.bytes_are, length-append text (drop (length text) out), length-drop (length text) out);
          output_is = λ rest.
              line_ends s (kept_bytes l) rest (omega (arith, w.within, w.is))
              ∙ ap (λ (n : ℕ). answers (take most_kept (kept_bytes l ++ take n s) ∷ []) ++ output_after [] (drop (suc (index_of newline s)) s ++ rest)) (sym w.is)
              ∙ ap (λ (x : List ℕ). answers (x ∷ []) ++ output_after [] (drop (suc (index_of newline s)) s ++ rest)) (sym keeps.bytes_are)
              ∙ ap (λ (x : List ℕ). x ++ output_after [] (drop (suc (index_of newline s)) s ++ rest)) (sym all)
              ∙ ap (λ (n : ℕ). take written out' ++ output_after [] (drop n s ++ rest)) (sym e);
        };
        some_used = λ _. omega arith;
      }

-- STEPS ONE AFTER THE OTHER

pub due₀ : (s : List ℕ) (l : Unfinished) (out : List ℕ) → OutputDue s l l out (record { used = 0; written = 0 })
due₀ s l out = record { used_within = omega arith; written_within = omega arith; output_is = λ rest. refl }

module _ {s out : List ℕ} {l l₁ : Unfinished} (r r' : Fed) (l₂ : Unfinished) (p : List ℕ) (d : OutputDue s l l₁ out r)
    (d' : OutputDue (take (length s - r.used) (drop r.used s)) l₁ l₂ p r') (same : length p ≡ length (mid_of r.written (length out - r.written) out)) where
  abbrev out' : List ℕ
  out' = put_mid r.written (length out - r.written) out p

  chunk_rest : take (length s - r.used) (drop r.used s) ≡ drop r.used s
  chunk_rest = take_all (length s - r.used) (drop r.used s) (omega (arith, length-drop r.used s))

  front : length (take r.written out) ≡ r.written
  front = length-take-le r.written out d.written_within

  joined : out' ≡ take r.written out ++ p
  joined =
      ap (λ (x : List ℕ). take r.written out ++ (p ++ x)) (drop_of_length-le (drop r.written out) {i = length out - r.written} (omega (arith, length-drop r.written out)))
      ∙ ap (λ (x : List ℕ). take r.written out ++ x) (append-nil p)

  both_written : take (r.written + r'.written) out' ≡ take r.written out ++ take r'.written p
  both_written =
      ap (take (r.written + r'.written)) joined
      ∙ ap (λ (n : ℕ). take (n + r'.written) (take r.written out ++ p)) (sym front)
      ∙ take-append-add (take r.written out) p r'.written

  pub due_more : OutputDue s l l₂ out' (record { used = r.used + r'.used; written = r.written + r'.written })
  due_more = record {
    used_within = omega (arith, d.used_within, d'.used_within, ap length chunk_rest, length-drop r.used s);
    written_within = omega (arith, d'.written_within, ap length joined, length-append (take r.written out) p, front);
    output_is = λ rest.
        let due = output_after (kept_bytes l₂) (drop (r.used + r'.used) s ++ rest) in
        let later : output_after (kept_bytes l₁) (drop r.used s ++ rest) ≡ take r'.written p ++ due =
        rw (chunk_rest, drop-drop) at (d'.output_is rest) in
        d.output_is rest ∙ ap (λ (x : List ℕ). take r.written out ++ x) later
        ∙ sym (append_assoc (take r.written out) (take r'.written p) due)
        ∙ ap (λ (x : List ℕ). x ++ due) (sym both_written);
  }

-- a step moves on
pub step_moves : {out out' : List ℕ} {l l' : Unfinished} {r : Fed} (s : List ℕ) (used : ℕ) → used < length s
    → Steps (take (length s - used) (drop used s)) l out l' out' r → 0 < r.used
step_moves s used h steps = steps.some_used (omega (arith, length-take (length s - used) (drop used s), length-drop used s))

-- THE LAST LINE

last_line_output : (p : List ℕ) → 0 < length p → output_after p [] ≡ answers (p ∷ [])
last_line_output [] h = absurd (omega arith)
last_line_output (c ∷ p) h = last_output c p

pub finish_short : (l : Unfinished) (out : List ℕ) → length out < most_answer + 1 → Finishes l out out 0
finish_short l out h = record { puts = rw (lt-ltb (length out) (most_answer + 1) h) (record { size_is = refl; bytes_are = refl }) }

pub finish_nothing : (l : Unfinished) (out : List ℕ) → most_answer + 1 ≤ length out → l.kept ≡ 0 → Finishes l out out 0
finish_nothing l out h e = record { puts = rw (le-ltb (length out) (most_answer + 1) h, e, no_output) (record { size_is = refl; bytes_are = refl }) }

pub finish_line : (l : Unfinished) (out out' : List ℕ) (size : ℕ) → most_answer + 1 ≤ length out → 0 < length (kept_bytes l) → Puts (answers (kept_bytes l ∷ [])) out out' size
    → Finishes l out out' size
finish_line l out out' size h g puts = record { puts = rw (le-ltb (length out) (most_answer + 1) h, last_line_output (kept_bytes l) g) puts }
