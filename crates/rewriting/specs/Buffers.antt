-- What rewriting into a lent buffer answers.
use Rattle.std.specs.Prelude.{ℕ, ◌≡◌, List, length, Result, Ok, Err}
use Rattle.label.specs.declared.Refusal.{Refusal}
use Rattle.label.specs.Refusals.{number_of}
use Rattle.label.specs.Writing.{Rewriting, refuse_rewriting, fitted, buffer_with}
use Rattle.rewriting.specs.declared.rewrite.Rewritten.{Rewritten}

-- the number and the length of an answer
pub record AnswerIs (x : Rewriting) (r : Rewritten) : Type 0 where
  pub number : r.number ≡ x.number
  pub length_is : r.length ≡ length x.text

-- a text that is no refusal
abbrev pub accepted : List ℕ → Rewriting
accepted t = record { number = 0; text = t }

-- the same as a result: the length, or a refusal
abbrev pub Answers : Rewriting → Result ℕ Refusal → Type 0
Answers x (Ok size) = (x.number ≡ 0) × (length x.text ≡ size)
Answers x (Err e) = x ≡ refuse_rewriting (number_of e)

-- x is answered as r where a buffer b is lent, which then is c: a refusal, also that b is too short, or the text
pub record Delivers (x : Rewriting) (b : List ℕ) (r : Result ℕ Refusal) (c : List ℕ) : Type 0 where
  pub answers : Answers (fitted (length b) x) r
  pub buffer : c ≡ buffer_with (fitted (length b) x) b

-- a result as an answer
abbrev pub answer_of : Result ℕ Refusal → Rewritten
answer_of (Ok size) = record { number = 0; length = size }
answer_of (Err e) = record { number = number_of e; length = 0 }
