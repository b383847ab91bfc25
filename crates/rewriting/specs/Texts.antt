-- A text that is written piece by piece into an array.
use Rattle.std.specs.Prelude.{ℕ, ◌≡◌, true, false, leb, List, length, Option, Result, Ok, Err, MatchOption}
use Rattle.std.proofs.Math.Option.{Option as Maybe, some, none}
use Rattle.label.specs.Writing.{both_texts}
use Rattle.rewriting.specs.declared.text.Unkept.{Unkept}
use Rattle.rewriting.specs.declared.text.Unkept.TheVariants.{Overlong, WithoutForm}

-- how many bytes the array of a spelling has: 255 letters with a prefix and quotes fit
abbrev pub text_room : ℕ
text_room = 260

-- what an array of n bytes keeps of the text o: the whole, or why it is not kept
unfoldable pub held : ℕ → Maybe (List ℕ) → Result (List ℕ) Unkept
held n none = Err WithoutForm
held n (some x) = elim (leb (length x) n) [ true ↦ Ok x | false ↦ Err Overlong ]

-- from the value v to w of an array of n bytes, the text o is written after what was there; where one of both has no form, the whole has none
pub record Adds (n : ℕ) (v : Result (List ℕ) Unkept) (o : Maybe (List ℕ)) (w : Result (List ℕ) Unkept) : Type 0 where
  pub adds : (x : Maybe (List ℕ)) → v ≡ held n x → w ≡ held n (both_texts x o)

-- the same of the bytes s
abbrev pub Writes : ℕ → Result (List ℕ) Unkept → List ℕ → Result (List ℕ) Unkept → Type 0
Writes n v s w = Adds n v (some s) w

-- the same of a text o that has a form
pub record WritesForm (n : ℕ) (v : Result (List ℕ) Unkept) (o : Maybe (List ℕ)) (w : Result (List ℕ) Unkept) : Type 0 where
  pub text : List ℕ
  pub form : o ≡ some text
  pub writes : Writes n v text w

-- and of one that has none, after which the whole has none
pub record LosesForm (n : ℕ) (v : Result (List ℕ) Unkept) (o : Maybe (List ℕ)) (w : Result (List ℕ) Unkept) : Type 0 where
  pub formless : o ≡ none
  pub loses : Adds n v none w

-- o is written, and something is answered where it has a form
abbrev pub WritesText : {A : Type 0} → ℕ → Result (List ℕ) Unkept → Maybe (List ℕ) → Option A → Result (List ℕ) Unkept → Type 0
WritesText n v o r w = MatchOption r (LosesForm n v o w) (λ _. WritesForm n v o w)
