-- Units in their forms, as they are written, and what joins them.
use Rattle.std.specs.Prelude.{ℕ, zero, suc, ◌≤◌, List, [], ◌++◌, length, Option, Some, None}
use Rattle.std.proofs.Math.Option.{Option as Maybe, some, none}
use Rattle.label.specs.declared.Exponent.{Exponent}
use Rattle.label.specs.Ranges.{between}
use Rattle.label.specs.Writing.{in_quotes, exponent_text, both_texts}
use Rattle.label.specs.Rows.{Style}
use Rattle.symbols.specs.declared.Span.{Span}
use Rattle.symbols.specs.Keys.{most_letters}
use Rattle.rewriting.specs.declared.form.NameForm.{NameForm}
use Rattle.rewriting.specs.declared.form.NameForm.TheVariants.{Plain, Quoted}
use Rattle.rewriting.specs.declared.form.UnitForm.{UnitForm}
use Rattle.rewriting.specs.Letters.{letters_of, most_in_prefix}

-- the letters of a key, and letters of the label s
abbrev pub key_and_letters : List ℕ → ℕ → Span → List ℕ
key_and_letters s key p = letters_of most_letters key ++ between s p.start p.end

-- what is written after the prefix of a unit of the label s: these letters plainly, or in quotes
abbrev pub name_text : List ℕ → NameForm → List ℕ
name_text s (Plain key p) = key_and_letters s key p
name_text s (Quoted key p) = in_quotes (key_and_letters s key p)

-- a unit of the label s in its form
unfoldable pub form_text : List ℕ → UnitForm → List ℕ
form_text s f = letters_of most_in_prefix f.prefix ++ name_text s f.name

-- a unit of the label s in the form that it has, if any
unfoldable pub written_form : List ℕ → Option UnitForm → Maybe (List ℕ)
written_form s None = none
written_form s (Some f) = some (form_text s f)

-- the letters p lie in the label s
pub record SpanInside (s : List ℕ) (p : Span) : Type 0 where
  pub forward : p.start ≤ p.end
  pub within : p.end ≤ length s

-- and so do those of a form
abbrev pub NameInside : List ℕ → NameForm → Type 0
NameInside s (Plain key p) = SpanInside s p
NameInside s (Quoted key p) = SpanInside s p

-- a unit in its form, and its exponent
abbrev pub raised_text : Style → List ℕ → Option UnitForm → Exponent → Maybe (List ℕ)
raised_text y s f e = both_texts (written_form s f) (exponent_text y e)

-- what joins term i to those before it
unfoldable pub joint_before : Style → ℕ → List ℕ
joint_before y zero = []
joint_before y (suc i) = y.joint
