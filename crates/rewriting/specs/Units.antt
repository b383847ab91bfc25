-- Units of a label, and the forms that they take.
use Rattle.std.specs.Prelude.{ℕ, ◌/◌, ◌%◌, ◌≤◌, ◌≡◌, List, length, Option, IfSome}
use Rattle.std.proofs.Math.Option.{Option as Maybe, some}
use Rattle.label.specs.Options.{told}
use Rattle.label.specs.Units.{unit_at}
use Rattle.label.specs.Letters.{prefix_letters}
use Rattle.label.specs.Writing.{name_in, both_texts}
use Rattle.symbols.specs.declared.Span.{Span}
use Rattle.symbols.specs.declared.SymbolAt.{SymbolAt}
use Rattle.symbols.specs.declared.UnitAt.{UnitAt}
use Rattle.symbols.specs.declared.UnitAt.TheVariants as unit
use Rattle.symbols.specs.Views.{span_letters}
use Rattle.rewriting.specs.declared.form.NameForm.{NameForm}
use Rattle.rewriting.specs.declared.form.NameForm.TheVariants.{Plain, Quoted}
use Rattle.rewriting.specs.declared.form.UnitForm.{UnitForm}
use Rattle.rewriting.specs.declared.name.Own.{Own}
use Rattle.rewriting.specs.declared.unit.SourceTerm.{SourceTerm}
use Rattle.rewriting.specs.Letters.{letters_of, most_in_prefix}
use Rattle.rewriting.specs.Names.{OwnOf}
use Rattle.rewriting.specs.Forms.{written_form, SpanInside}

-- the code of a prefix: how many letters it has, and below that their key
pub record PrefixCode (prefix : Option ℕ) (code : ℕ) : Type 0 where
  pub size : code / 65536 ≡ length (prefix_letters (told prefix))
  pub letters : letters_of most_in_prefix (code % 65536) ≡ prefix_letters (told prefix)
  pub few : code / 65536 ≤ 2

-- the letters of a unit, if it is unknown, lie in the label s
abbrev pub UnitInside : List ℕ → UnitAt → Type 0
UnitInside s (unit.Known u) = Unit {0}
UnitInside s (unit.Unknown l) = SpanInside s l

-- so do those of a symbol's unit
pub record LettersInside (s : List ℕ) (x : SymbolAt) : Type 0 where
  pub inside : UnitInside s x.unit

-- the letters own are those of the name that a known unit has in the source
abbrev pub OwnsName : List ℕ → Own → UnitAt → Type 0
OwnsName own o (unit.Known u) = OwnOf own o
OwnsName own o (unit.Unknown l) = Unit {0}

-- so they are of a term's unit
pub record Owns (own : List ℕ) (r : SourceTerm) : Type 0 where
  pub owns : OwnsName own r.own r.unit.unit

-- what a unit of the label s has after its prefix without quotes in notation m: the name that it takes there, or the letters of an unknown unit
abbrev pub plain_name : ℕ → List ℕ → List ℕ → UnitAt → Maybe (List ℕ)
plain_name m own s (unit.Known u) = name_in m own (unit_at u).names
plain_name m own s (unit.Unknown l) = some (span_letters s l)

-- and with its prefix
unfoldable pub plain_text : ℕ → List ℕ → List ℕ → SymbolAt → Maybe (List ℕ)
plain_text m own s x = both_texts (some (prefix_letters (told x.prefix))) (plain_name m own s x.unit)

-- the letters of the label are none
pub record EmptySpan (p : Span) : Type 0 where
  pub start : p.start ≡ 0
  pub end : p.end ≡ 0

-- the letters of the label are l, after those of no key
pub record LettersAlone (key : ℕ) (p l : Span) : Type 0 where
  pub keyless : key ≡ 0
  pub letters : p ≡ l

-- what the form f has of a unit without quotes: the name of a known unit alone, or the letters of an unknown one alone
abbrev pub PlainName : UnitAt → NameForm → Type 0
PlainName (unit.Known u) (Plain key p) = EmptySpan p
PlainName (unit.Unknown l) (Plain key p) = LettersAlone key p l
PlainName u (Quoted key p) = ⊥

-- what a form of a unit has after its prefix, plainly or in quotes: the name of a known unit alone, or the letters of an unknown one alone
abbrev pub NameAlone : UnitAt → NameForm → Type 0
NameAlone (unit.Known u) (Plain key p) = EmptySpan p
NameAlone (unit.Known u) (Quoted key p) = ⊥
NameAlone (unit.Unknown l) (Plain key p) = LettersAlone key p l
NameAlone (unit.Unknown l) (Quoted key p) = LettersAlone key p l

-- f is the form of a term's unit without quotes in notation m
pub record PlainOf (m : ℕ) (r : SourceTerm) (f : Option UnitForm) : Type 0 where
  pub text : (own : List ℕ) → Owns own r → (s : List ℕ) → written_form s f ≡ plain_text m own s r.unit
  pub name : IfSome f (λ g. PlainName r.unit.unit g.name)
  pub prefix : IfSome f (λ g. letters_of most_in_prefix g.prefix ≡ prefix_letters (told r.unit.prefix))
