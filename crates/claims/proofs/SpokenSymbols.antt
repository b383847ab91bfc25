-- What the spelling of a term stands for: a unit of the table or letters, after a prefix of the table or none.
use Prim.Native.Nat.{ℕ, ◌+◌, ◌≤◌}
use native.Mathlib.Omega.{arith}
use mathlib.Core.Path.{◌≡◌, refl, sym, ◌∙◌}
use mathlib.Core.List.{List, [], ◌∷◌, ◌++◌}
use mathlib.Core.Option.{Option, none, some}
use lib.Dec.{T}
use lib.ListN.{length, length-append}
use borrow.Author.Tests.{eqb-true}
use Rattle.label.specs.declared.Rules.{Rules}
use Rattle.label.specs.Bytes.{all, letter, percent, quote}
use Rattle.label.specs.Lexical.{Letters}
use Rattle.label.specs.Letters.{prefix_letters}
use Rattle.label.specs.Prefixes.{prefix_named}
use Rattle.label.specs.Symbols.{Symbol, known, unknown, unit_named, symbol}
use Rattle.label.specs.Writing.{in_quotes}
use Rattle.label.proofs.Basics.{T→true}
use Rattle.label.proofs.Computing.{symbols_compute}
use Rattle.label.proofs.General.{SpellingBy}
use Rattle.label.proofs.Ruled.{RuledBy}
use Rattle.label.proofs.Owned.{OwnedBy, quoted_as, QuotedAs, letters_owned, letters_all, all_letters, all_right}

-- of a spelling of so many bytes
pub data Speakable (n size : ℕ) : Symbol → Type 0 where
  a_unit : {p : Option ℕ} {u : ℕ} (l : List ℕ) → prefix_named (prefix_letters p) ≡ p → unit_named n l ≡ some u → length (prefix_letters p) + length l ≤ size
      → Speakable n size (known p u)
  letters : {p : Option ℕ} {l : List ℕ} → prefix_named (prefix_letters p) ≡ p → Letters l → length (prefix_letters p) + length l ≤ size
      → Speakable n size (unknown p l)

spelling_size : {s : List ℕ} (a b : List ℕ) → s ≡ a ++ b → length a + length b ≤ length s
spelling_size a b e = rw e (rw (length-append a b) (omega arith))

owned_speakable : {n : ℕ} {s : List ℕ} {x : Symbol} → T (all letter s) → OwnedBy n s x → Speakable n (length s) x
owned_speakable t (OwnedBy.by_name {p = p} r e g f h) = Speakable.a_unit r g f (spelling_size (prefix_letters p) r e)
owned_speakable t (OwnedBy.by_letters {p = p} {l = l} e g h) =
    Speakable.letters g (all_letters l (all_right letter (prefix_letters p) l (rw e at t)) h) (spelling_size (prefix_letters p) l e)

quoted_speakable : {n : ℕ} {s : List ℕ} → QuotedAs n s → Speakable n (length s) (symbol n s)
quoted_speakable {n} {s} w =
    let z = spelling_size (prefix_letters w.prefix) (in_quotes w.letters) w.is in
    rw w.reads (Speakable.letters w.named w.spelled (omega (arith, z, length-append w.letters (quote ∷ []))))

percent_speakable : Speakable 3 1 (symbol 3 (percent ∷ []))
unfolding symbols_compute
percent_speakable = Speakable.a_unit {p = none} (percent ∷ []) refl refl (omega arith)

pub spelling_speakable : {n : ℕ} {r : Rules} {s : List ℕ} → RuledBy n r → SpellingBy r s → Speakable n (length s) (symbol n s)
spelling_speakable {n} o (SpellingBy.letters d) = owned_speakable (letters_all d) (letters_owned n d)
spelling_speakable {n} {r} o (SpellingBy.percent f) = rw (eqb-true n 3 (sym o.listed.percent ∙ T→true r.percent f)) percent_speakable
spelling_speakable {n} o (SpellingBy.quoted f d) = quoted_speakable (quoted_as n d)
