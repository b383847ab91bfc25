-- The numbers of a reading, as the machine holds them.
use Prim.Native.Nat.{ℕ, ◌-◌, ◌<◌, ◌≤◌, ◌^◌}
use native.Mathlib.Omega.{arith}
use mathlib.Core.Path.{◌≡◌, refl, ap, ◌∙◌}
use mathlib.Core.Bool.{Bool, true, false}
use mathlib.Core.List.{List, [], ◌∷◌}
use mathlib.Core.Option.{Option}
use lib.IntN.{ℤ, pos}
use mir.Syntax.{w32, w64}
use mir.Val.{SFits, to_z, of_z}
use mir.Facts.{to_z-of_z, to_z_pos, sfits_widen}
use Rattle.label.specs.Letters.{letters_size}
use Rattle.label.specs.Options.{told}
use Rattle.label.specs.declared.Tens.{Tens}
use Rattle.symbols.specs.declared.SymbolAt.{SymbolAt}
use Rattle.symbols.specs.declared.UnitAt.{UnitAt}
use Rattle.symbols.specs.declared.UnitAt.TheVariants.{Known, Unknown}
use Rattle.symbols.specs.Views.{unit_with, symbol_in}
use Rattle.descent.specs.Terms.{term_at}
use Rattle.content.specs.Views.{noted_symbol, term_in, first_letter, last_letter, letters_at, letters_end}
use Rattle.reading.specs.declared.read.Content.{Content}
use Rattle.reading.specs.Answers.{LettersNoted}
use Rattle.record.specs.Record.{flag, code, prefix_code, unit_code, term_fields, head_of}
use Rattle.record.specs.Recordable.{Sized}

held : (n : ℕ) → n < 2 ^ 63 → to_z w64 n ≡ pos n
held n h = to_z_pos w64 h

-- a number of 32 bits as one of 64
pub widened : {z : ℤ} → SFits w32 z → SFits w64 (to_z w32 (of_z w32 z))
widened f = rw (to_z-of_z f) (sfits_widen tt f)

pub widened_is : {z : ℤ} → SFits w32 z → to_z w64 (of_z w64 (to_z w32 (of_z w32 z))) ≡ z
widened_is f = to_z-of_z (widened f) ∙ to_z-of_z f

-- UNITS AND PREFIXES

pub prefix_is : (s : List ℕ) (x : SymbolAt) → prefix_code (symbol_in s x) ≡ code (told x.prefix)
unfolding symbol_in prefix_code
prefix_is s x = go x.unit
  where
    go : (u : UnitAt) → prefix_code (unit_with s (told x.prefix) u) ≡ code (told x.prefix)
    go (Known u) = refl
    go (Unknown l) = refl

-- TERMS

-- a code fits the machine
code_held : (o : Option ℕ) {z : ℤ} → (z ≡ pos (code o)) × (code o ≤ 2 ^ 8) → to_z w64 (of_z w64 z) ≡ pos (code o)
code_held o h = let l : code o < 2 ^ 63 = omega (arith, h.1) in rw h.0 (held (code o) l)

module _ (c : Content) (i : ℕ) {s : List ℕ} (w : LettersNoted s c.terms c.symbols i) where
  size_is : letters_end c.symbols i - letters_at c.symbols i ≡ letters_size (term_in s c.terms c.symbols i)
  size_is = omega (arith, w.start, w.end)

module _ {c : Content} {i : ℕ} (h : Sized c i) (n : SymbolAt) (o : Option ℕ) {x y e : ℤ} {a z : ℕ} where
  pub term_is : n ≡ noted_symbol c.symbols i → (x ≡ pos (code (told n.prefix))) × (code (told n.prefix) ≤ 2 ^ 8)
      → (y ≡ pos (code o)) × (code o ≤ 2 ^ 8) → ((s : List ℕ) (p : Option ℕ) → code o ≡ unit_code (unit_with s p n.unit))
      → e ≡ to_z w32 (of_z w32 (term_at c.terms i).exponent.0) → SFits w32 (term_at c.terms i).exponent.0
      → (a ≡ first_letter n.unit) × (z ≡ last_letter n.unit)
      → (s : List ℕ) → LettersNoted s c.terms c.symbols i
      → to_z w64 (of_z w64 x) ∷ to_z w64 (of_z w64 y) ∷ to_z w64 (of_z w64 e) ∷ to_z w64 (term_at c.terms i).start ∷ to_z w64 ((term_at c.terms i).end - (term_at c.terms i).start)
      ∷ to_z w64 a ∷ to_z w64 (z - a) ∷ []
      ≡ term_fields (term_in s c.terms c.symbols i)
  unfolding term_fields symbol_in
  term_is d f g k l m q s w =
      rw (
        q.0 ∙ ap (λ (v : SymbolAt). first_letter v.unit) d,
        q.1 ∙ ap (λ (v : SymbolAt). last_letter v.unit) d,
        l,
        code_held (told n.prefix) f,
        code_held o g,
        widened_is m,
        held (term_at c.terms i).start (omega (arith, h.forward, h.short)),
        held ((term_at c.terms i).end - (term_at c.terms i).start) (omega (arith, h.short)),
        held (letters_at c.symbols i) (omega (arith, h.letters, h.upto)),
        held (letters_end c.symbols i - letters_at c.symbols i) (omega (arith, h.upto)),
        size_is c i w,
        w.start,
        prefix_is s (noted_symbol c.symbols i),
        k s (told n.prefix),
        d,
      )

-- THE HEAD

flag_held : (b : Bool) → to_z w64 (of_z w64 (flag b)) ≡ flag b
flag_held true = refl
flag_held false = refl

pub head_is : (number : ℕ) (k : Tens) (known lawful recommended : Bool) (count : ℕ) → number < 2 ^ 8 → SFits w32 k.0 → count ≤ 32 → {x y z : ℤ}
    → x ≡ flag known → y ≡ flag lawful → z ≡ flag recommended
    → to_z w64 number ∷ to_z w64 (of_z w64 (to_z w32 (of_z w32 k.0))) ∷ to_z w64 (of_z w64 x) ∷ to_z w64 (of_z w64 y) ∷ to_z w64 (of_z w64 z) ∷ to_z w64 count ∷ []
    ≡ head_of number k known lawful recommended count
head_is number k known lawful recommended count n f c a b d =
    rw
    (held number (omega (arith, n)), widened_is f, a, b, d, flag_held known, flag_held lawful, flag_held recommended, held count (omega (arith, c)))
