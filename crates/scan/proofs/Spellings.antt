-- Spellings at a place of the text, one law for each way through the code.
use Prim.Native.Nat.{ℕ, ◌≤◌, ◌<◌, ◌+◌}
use native.Mathlib.Omega.{arith}
use mathlib.Core.Path.{◌≡◌, refl, ◌∙◌}
use mathlib.Core.Bool.{Bool, true, false, ◌&&◌}
use mathlib.Core.List.{List, [], ◌∷◌, ◌++◌}
use lib.Dec.{eqb}
use lib.ListN.{length, drop, get_or}
use borrow.Author.Tests.{eqb-true, ne_eqb}
use Rattle.label.specs.declared.Rules.{Rules}
use Rattle.label.specs.Bytes.{percent, quote, letter, run, past}
use Rattle.std.proofs.Common.{Option, Some, None}
use Rattle.std.specs.Bool.{then_some}
use Rattle.label.specs.Choice.{pick}
use Rattle.label.specs.Parse.{Found, none, found, byte, quoted_on, quoted, lettered, spelling}
use Rattle.label.specs.Prefixes.{prefix_name}
use Rattle.label.specs.Ranges.{between}
use Rattle.scan.specs.Runs.{Run}
use Rattle.scan.specs.Spellings.{QuoteAt, Told, ReadsQuoted, ReadsLettered, ReadsSpelling}
use Rattle.label.proofs.Between.{between_none, between_join, between_cons, between_one, between_more}
use Rattle.scan.proofs.Places.{by_byte, byte_found}

-- the same is found
as_told : {x y : Found (List ℕ)} (s : List ℕ) (a : ℕ) (o : Option ℕ) → x ≡ y → Told y s a o → Told x s a o
as_told s a (Some f) e w = record { is = e ∙ w.is; ahead = w.ahead; within = w.within }
as_told s a None e w = e ∙ w

-- LETTERS AND A CLOSING QUOTE

on_letters : (p t : List ℕ) {l : List ℕ} {c : ℕ} {m : List ℕ} → l ≡ c ∷ m → quoted_on p l t ≡ byte quote (p ++ quote ∷ l ++ quote ∷ []) t
unfolding quoted_on
on_letters p t e = rw e

module _ {s : List ℕ} {a q : ℕ} (w : QuoteAt s a q) {e : ℕ} (l : Run letter s (q + 1) e) where
  pub quoted_empty : e ≡ q + 1 → ReadsQuoted s a q None
  unfolding quoted quoted_on
  quoted_empty f = rw (← l.bytes, f, between_none s (q + 1))

  module _ (n : e ≡ q + 1 → ⊥) where
    quoted_is : quoted (between s a q) (drop (q + 1) s)
        ≡ pick (eqb (get_or s e 0) quote) (found (between s a q ++ quote ∷ between s (q + 1) e ++ quote ∷ []) (drop (e + 1) s)) none
    unfolding quoted byte
    quoted_is =
        rw (← l.bytes, ← l.rest, on_letters (between s a q) (drop e s) (between_cons s (q + 1) e (omega (arith, l.from)) l.within))
        (by_byte (byte quote (between s a q ++ quote ∷ between s (q + 1) e ++ quote ∷ [])) (λ c w u. pick (eqb c quote) (found (between s a q ++ quote ∷ between s (q + 1) e ++ quote ∷ []) u) none) (λ c u. refl) refl s e)

    quoted_open : eqb (get_or s e 0) quote ≡ false → ReadsQuoted s a q None
    quoted_open f = quoted_is ∙ rw f

    -- the bytes from the start up to after the closing quote
    quoted_bytes : e < length s → get_or s e 0 ≡ quote → between s a q ++ quote ∷ between s (q + 1) e ++ quote ∷ [] ≡ between s a (e + 1)
    quoted_bytes h f =
        rw (
          between_more s a e (omega (arith, w.forward, l.from)) h,
          f,
          ← between_join s a q e w.forward (omega (arith, l.from)),
          between_cons s q e (omega (arith, l.from)) l.within,
          w.is,
        )

    quoted_closed : eqb (get_or s e 0) quote ≡ true → ReadsQuoted s a q (Some (e + 1))
    quoted_closed f =
        let k : get_or s e 0 ≡ quote = eqb-true _ _ f in
        let h : e < length s = byte_found s e quote (omega arith) k in
        record { is = quoted_is ∙ rw (f, quoted_bytes h k); ahead = omega (arith, w.forward, l.from); within = omega arith }

    -- the byte at the letters' end tells
    pub quoted_end : {c : ℕ} → c ≡ get_or s e 0 → ReadsQuoted s a q (then_some (eqb c quote) (e + 1))
    quoted_end h = rw h (go (eqb (get_or s e 0) quote) refl)
      where
        go : (b : Bool) → eqb (get_or s e 0) quote ≡ b → ReadsQuoted s a q (then_some b (e + 1))
        go true f = quoted_closed f
        go false f = quoted_open f

-- a quote at a place, of a spelling that starts at a
pub quote_at : {s : List ℕ} {a q : ℕ} → a ≤ q → get_or s q 0 ≡ quote → QuoteAt s a q
quote_at {s} {a} {q} h e = record { forward = h; within = byte_found s q quote (omega arith) e; is = e }

-- LETTERS, OR A QUOTED SPELLING THAT THEY BEGIN

module _ (r : Rules) (s : List ℕ) {a e : ℕ} (h : a < e) where
  lettered_is : (l : List ℕ) → lettered r l (drop e s) ≡ pick (eqb (get_or s e 0) quote && r.quotes) (pick (prefix_name l) (quoted l (drop (e + 1) s)) none) (found l (drop e s))
  unfolding lettered
  lettered_is l = by_byte (lettered r l) (λ c w u. pick (eqb c quote && r.quotes) (pick (prefix_name l) (quoted l u) none) (found l w)) (λ c u. refl) refl s e

  pub lettered_plain : e ≤ length s → (eqb (get_or s e 0) quote && r.quotes) ≡ false → ReadsLettered r s a e (Some e)
  lettered_plain g f = record { is = lettered_is (between s a e) ∙ rw f; ahead = h; within = g }

  module _ (f : (eqb (get_or s e 0) quote && r.quotes) ≡ true) where
    pub lettered_unnamed : prefix_name (between s a e) ≡ false → ReadsLettered r s a e None
    lettered_unnamed n = lettered_is (between s a e) ∙ rw (f, n)

    pub lettered_named : (o : Option ℕ) → prefix_name (between s a e) ≡ true → ReadsQuoted s a e o → ReadsLettered r s a e o
    lettered_named o n w = as_told s a o (lettered_is (between s a e) ∙ rw (f, n)) w

-- A SPELLING

module _ (r : Rules) (s : List ℕ) (a : ℕ) where
  spelling_is : spelling r (drop a s)
      ≡ pick (letter (get_or s a 0)) (lettered r (run letter (drop a s)) (past letter (drop a s)))
      (pick (eqb (get_or s a 0) percent && r.percent) (found (get_or s a 0 ∷ []) (drop (a + 1) s))
      (pick (eqb (get_or s a 0) quote && r.quotes) (quoted [] (drop (a + 1) s)) none))
  unfolding spelling letter
  spelling_is =
      by_byte (spelling r)
      (λ c w u. pick (letter c) (lettered r (run letter w) (past letter w))
      (pick (eqb c percent && r.percent) (found (c ∷ []) u)
      (pick (eqb c quote && r.quotes) (quoted [] u) none)))
      (λ c u. refl) refl s a

  pub spelling_percent : get_or s a 0 ≡ percent → ReadsSpelling r s a (then_some r.percent (a + 1))
  unfolding letter
  spelling_percent e = go r.percent refl
    where
      h : a < length s
      h = byte_found s a percent (omega arith) e

      go : (b : Bool) → r.percent ≡ b → ReadsSpelling r s a (then_some b (a + 1))
      go true f = record { is = spelling_is ∙ rw (e, f, between_one s a h, e); ahead = omega arith; within = omega (arith, h) }
      go false f = spelling_is ∙ rw (e, f)

  module _ (e : get_or s a 0 ≡ quote) where
    pub spelling_unquoted : r.quotes ≡ false → ReadsSpelling r s a None
    unfolding letter
    spelling_unquoted f = spelling_is ∙ rw (e, f)

    pub spelling_quoted : (o : Option ℕ) → r.quotes ≡ true → ReadsQuoted s a a o → ReadsSpelling r s a o
    unfolding letter
    spelling_quoted o f w = as_told s a o (spelling_is ∙ rw (e, f, between_none s a)) w

  pub spelling_lettered : {e : ℕ} (o : Option ℕ) → letter (get_or s a 0) ≡ true → Run letter s a e → ReadsLettered r s a e o → ReadsSpelling r s a o
  spelling_lettered o f l w = as_told s a o (spelling_is ∙ rw (f, l.bytes, l.rest)) w

  pub spelling_none : (get_or s a 0 ≡ percent → ⊥) → (get_or s a 0 ≡ quote → ⊥) → letter (get_or s a 0) ≡ false → ReadsSpelling r s a None
  spelling_none m n f = spelling_is ∙ rw (f, ne_eqb _ _ m, ne_eqb _ _ n)
