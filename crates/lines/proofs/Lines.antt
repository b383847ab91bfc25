-- Fields and answers of a line, and the output that is due.
use Prim.Native.Nat.{ℕ, suc, ◌+◌, ◌-◌, ◌≤◌, ◌<◌}
use native.Mathlib.Omega.{arith}
use mathlib.Core.Path.{◌≡◌, refl, sym, ap, ◌∙◌}
use mathlib.Core.Bool.{Bool, true, false, ◌&&◌, not, cond}
use mathlib.Core.List.{List, [], ◌∷◌, ◌++◌, append-nil}
use lib.Dec.{leb, ltb, eqb}
use lib.ListN.{length, take, drop, length-take, length-drop}
use lib.Seq.{take_all}
use borrow.Author.Tests.{le-leb, lt-leb, lt-ltb, le-ltb, eq-eqb, ne_eqb, ltb-true, ltb-false}
use Rattle.std.specs.Prelude.{Option, Some, None}
use Rattle.std.specs.Option.{is_some}
use Rattle.std.specs.List.{position, position_or_len}
use Rattle.slices.specs.Slices.{index_of, index_after}
use Rattle.label.specs.Bytes.{tab}
use Rattle.label.specs.Lines.{most_line, parts, last_field, fields, malformed, well_formed, answer_fields, answer}
use Rattle.lines.specs.Fields.{Parted, FourFields}
use Rattle.lines.specs.Writing.{Puts, number_text, most_answer, AnswersLine}
use Rattle.lines.proofs.Putting.{malformed_is, number_size}
use Rattle.lines.proofs.Parts.{parts_found, parts_missing}

-- PLACES

place_len : (b : ℕ) (s : List ℕ) → position_or_len (λ (x : ℕ). eqb x b) s ≡ index_of b s
unfolding index_of index_after
place_len b [] = refl
place_len b (c ∷ s) = go (eqb c b) (place_len b s)
  where
    go : (t : Bool) → position_or_len (λ (x : ℕ). eqb x b) s ≡ index_of b s → cond (not t) (1 + position_or_len (λ (x : ℕ). eqb x b) s) 0 ≡ index_after t (index_of b s)
    go true e = refl
    go false e = omega (arith, e)

index_le : (b : ℕ) (s : List ℕ) → index_of b s ≤ length s
unfolding index_of index_after
index_le b [] = omega arith
index_le b (c ∷ s) = go (eqb c b) (index_le b s)
  where
    go : (t : Bool) → index_of b s ≤ length s → index_after t (index_of b s) ≤ length (c ∷ s)
    go true h = omega arith
    go false h = omega arith

-- the first place of a byte, where there is one
pub record Found (b : ℕ) (s : List ℕ) (i : ℕ) : Type 0 where
  pub within : i < length s
  pub is : i ≡ index_of b s

module _ (b : ℕ) (s : List ℕ) where
  abbrev first : ℕ
  first = position_or_len (λ (x : ℕ). eqb x b) s

  pub place_found : {o : Option ℕ} (i : ℕ) → o ≡ position (λ (x : ℕ). eqb x b) s → o ≡ Some i → Found b s i
  place_found i e f = go (ltb first (length s)) refl (sym e ∙ f)
    where
      go : (t : Bool) → ltb first (length s) ≡ t → cond t (Some first) None ≡ Some i → Found b s i
      go true h q = let z : first ≡ i = cc in record { within = omega (arith, ltb-true first (length s) h, z); is = sym z ∙ place_len b s }
      go false h q = absurd cc

  missing_at : ltb first (length s) ≡ false → index_of b s ≡ length s
  missing_at h = omega (arith, ltb-false first (length s) h, place_len b s, index_le b s)

  pub place_missing : {o : Option ℕ} → o ≡ position (λ (x : ℕ). eqb x b) s → o ≡ None → index_of b s ≡ length s
  place_missing e f = go (ltb first (length s)) refl (sym e ∙ f)
    where
      go : (t : Bool) → ltb first (length s) ≡ t → cond t (Some first) None ≡ None → index_of b s ≡ length s
      go true h q = absurd cc
      go false h q = missing_at h

  pub some_place : {o : Option ℕ} {t : Bool} → o ≡ position (λ (x : ℕ). eqb x b) s → t ≡ is_some o → t ≡ true → index_of b s < length s
  some_place e f h = go (ltb first (length s)) refl (ap is_some (sym e) ∙ sym f ∙ h)
    where
      go : (t : Bool) → ltb first (length s) ≡ t → is_some (cond t (Some first) None) ≡ true → index_of b s < length s
      go true g q = omega (arith, ltb-true first (length s) g, place_len b s)
      go false g q = absurd cc

  pub no_place : {o : Option ℕ} {t : Bool} → o ≡ position (λ (x : ℕ). eqb x b) s → t ≡ is_some o → t ≡ false → index_of b s ≡ length s
  no_place e f h = go (ltb first (length s)) refl (ap is_some (sym e) ∙ sym f ∙ h)
    where
      go : (t : Bool) → ltb first (length s) ≡ t → is_some (cond t (Some first) None) ≡ false → index_of b s ≡ length s
      go true g q = absurd cc
      go false g q = missing_at g

-- FIELDS

module _ (s : List ℕ) where
  pub parted : {i : ℕ} → Found tab s i → Parted s (take i s) (take (length s - (i + 1)) (drop (i + 1) s))
  parted {i} w =
      let rest = take_all (length s - (i + 1)) (drop (i + 1) s) (omega (arith, length-drop (i + 1) s)) in
      let e : suc (index_of tab s) ≡ i + 1 = omega (arith, w.is) in
      record {
        fields_are = rw (append-nil s, append-nil (drop (suc (index_of tab s)) s), e, ← w.is, ← rest) at (parts_found tab last_field s [] [] (omega (arith, w.within, w.is)));
        size_is = omega (arith, w.within, length-take i s, ap length rest, length-drop (i + 1) s);
      }

  pub not_parted : index_of tab s ≡ length s → fields s ≡ s ∷ []
  unfolding parts
  not_parted h = rw (append-nil s) at (parts_missing tab last_field s [] [] h)

-- ANSWERS

fields_some : (s p : List ℕ) → 0 < length (parts tab last_field p s)
unfolding parts
fields_some [] p = omega arith
fields_some (c ∷ s) p = go (eqb c tab) refl (fields_some s []) (λ q. fields_some s q)
  where
    go : (t : Bool) → eqb c tab ≡ t → 0 < length (parts tab last_field [] s) → ((q : List ℕ) → 0 < length (parts tab last_field q s)) → 0 < length (parts tab last_field p (c ∷ s))
    go true e h more = rw (parts, e) (omega arith)
    go false e h more = rw (parts, e) (more (p ++ c ∷ []))

and_false : (t : Bool) → (t && false) ≡ false
and_false true = refl
and_false false = refl

module _ (s : List ℕ) where
  pub answer_long : most_line < length s → answer s ≡ malformed
  unfolding answer well_formed
  answer_long h = rw (lt-leb (length s) most_line h)

  answer_count : eqb (length (fields s)) 4 ≡ false → answer s ≡ malformed
  unfolding answer well_formed
  answer_count e = rw (e, and_false (leb (length s) most_line))

  answer_four : length s ≤ most_line → length (fields s) ≡ 4 → answer s ≡ answer_fields (fields s)
  unfolding answer well_formed
  answer_four h e = rw (le-leb (length s) most_line h, eq-eqb (length (fields s)) 4 e)

  pub one_field : fields s ≡ s ∷ [] → answer s ≡ malformed
  one_field e = answer_count (rw e)

  module _ {a r : List ℕ} (one : Parted s a r) where
    pub two_fields : fields r ≡ r ∷ [] → answer s ≡ malformed
    two_fields e = answer_count (rw (one.fields_are, e))

    module _ {b q : List ℕ} (two : Parted r b q) where
      pub three_fields : fields q ≡ q ∷ [] → answer s ≡ malformed
      three_fields e = answer_count (rw (one.fields_are, two.fields_are, e))

      module _ {c t : List ℕ} (three : Parted q c t) where
        pub five_fields : index_of tab t < length t → answer s ≡ malformed
        five_fields h =
            let rest = take (length t - (index_of tab t + 1)) (drop (index_of tab t + 1) t) in
            answer_count
            (rw (one.fields_are, two.fields_are, three.fields_are, (parted t (record { within = h; is = refl })).fields_are)
            (ne_eqb (suc (suc (suc (suc (length (fields rest)))))) 4 (λ e. omega (arith, fields_some rest []))))

        pub four_fields : length s ≤ most_line → fields t ≡ t ∷ [] → FourFields s a b c t
        four_fields h e =
            let all : fields s ≡ a ∷ b ∷ c ∷ t ∷ [] = rw (one.fields_are, two.fields_are, three.fields_are, e) refl in
            record {
              answer_is = answer_four h (ap length all) ∙ ap answer_fields all;
              short = omega (arith, one.size_is, two.size_is, three.size_is);
            }

-- A LINE'S ANSWER IN A BUFFER

pub answer_nothing : (s b : List ℕ) → length b < most_answer → AnswersLine s b b 0
answer_nothing s b h = record { puts = rw (lt-ltb (length b) most_answer h) (record { size_is = refl; bytes_are = refl }); short = omega arith }

pub answer_given : (s b : List ℕ) {c t : List ℕ} {size : ℕ} → most_answer ≤ length b → answer s ≡ t → Puts t b c size → size ≤ most_answer → AnswersLine s b c size
answer_given s b h e p l = record { puts = rw (le-ltb (length b) most_answer h, e) p; short = l }

pub answer_refused : (s b : List ℕ) {c : List ℕ} {size : ℕ} → most_answer ≤ length b → answer s ≡ malformed → Puts (number_text 15) b c size → AnswersLine s b c size
answer_refused s b h e p = answer_given s b h (e ∙ malformed_is) p (omega (arith, p.size_is, number_size 15))
