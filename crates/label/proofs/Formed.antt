-- Refusals 12 and 13 of rewriting, and that a label has a form in its own notation.
use Prim.Native.Nat.{ℕ, ◌*◌, ◌%◌, ◌≤◌, ◌<◌}
use native.Mathlib.Omega.{arith}
use native.Mathlib.Nat.{mul-mod_right, div-one}
use mathlib.Core.Path.{◌≡◌, refl, sym, ap, ◌∙◌}
use mathlib.Core.Bool.{Bool, true, false, ◌||◌, not}
use mathlib.Core.List.{List, [], ◌∷◌, ◌++◌, map}
use mathlib.Core.Option.{Option, none, some}
use mathlib.Core.Logic.{◌↔◌, ◌⊎◌, inl, inr}
use lib.Dec.{eqb, leb}
use lib.IntN.{pos, nat_abs}
use lib.ListN.{length}
use lib.Seq.{drop_at}
use borrow.Author.Tests.{eqb-true, eq-eqb, ne_eqb, leb-false, lt-leb, not-true}
use Rattle.label.specs.declared.Rules.{Rules}
use Rattle.label.specs.declared.Exponent.{Exponent}
use Rattle.label.specs.declared.Tens.{Tens}
use Rattle.label.specs.Bytes.{all}
use Rattle.label.specs.Choice.{pick}
use Rattle.label.specs.Notations.{member, fractionless, factorless, notation}
use Rattle.label.specs.Symbols.{Symbol, unknown, symbol}
use Rattle.label.specs.Lexical.{Written, unwritten, whole, Factor, Part}
use Rattle.label.specs.Limits.{exclusive_or, Ratio, ratio, sixtieths, exponent_in, exponent_of, k_of, denominator_among, denominator_of, lowest_terms, most_bytes, parts_of_one}
use Rattle.label.specs.Split.{Placed, Valued}
use Rattle.label.specs.Reading.{term, Reading, reading_of, reading}
use Rattle.label.specs.Letters.{prefix_letters}
use Rattle.label.specs.Writing.{power_text, exponent_text, reads_as, in_quotes, symbol_text, Writable, both_texts, unit_text, factor_text, more_text, label_text, written_by, written, own_letters, writable, ReadsAs, NameIn, TakesName, Form, ExponentForm, FactorForm, HasForm, Formless, Rewriting, refuse_rewriting, unless, sized, written_reading, rewriting, Refuses}
use Rattle.label.specs.Rows.{Style}
use Rattle.label.proofs.Basics.{none_some, false_true}
use Rattle.label.proofs.General.{SpellingBy, ExponentBy, LabelBy}
use Rattle.label.proofs.Ruled.{RuledBy, derives_by, notation_ruled, Suited, ruled_suited}
use Rattle.label.proofs.Refusals.{bounds, Values, valued_values}
use Rattle.label.proofs.Places.{Located, AllLocated, label_located, located_there}
use Rattle.label.proofs.Readings.{Accepted, Answered, answer_of, number_refused, accepted_reading}
use Rattle.label.proofs.Exponents.{exponent_kept}
use Rattle.label.proofs.Figures.{size_signed}
use Rattle.label.proofs.Spelled.{read_as}
use Rattle.label.proofs.Rewritten.{both_of, no_size, AllReady}
use Rattle.label.proofs.Owned.{unit_owned, letters_prefixed, QuotedAs, quoted_as, Sourced, OwnedBy, unquoted_owned, letters_owned}
use Rattle.label.proofs.Parts.{PartBy, AllParts, label_parts}
use Rattle.label.proofs.Sources.{writable_at, unled_k, valued_k, accepted_kept}
use Rattle.label.proofs.Forms.{not_read, text_form, form_text}

-- EXPONENTS AND FACTORS

-- a text that is there in one of two cases
text_picked : (a b : Bool) (u v : List ℕ) {t : List ℕ} → pick a (some u) (pick b (some v) none) ≡ some t → (a ≡ true) ⊎ (b ≡ true)
text_picked true b u v h = inl refl
text_picked false true u v h = inr refl
text_picked false false u v h = absurd (none_some h)

picked_text : (a b : Bool) (u v : List ℕ) → (a ≡ true) ⊎ (b ≡ true) → (t : List ℕ) × (pick a (some u) (pick b (some v) none) ≡ some t)
picked_text true b u v h = (u, refl)
picked_text false true u v h = (v, refl)
picked_text false false u v (inl e) = absurd (false_true e)
picked_text false false u v (inr e) = absurd (false_true e)

module _ {m : ℕ} {y : Style} (o : Suited m y) where
  text_exponent : (e : Exponent) (t : List ℕ) → exponent_text y e ≡ some t → ExponentForm m e
  unfolding exponent_text power_text
  text_exponent e t h = go (text_picked (eqb (lowest_terms e).denominator 1) y.fractions _ _ h)
    where
      go : (eqb (lowest_terms e).denominator 1 ≡ true) ⊎ (y.fractions ≡ true) → ExponentForm m e
      go (inl p) = ExponentForm.whole (eqb-true (lowest_terms e).denominator 1 p)
      go (inr q) = ExponentForm.fraction (not-true (member m fractionless) (sym o.fractions ∙ q))

  exponent_written : {e : Exponent} → ExponentForm m e → (t : List ℕ) × (exponent_text y e ≡ some t)
  unfolding exponent_text power_text
  exponent_written {e} (ExponentForm.whole q) = picked_text (eqb (lowest_terms e).denominator 1) y.fractions _ _ (inl (eq-eqb (lowest_terms e).denominator 1 q))
  exponent_written {e} (ExponentForm.fraction q) = picked_text (eqb (lowest_terms e).denominator 1) y.fractions _ _ (inr (o.fractions ∙ ap not q))

  text_factor : (k : Tens) (t : List ℕ) → factor_text y k ≡ some t → FactorForm m k
  unfolding factor_text
  text_factor k t h = go (text_picked (eqb (nat_abs k.0) 0) y.factors _ _ h)
    where
      go : (eqb (nat_abs k.0) 0 ≡ true) ⊎ (y.factors ≡ true) → FactorForm m k
      go (inl p) = FactorForm.omitted (no_size k.0 (eqb-true (nat_abs k.0) 0 p))
      go (inr q) = FactorForm.factored (not-true (member m factorless) (sym o.factors ∙ q))

  factor_written : {k : Tens} → FactorForm m k → (t : List ℕ) × (factor_text y k ≡ some t)
  unfolding factor_text
  factor_written {k} (FactorForm.omitted q) = picked_text (eqb (nat_abs k.0) 0) y.factors _ _ (inl (eq-eqb (nat_abs k.0) 0 (ap nat_abs q)))
  factor_written {k} (FactorForm.factored q) = picked_text (eqb (nat_abs k.0) 0) y.factors _ _ (inr (o.factors ∙ ap not q))

  -- UNITS AND LABELS

  unit_form : (w : Writable) → Sourced w.own w.symbol → (t : List ℕ) → unit_text y m w ≡ some t → HasForm m w
  unfolding unit_text
  unit_form w s t h =
      let d = both_of (symbol_text y m w.own w.symbol) (exponent_text y w.exponent) t h in
      record { spelling = d.one; unit = text_form o d.one s d.first; exponent = text_exponent w.exponent d.two d.second }

  unit_written : (w : Writable) → Sourced w.own w.symbol → HasForm m w → (t : List ℕ) × (unit_text y m w ≡ some t)
  unfolding unit_text both_texts
  unit_written w s f =
      let e = exponent_written f.exponent in
      (f.spelling ++ e.0, rw (form_text o s f.unit, e.1))

-- each unit has a form
pub data AllFormed (m : ℕ) : List Writable → Type 0 where
  done : AllFormed m []
  also : {w : Writable} {ws : List Writable} → HasForm m w → AllFormed m ws → AllFormed m (w ∷ ws)

not_formed : {m : ℕ} {ws : List Writable} → Formless m ws → AllFormed m ws → ⊥
not_formed (Formless.here f) (AllFormed.also d ds) = f d
not_formed (Formless.later f) (AllFormed.also d ds) = not_formed f ds

-- each unit has a form and x is a text, or one has none and x is nothing
data UnitsDecided (m : ℕ) (ws : List Writable) (x : Option (List ℕ)) : Type 0 where
  formed : AllFormed m ws → (t : List ℕ) → x ≡ some t → UnitsDecided m ws x
  unformed : Formless m ws → x ≡ none → UnitsDecided m ws x

-- the same of a label with its factor
data Decided (m : ℕ) (k : Tens) (ws : List Writable) (x : Option (List ℕ)) : Type 0 where
  formed : FactorForm m k → AllFormed m ws → (t : List ℕ) → x ≡ some t → Decided m k ws x
  unformed : Formless m ws → x ≡ none → Decided m k ws x
  unfactored : (FactorForm m k → ⊥) → x ≡ none → Decided m k ws x

module _ {m : ℕ} {y : Style} (o : Suited m y) where
  more_decided : {ws : List Writable} → AllReady ws → UnitsDecided m ws (more_text y m ws)
  unfolding more_text both_texts
  more_decided AllReady.done = UnitsDecided.formed AllFormed.done [] refl
  more_decided (AllReady.also {w = w} {ws = ws} s ss) = go (unit_text y m w) refl (more_decided ss)
    where
      go : (u : Option (List ℕ)) → unit_text y m w ≡ u → UnitsDecided m ws (more_text y m ws) → UnitsDecided m (w ∷ ws) (both_texts (some y.joint) (both_texts u (more_text y m ws)))
      go none e d = UnitsDecided.unformed (Formless.here (λ f. none_some (sym e ∙ (unit_written o w s.sourced f).1))) refl
      go (some u) e (UnitsDecided.formed fs t h) = UnitsDecided.formed (AllFormed.also (unit_form o w s.sourced u e) fs) (y.joint ++ (u ++ t)) (rw h)
      go (some u) e (UnitsDecided.unformed f h) = UnitsDecided.unformed (Formless.later f) (rw h)

  -- with the factor in place of a joint
  first_decided : (k : Tens) {ws : List Writable} (a : List ℕ) (f x : Option (List ℕ)) → factor_text y k ≡ f → UnitsDecided m ws (both_texts (some a) x) → Decided m k ws (both_texts f x)
  unfolding both_texts
  first_decided k a none x e d = Decided.unfactored (λ f. none_some (sym e ∙ (factor_written o f).1)) refl
  first_decided k a (some b) none e (UnitsDecided.formed fs t h) = absurd (none_some h)
  first_decided k a (some b) none e (UnitsDecided.unformed f h) = Decided.unformed f refl
  first_decided k a (some b) (some x) e (UnitsDecided.formed fs t h) = Decided.formed (text_factor o k b e) fs (b ++ x) refl
  first_decided k a (some b) (some x) e (UnitsDecided.unformed f h) = absurd (none_some (sym h))

  label_decided : (k : Tens) {ws : List Writable} → AllReady ws → (ws ≡ [] → k ≡ record { 0 = pos 0 }) → Decided m k ws (label_text y m k ws)
  unfolding label_text more_text
  label_decided k AllReady.done z = Decided.formed (FactorForm.omitted (ap (λ (x : Tens). x.0) (z refl))) AllFormed.done [] refl
  label_decided k (AllReady.also {w = w} {ws = ws} s ss) z =
      first_decided k y.joint (factor_text y k) (both_texts (unit_text y m w) (more_text y m ws)) refl (more_decided (AllReady.also {w = w} {ws = ws} s ss))

written_decided : (m : ℕ) → notation m ≡ true → (k : Tens) {ws : List Writable} → AllReady ws → (ws ≡ [] → k ≡ record { 0 = pos 0 }) → Decided m k ws (written m k ws)
unfolding written written_by
written_decided m h k s z = let w = notation_ruled m h in rw w.1.listed.styled (label_decided (ruled_suited w.1) k s z)

-- A LABEL'S OWN NOTATION HAS A FORM FOR IT

-- the same spelling, read again
own_reads : {n : ℕ} {r : Rules} {x : Symbol} (s t : List ℕ) → RuledBy n r → SpellingBy r s → symbol n s ≡ x → s ≡ t → ReadsAs n t x
own_reads s t o d e q = rw (← q) (record { spelling = o.spells d; is = e })

module _ {n : ℕ} {y : Style} (o : Suited n y) where
  owned_formed : {s : List ℕ} {x : Symbol} → SpellingBy o.rules s → symbol n s ≡ x → OwnedBy n s x → (t : List ℕ) × Form n (own_letters x s) x t
  unfolding own_letters
  owned_formed {s} d e (OwnedBy.by_name {p = p} {u = u} r q g f h) = (
    prefix_letters p ++ r,
    rw (q, drop_at (prefix_letters p) r (length (prefix_letters p)) refl)
        (Form.by_name {p = p} {u = u} {l = r} (TakesName.keeps (NameIn.named (unit_owned n r u f))) (own_reads s (prefix_letters p ++ r) o.ruled d e q)),
  )
  owned_formed {s} d e (OwnedBy.by_letters {p = p} {l = l} q g h) = (prefix_letters p ++ l, Form.plainly {p = p} {l = l} (own_reads s (prefix_letters p ++ l) o.ruled d e q))

  quoted_formed : {s : List ℕ} → SpellingBy o.rules s → QuotedAs n s → (t : List ℕ) × Form n (own_letters (symbol n s) s) (symbol n s) t
  unfolding own_letters
  quoted_formed {s} d w = rw w.reads (go (reads_as n (prefix_letters w.prefix ++ w.letters) (unknown w.prefix w.letters)) refl)
    where
      go : (b : Bool) → reads_as n (prefix_letters w.prefix ++ w.letters) (unknown w.prefix w.letters) ≡ b → (t : List ℕ) × Form n w.letters (unknown w.prefix w.letters) t
      go true e = (
        prefix_letters w.prefix ++ w.letters,
        Form.plainly {l = w.letters} (record {
          spelling = o.ruled.spells (SpellingBy.letters (letters_prefixed w.prefix w.spelled));
          is = read_as n (prefix_letters w.prefix ++ w.letters) (unknown w.prefix w.letters) e;
        }),
      )
      go false e = (
        prefix_letters w.prefix ++ in_quotes w.letters,
        Form.quoted {l = w.letters} (not_read e) (own_reads s (prefix_letters w.prefix ++ in_quotes w.letters) o.ruled d w.reads w.is),
      )

  spelling_formed : {s : List ℕ} → SpellingBy o.rules s → (t : List ℕ) × Form n (own_letters (symbol n s) s) (symbol n s) t
  unfolding all
  spelling_formed {s} (SpellingBy.letters f) = owned_formed (SpellingBy.letters f) refl (letters_owned n f)
  spelling_formed (SpellingBy.percent f) = owned_formed (SpellingBy.percent f) refl (unquoted_owned n (37 ∷ []) tt (omega arith))
  spelling_formed (SpellingBy.quoted f q) = quoted_formed (SpellingBy.quoted f q) (quoted_as n q)

-- a power that is whole has the denominator 1
among_one : (a : ℕ) (qs : List ℕ) → a * 1 % parts_of_one ≡ 0 → denominator_among a (1 ∷ qs) ≡ 1
unfolding denominator_among
among_one a qs e = rw (eq-eqb (a * 1 % parts_of_one) 0 e, denominator_among)

whole_lowest : (b : Bool) (q : Ratio) (e : Exponent) → q.denominator ≡ 1 → exponent_in b q ≡ some e → (lowest_terms e).denominator ≡ 1
unfolding lowest_terms denominator_of
whole_lowest b q e d h =
    let z : nat_abs e.0 ≡ parts_of_one * q.numerator = rw (← (exponent_kept b q e h).is, size_signed (exclusive_or b q.negative) (sixtieths q), d) (div-one (parts_of_one * q.numerator)) in
    let v : nat_abs e.0 * 1 ≡ parts_of_one * q.numerator = omega arith in
    among_one (nat_abs e.0) _ (rw v (mul-mod_right parts_of_one q.numerator))

-- the rules of a notation without fractions
no_powers : (a b c : Bool) → (a || (b || c)) ≡ false → (a ≡ false) × (b ≡ false) × (c ≡ false)
no_powers true b c h = absurd (false_true (sym h))
no_powers false true c h = absurd (false_true (sym h))
no_powers false false c h = (refl, refl, h)

whole_exponent : {n : ℕ} {r : Rules} {t : List ℕ} {w : Written} (b : Bool) (e : Exponent) → RuledBy n r → member n fractionless ≡ true → ExponentBy r t w → exponent_of b w ≡ some e → (lowest_terms e).denominator ≡ 1
unfolding exponent_of ratio
whole_exponent {r = r} b e o k x h = go x h (no_powers r.brackets r.stars r.caret (o.listed.raised ∙ ap not k))
  where
    go : {t : List ℕ} {w : Written} → ExponentBy r t w → exponent_of b w ≡ some e → (r.brackets ≡ false) × (r.stars ≡ false) × (r.caret ≡ false) → (lowest_terms e).denominator ≡ 1
    go ExponentBy.none h p = whole_lowest b (ratio unwritten) e refl h
    go (ExponentBy.integer {n = n} f i) h p = whole_lowest b (ratio (whole n)) e refl h
    go (ExponentBy.bracketed f i) h p = absurd (rw p.0 at f)
    go (ExponentBy.stars f i) h p = absurd (rw p.1 at f)
    go (ExponentBy.caret f i) h p = absurd (rw p.2 at f)

exponent_formed : {n : ℕ} {r : Rules} {t : List ℕ} {w : Written} (b : Bool) (e : Exponent) → RuledBy n r → ExponentBy r t w → exponent_of b w ≡ some e → ExponentForm n e
exponent_formed {n} b e o x h = go (member n fractionless) refl
  where
    go : (c : Bool) → member n fractionless ≡ c → ExponentForm n e
    go true k = ExponentForm.whole (whole_exponent b e o k x h)
    go false k = ExponentForm.fraction k

-- THE TERMS OF AN ACCEPTED LABEL

module _ {n : ℕ} {y : Style} (o : Suited n y) (s : List ℕ) where
  part_formed : {p : Part} (e : Exponent) → PartBy o.rules p → Located s p → exponent_of p.turned p.power ≡ some e → HasForm n (writable_at n s p e)
  part_formed {p} e d w h =
      let f = spelling_formed o d.spelled in
      record { spelling = f.0; unit = rw (located_there w) f.1; exponent = exponent_formed p.turned e o.ruled d.raised h }

  units_formed : {ps : List Part} {us : List Placed} → AllParts o.rules ps → AllLocated s ps → Values ps us → AllFormed n (map (writable s) (map (term n (length s)) us))
  unfolding writable term
  units_formed AllParts.done AllLocated.none Values.no_values = AllFormed.done
  units_formed (AllParts.also d ds) (AllLocated.some w ws) (Values.value {e = e} h v) = AllFormed.also (part_formed e d w h) (units_formed ds ws v)

-- a notation without a factor has labels with k 0 alone
factor_formed : {n : ℕ} {r : Rules} {s : List ℕ} {f : Factor} {ps : List Part} → RuledBy n r → LabelBy r s f ps → (k : Tens) → k_of f ≡ some k → FactorForm n k
factor_formed {n} {r} o d k h = go (member n factorless) refl
  where
    go : (b : Bool) → member n factorless ≡ b → FactorForm n k
    go true e = FactorForm.omitted (ap (λ (x : Tens). x.0) (unled_k d k h (sym o.suits.agrees.factors ∙ o.listed.factors ∙ ap not e)))
    go false e = FactorForm.factored e

-- what an accepted label is to be written from
record Accounted (n : ℕ) (k : Tens) (ws : List Writable) : Type 0 where
  pub ready : AllReady ws
  pub headed : ws ≡ [] → k ≡ record { 0 = pos 0 }
  pub formed : AllFormed n ws
  pub factored : FactorForm n k

accepted_accounted : {n : ℕ} {s : List ℕ} {v : Valued} → Accepted n s v → Accounted n v.k (map (writable s) (map (term n (length s)) v.units))
accepted_accounted {n} {s} {v} a =
    let d = derives_by a.derived in
    let u = valued_values a.factor a.parts v a.within in
    let q = accepted_kept a in
    record {
      ready = q.ready;
      headed = q.headed;
      formed = units_formed (ruled_suited d.1) s (label_parts d.2) (label_located d.2) u;
      factored = factor_formed d.1 d.2 v.k (valued_k a.factor a.parts v a.within);
    }

reading_accounted : {n : ℕ} {s : List ℕ} {v : Valued} → Accepted n s v → (a : Reading) → a ≡ reading_of n v.k (map (term n (length s)) v.units) → Accounted n a.k (map (writable s) a.terms)
unfolding reading_of
reading_accounted w a e = rw e (accepted_accounted w)

accounted : (n : ℕ) (s : List ℕ) → (reading n s).number ≡ 0 → Accounted n (reading n s).k (map (writable s) (reading n s).terms)
accounted n s z = go (answer_of n s)
  where
    go : Answered n s → Accounted n (reading n s).k (map (writable s) (reading n s).terms)
    go (Answered.refusing i e d) = absurd (omega (arith, bounds d.holds, z, (number_refused n s i (bounds d.holds).0).1 d))
    go (Answered.accepting v w) = reading_accounted w (reading n s) (accepted_reading w)

-- REWRITING'S REFUSALS

module _ (n : ℕ) (s : List ℕ) (m : ℕ) where
  refused_source : (i : ℕ) → 1 ≤ i → (reading n s).number ≡ i → rewriting n s m ≡ refuse_rewriting i
  unfolding rewriting unless
  refused_source i h e = let f : eqb i 0 ≡ false = ne_eqb i 0 (λ q. omega arith) in rw (e, f)

  refused_target : (reading n s).number ≡ 0 → notation m ≡ false → rewriting n s m ≡ refuse_rewriting 1
  unfolding rewriting unless
  refused_target z e = rw (eq-eqb (reading n s).number 0 z, e)

  refused_form : (reading n s).number ≡ 0 → notation m ≡ true → written_reading m s (reading n s) ≡ none → rewriting n s m ≡ refuse_rewriting 12
  unfolding rewriting unless sized
  refused_form z e h = rw (eq-eqb (reading n s).number 0 z, e, h)

  refused_long : (t : List ℕ) → (reading n s).number ≡ 0 → notation m ≡ true → written_reading m s (reading n s) ≡ some t → most_bytes < length t → rewriting n s m ≡ refuse_rewriting 13
  unfolding rewriting unless sized
  refused_long t z e h l = rw (eq-eqb (reading n s).number 0 z, e, h, lt-leb (length t) most_bytes l)

  -- 12 is given where no text is written: "a term or exponent has no form in the target", or the factor has none
  reading_decided : (reading n s).number ≡ 0 → notation m ≡ true → Decided m (reading n s).k (map (writable s) (reading n s).terms) (written_reading m s (reading n s))
  reading_decided z e = let w = accounted n s z in written_decided m e (reading n s).k w.ready w.headed

  -- nothing is written where not all has a form
  formless_none : (reading n s).number ≡ 0 → notation m ≡ true → (FactorForm m (reading n s).k → AllFormed m (map (writable s) (reading n s).terms) → ⊥) → written_reading m s (reading n s) ≡ none
  formless_none z e f = go (reading_decided z e)
    where
      go : Decided m (reading n s).k (map (writable s) (reading n s).terms) (written_reading m s (reading n s)) → written_reading m s (reading n s) ≡ none
      go (Decided.formed k fs t h) = absurd (f k fs)
      go (Decided.unformed g h) = h
      go (Decided.unfactored g h) = h

  none_refuses : (reading n s).number ≡ 0 → notation m ≡ true → written_reading m s (reading n s) ≡ none → Refuses n s m 12
  none_refuses z e h = go (reading_decided z e)
    where
      go : Decided m (reading n s).k (map (writable s) (reading n s).terms) (written_reading m s (reading n s)) → Refuses n s m 12
      go (Decided.formed k fs t q) = absurd (none_some (sym h ∙ q))
      go (Decided.unformed g q) = Refuses.formless z e g
      go (Decided.unfactored g q) = Refuses.factor_formless z e g

  -- a refusal that is due is answered, with nothing written
  pub refuses_answered : {i : ℕ} → Refuses n s m i → rewriting n s m ≡ refuse_rewriting i
  refuses_answered (Refuses.source {i = i} d) = refused_source i (bounds d.holds).0 ((number_refused n s i (bounds d.holds).0).1 d)
  refuses_answered (Refuses.target z c) = refused_target z c
  refuses_answered (Refuses.formless z e f) = refused_form z e (formless_none z e (λ k fs. not_formed f fs))
  refuses_answered (Refuses.factor_formless z e f) = refused_form z e (formless_none z e (λ k fs. f k))
  refuses_answered (Refuses.long {t = t} z e h l) = refused_long t z e h l

  -- a refusal that is answered is due
  answered_refuses : (i : ℕ) → 1 ≤ i → (rewriting n s m).number ≡ i → Refuses n s m i
  unfolding rewriting unless sized
  answered_refuses i l h = go (eqb (reading n s).number 0) (notation m) (written_reading m s (reading n s)) refl refl refl h
    where
      last : (t : List ℕ) (b : Bool) → leb (length t) most_bytes ≡ b → (reading n s).number ≡ 0 → notation m ≡ true → written_reading m s (reading n s) ≡ some t
          → (unless b 13 (record { number = 0; text = t })).number ≡ i → Refuses n s m i
      last t true f p q o h = absurd (omega arith)
      last t false f p q o h = rw (← h) (Refuses.long p q o (leb-false (length t) most_bytes f))

      go : (a b : Bool) (o : Option (List ℕ)) → eqb (reading n s).number 0 ≡ a → notation m ≡ b → written_reading m s (reading n s) ≡ o
          → (unless a (reading n s).number (unless b 1 (sized o))).number ≡ i → Refuses n s m i
      go false b o p q e h = Refuses.source ((number_refused n s i l).0 h)
      go true false o p q e h = rw (← h) (Refuses.target (eqb-true (reading n s).number 0 p) q)
      go true true none p q e h = rw (← h) (none_refuses (eqb-true (reading n s).number 0 p) q e)
      go true true (some t) p q e h = last t (leb (length t) most_bytes) refl (eqb-true (reading n s).number 0 p) q e h

  -- Rewriting's number is that of the refusal that is due.
  pub refusals_are_due : (i : ℕ) → 1 ≤ i → ((rewriting n s m).number ≡ i) ↔ Refuses n s m i
  refusals_are_due i l = ((λ h. answered_refuses i l h), (λ d. ap (λ (x : Rewriting). x.number) (refuses_answered d)))

-- 12 is never given where a label is rewritten into its own notation.
own_refuses : {i n : ℕ} {s : List ℕ} → Refuses n s n i → i ≡ 12 → ⊥
own_refuses (Refuses.source d) e = omega (arith, bounds d.holds)
own_refuses (Refuses.target z c) e = omega arith
own_refuses {n = n} {s = s} (Refuses.formless z q f) e = not_formed f (accounted n s z).formed
own_refuses {n = n} {s = s} (Refuses.factor_formless z q f) e = f (accounted n s z).factored
own_refuses (Refuses.long z q h l) e = omega arith

pub never_twelve : (n : ℕ) (s : List ℕ) → (rewriting n s n).number ≡ 12 → ⊥
never_twelve n s h = own_refuses (answered_refuses n s n 12 (omega arith) h) refl
