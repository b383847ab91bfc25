-- The parts of a record, one after the other.
use Prim.Native.Nat.{ℕ, zero, suc, ◌+◌, ◌*◌, ◌-◌, ◌≤◌}
use native.Mathlib.Omega.{arith}
use mathlib.Core.Path.{◌≡◌, refl, sym, ap, ◌∙◌}
use mathlib.Core.List.{List, [], ◌∷◌, ◌++◌, map, append_assoc, append-nil}
use lib.IntN.{ℤ, pos}
use lib.ListN.{length, take, replicate}
use lib.Seq.{take_all}
use Rattle.label.specs.Reading as spec
use Rattle.label.specs.Reading.{exponent}
use Rattle.label.specs.Limits.{most_terms}
use Rattle.label.specs.Units.{base_count}
use Rattle.descent.specs.Terms.{count}
use Rattle.content.specs.Views.{term_in, terms_in, scale_in}
use Rattle.content.proofs.Naming.{terms_length}
use Rattle.content.proofs.Naming.{terms_more as one_more}
use Rattle.content.specs.Sums.{prime_count}
use Rattle.reading.specs.declared.read.Answer.{Answer}
use Rattle.reading.specs.declared.read.Content.{Content}
use Rattle.reading.specs.Views.{reading_in}
use Rattle.reading.specs.Answers.{LettersNoted}
use Rattle.record.specs.Recordable.{AllNoted}
use Rattle.record.specs.Record.{field_size, fields_in_head, fields_in_term, head_size, term_place, dimensions_place, scale_place, record_size}
use Rattle.record.specs.Record.{complement, digits, eight, encoded, term_fields, terms_fields, empty_fields, sixtieths_of, scale_fields, head_of, numbered, head_fields, fields, record_of}

pub encoded_join : (xs ys : List ℤ) → encoded (xs ++ ys) ≡ encoded xs ++ encoded ys
unfolding encoded
encoded_join [] ys = refl
encoded_join (x ∷ xs) ys = rw (encoded_join xs ys) (sym (append_assoc (eight x) (encoded xs) (encoded ys)))

-- TERMS

terms_more : (ts : List spec.Term) (t : spec.Term) → terms_fields (ts ++ (t ∷ [])) ≡ terms_fields ts ++ term_fields t
unfolding terms_fields
terms_more [] t = append-nil (term_fields t)
terms_more (x ∷ ts) t = rw (terms_more ts t) (sym (append_assoc (term_fields x) (terms_fields ts) (term_fields t)))

fewer : {s : List ℕ} {c : Content} {n : ℕ} → AllNoted s c (n + 1) → AllNoted s c n
fewer w = record { noted = λ i h. w.noted i (omega arith) }

-- the first i terms are written
pub record TermsPut (b₀ : List ℕ) (c : Content) (b : List ℕ) (i : ℕ) : Type 0 where
  pub room : length b ≡ length b₀
  pub bytes : (s : List ℕ) → AllNoted s c i → take (term_place i) b ≡ take head_size b₀ ++ encoded (terms_fields (terms_in s c.terms c.symbols i))

pub terms₀ : (b : List ℕ) (c : Content) → TermsPut b c b 0
unfolding encoded terms_fields terms_in
terms₀ b c = record { room = refl; bytes = λ s w. sym (append-nil (take head_size b)) }

pub terms_step : {b₀ : List ℕ} {c : Content} (b d : List ℕ) (i : ℕ) (f : List ℤ) → TermsPut b₀ c b i → length d ≡ length b
    → length f ≡ fields_in_term → ((s : List ℕ) → LettersNoted s c.terms c.symbols i → f ≡ term_fields (term_in s c.terms c.symbols i))
    → take (term_place i + field_size * length f) d ≡ take (term_place i) b ++ encoded f
    → TermsPut b₀ c d (i + 1)
terms_step {b₀} {c} b d i f p l k q e = record {
  room = l ∙ p.room;
  bytes = λ s w.
      let z : term_place (i + 1) ≡ term_place i + field_size * length f = omega (arith, k) in
      let ts = terms_in s c.terms c.symbols i in
      let y = term_in s c.terms c.symbols i in
      rw (z, e, p.bytes s (fewer w), one_more s c.terms c.symbols i, terms_more ts y, encoded_join (terms_fields ts) (term_fields y), ← q s (w.noted i (omega arith)))
      (append_assoc (take head_size b₀) (encoded (terms_fields ts)) (encoded f));
}

pub terms_done : {b₀ : List ℕ} {c : Content} {b : List ℕ} {i n : ℕ} → TermsPut b₀ c b i → i ≡ n → (s : List ℕ) → AllNoted s c n
    → take (term_place n) b ≡ take head_size b₀ ++ encoded (terms_fields (terms_in s c.terms c.symbols n))
terms_done p e s w = rw (← e) (p.bytes s (rw e w))

-- PLACES WITHOUT A TERM

-- zeros are the bytes of zeros
encoded_zeros : (n : ℕ) → encoded (replicate n (pos 0)) ≡ replicate (field_size * n) 0
unfolding encoded eight complement digits
encoded_zeros zero = refl
encoded_zeros (suc n) =
    let e : field_size * suc n ≡ suc (suc (suc (suc (suc (suc (suc (suc (field_size * n)))))))) = omega arith in
    rw (e, encoded_zeros n)

-- up to the dimensions
pub cleared : (b c : List ℕ) (count : ℕ) → count ≤ most_terms
    → take dimensions_place c ≡ take (term_place count) b ++ replicate (dimensions_place - term_place count) 0
    → take dimensions_place c ≡ take (term_place count) b ++ encoded (empty_fields (most_terms - count))
cleared b c count h e =
    let z : dimensions_place - term_place count ≡ field_size * (fields_in_term * (most_terms - count)) = omega arith in
    e
    ∙ ap (λ (n : ℕ). take (term_place count) b ++ replicate n 0) z
    ∙ ap (λ (xs : List ℕ). take (term_place count) b ++ xs) (sym (encoded_zeros (fields_in_term * (most_terms - count))))

-- THE WHOLE RECORD

to_left : (a b c d e : List ℕ) → a ++ (b ++ (c ++ (d ++ e))) ≡ a ++ b ++ c ++ d ++ e
to_left a b c d e = sym (append_assoc a b (c ++ (d ++ e))) ∙ sym (append_assoc (a ++ b) c (d ++ e)) ∙ sym (append_assoc (a ++ b ++ c) d e)

module _ (head ts bases primes : List ℤ) (count : ℕ) (b₀ b₁ b₂ b₃ b₄ b₅ : List ℕ) where
  pub joined_is : length head ≡ fields_in_head → length bases ≡ base_count → length primes ≡ prime_count → length b₅ ≡ record_size
      → take (0 + field_size * length head) b₁ ≡ take 0 b₀ ++ encoded head
      → take (term_place count) b₂ ≡ take head_size b₁ ++ encoded ts
      → take dimensions_place b₃ ≡ take (term_place count) b₂ ++ encoded (empty_fields (most_terms - count))
      → take (dimensions_place + field_size * length bases) b₄ ≡ take dimensions_place b₃ ++ encoded bases
      → take (scale_place + field_size * length primes) b₅ ≡ take scale_place b₄ ++ encoded primes
      → b₅ ≡ encoded (head ++ (ts ++ (empty_fields (most_terms - count) ++ (bases ++ primes))))
  joined_is h d p l e₁ e₂ e₃ e₄ e₅ =
      let x₁ : 0 + field_size * length head ≡ head_size = omega (arith, h) in
      let x₄ : dimensions_place + field_size * length bases ≡ scale_place = omega (arith, d) in
      let x₅ : scale_place + field_size * length primes ≡ record_size = omega (arith, p) in
      let none = empty_fields (most_terms - count) in
      let y₁ : take head_size b₁ ≡ encoded head = rw x₁ at e₁ in
      let y₄ : take scale_place b₄ ≡ take dimensions_place b₃ ++ encoded bases = rw x₄ at e₄ in
      let y₅ : take record_size b₅ ≡ take scale_place b₄ ++ encoded primes = rw x₅ at e₅ in
      sym (take_all record_size b₅ (omega (arith, l)))
      ∙ rw (y₅, y₄, e₃, e₂, y₁)
      (sym
      (encoded_join head (ts ++ (none ++ (bases ++ primes)))
      ∙ ap (λ (xs : List ℕ). encoded head ++ xs)
      (encoded_join ts (none ++ (bases ++ primes))
      ∙ ap (λ (xs : List ℕ). encoded ts ++ xs)
      (encoded_join none (bases ++ primes) ∙ ap (λ (xs : List ℕ). encoded none ++ xs) (encoded_join bases primes)))
      ∙ to_left (encoded head) (encoded ts) (encoded none) (encoded bases) (encoded primes)))

-- THE RECORD

same_sixtieths : (zs : List ℤ) → map sixtieths_of (map exponent zs) ≡ zs
same_sixtieths [] = refl
same_sixtieths (z ∷ zs) = ap (λ (xs : List ℤ). z ∷ xs) (same_sixtieths zs)

same_scale : (cs : List ℤ) → length cs ≡ 4 → scale_fields (scale_in cs) ≡ cs
same_scale (a ∷ b ∷ c ∷ d ∷ []) h = refl
same_scale [] h = absurd (omega arith)
same_scale (a ∷ []) h = absurd (omega arith)
same_scale (a ∷ b ∷ []) h = absurd (omega arith)
same_scale (a ∷ b ∷ c ∷ []) h = absurd (omega arith)
same_scale (a ∷ b ∷ c ∷ d ∷ e ∷ es) h = absurd (omega arith)

-- the numbers of a reading, from its parts
pub fields_are : (s : List ℕ) (number : ℕ) (c : Content) (a : Answer) {h : List ℤ} → length c.sums.primes ≡ prime_count
    → h ≡ head_of number a.k a.verdicts.known a.verdicts.lawful a.verdicts.recommended (count c.terms)
    → encoded (h ++ (terms_fields (terms_in s c.terms c.symbols (count c.terms)) ++ (empty_fields (most_terms - count c.terms) ++ (c.sums.bases ++ c.sums.primes)))) ≡ record_of (numbered number (reading_in s c a))
unfolding reading_in head_fields fields record_of
fields_are s number c a e q = rw (q, terms_length s c.terms c.symbols (count c.terms), same_sixtieths c.sums.bases, same_scale c.sums.primes e)
