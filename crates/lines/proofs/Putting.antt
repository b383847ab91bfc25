-- Texts put over the start of a buffer, one after the other.
use Prim.Native.Nat.{ℕ, ◌+◌, ◌-◌, ◌≤◌, ◌<◌, ◌/◌, ◌%◌}
use native.Mathlib.Omega.{arith}
use native.Mathlib.Decide.{dec_lt}
use mathlib.Core.Path.{◌≡◌, refl, sym, ap, ◌∙◌}
use mathlib.Core.Bool.{Bool, true, false}
use mathlib.Core.List.{List, [], ◌∷◌, ◌++◌, append_assoc, append-nil}
use lib.Dec.{ltb}
use lib.ListN.{length, take, drop, length-append, length-drop, take-append-drop, drop_of_length-le}
use lib.Seq.{take_all, length-take-le, take-append_seam, drop-append_seam, take-append-le, take-take, drop_at, drop-drop}
use borrow.Rule.Slice.PartMut.{mid_of, put_mid}
use borrow.Author.Tests.{lt-ltb, le-ltb}
use Rattle.label.specs.Bytes.{tab, digit_zero}
use Rattle.label.specs.Choice.{pick}
use Rattle.label.specs.Lines.{decimal, malformed, answer_with}
use Rattle.label.specs.Writing.{Rewriting}
use Rattle.label.proofs.Bounded.{BoundedRewriting}
use Rattle.lines.specs.Writing.{Puts, number_text, most_answer, most_id}

abbrev pub over : List ℕ → List ℕ → List ℕ
over t b = t ++ drop (length t) b

pub over_append : (x y b : List ℕ) → over (x ++ y) b ≡ x ++ over y (drop (length x) b)
over_append x y b = rw (length-append x y, drop-drop, append_assoc)

-- what is put is in the buffer
pub puts_within : (t b c : List ℕ) {size : ℕ} → Puts t b c size → size ≤ length c
puts_within t b c p = omega (arith, p.size_is, ap length p.bytes_are, length-append t (drop (length t) b))

-- NUMBERS

one_digit_text : (n : ℕ) → n < 10 → number_text n ≡ tab ∷ (digit_zero + n) ∷ tab ∷ []
unfolding number_text decimal
one_digit_text n h = rw (lt-ltb n 10 h)

two_digit_text : (n : ℕ) → 10 ≤ n → number_text n ≡ tab ∷ (digit_zero + n / 10) ∷ (digit_zero + n % 10) ∷ tab ∷ []
unfolding number_text decimal
two_digit_text n h = rw (le-ltb n 10 h)

pub one_digit : (n : ℕ) (b : List ℕ) {c : List ℕ} → n < 10 → c ≡ over (tab ∷ (digit_zero + n % 10) ∷ tab ∷ []) b → Puts (number_text n) b c 3
one_digit n b h e =
    let m : n % 10 ≡ n = omega arith in
    rw (one_digit_text n h) (record { size_is = refl; bytes_are = rw m at e })

pub two_digits : (n : ℕ) (b : List ℕ) {c : List ℕ} → 10 ≤ n → c ≡ over (tab ∷ (digit_zero + n / 10) ∷ (digit_zero + n % 10) ∷ tab ∷ []) b → Puts (number_text n) b c 4
two_digits n b h e = rw (two_digit_text n h) (record { size_is = refl; bytes_are = e })

pub number_one_digit : (n : ℕ) → n < 10 → length (number_text n) ≡ 3
number_one_digit n h = ap length (one_digit_text n h)

pub number_two_digits : (n : ℕ) → 10 ≤ n → length (number_text n) ≡ 4
number_two_digits n h = ap length (two_digit_text n h)

-- a line's answer is the id, the number between tabs and the result
pub answer_is : (id : List ℕ) (r : Rewriting) → answer_with id r ≡ id ++ (number_text r.number ++ r.text)
unfolding answer_with number_text
answer_is id r = ap (λ (x : List ℕ). id ++ tab ∷ x) (sym (append_assoc (decimal r.number) (tab ∷ []) r.text))

pub malformed_is : malformed ≡ number_text 15
unfolding malformed answer_with number_text
malformed_is = refl

pub number_size : (n : ℕ) → length (number_text n) ≤ 4
unfolding number_text decimal
number_size n = go (ltb n 10)
  where
    go : (t : Bool) → length (tab ∷ pick t ((digit_zero + n) ∷ []) ((digit_zero + n / 10) ∷ (digit_zero + n % 10) ∷ []) ++ tab ∷ []) ≤ 4
    go true = omega arith
    go false = omega arith

-- A BUFFER FROM A PLACE ON

tail_lent : (a : ℕ) (b : List ℕ) → mid_of a (length b - a) b ≡ drop a b
tail_lent a b = take_all (length b - a) (drop a b) (omega (arith, length-drop a b))

-- a text is put over the bytes from place a on
pub tail_put : (a : ℕ) (b p t : List ℕ) (size : ℕ) → Puts t (mid_of a (length b - a) b) p size → put_mid a (length b - a) b p ≡ take a b ++ over t (drop a b)
tail_put a b p t size puts =
    let e : p ≡ over t (drop a b) = rw tail_lent at puts.bytes_are in
    rw (drop_of_length-le (drop a b) {i = length b - a} (omega (arith, length-drop a b)), append-nil p, e)

-- AN ID, THEN A RESULT, THEN THE NUMBER BETWEEN THEM

module _ (id num text b b₁ b₂ b₃ : List ℕ) (copied : b₁ ≡ over id b) (numbered : b₃ ≡ take (length id) b₂ ++ over num (drop (length id) b₂)) where
  id_dropped : drop (length id) b₁ ≡ drop (length id) b
  id_dropped = rw (copied, drop-append_seam)

  id_taken : take (length id) b₁ ≡ id
  id_taken = rw (copied, take-append_seam)

  -- the number takes three bytes
  pub three_between : length num ≡ 3 → length id + 3 ≤ length b₁ → b₂ ≡ take (length id + 3) b₁ ++ over text (drop (length id + 3) b₁)
      → b₃ ≡ over (id ++ (num ++ text)) b
  three_between n room written =
      let front : take (length id) b₂ ≡ id =
      rw written (take-append-le (length id) (take (length id + 3) b₁) (over text (drop (length id + 3) b₁)) (omega (arith, length-take-le (length id + 3) b₁ room))
      ∙ take-take (length id) (length id + 3) b₁ (omega arith) ∙ id_taken) in
      let back : drop 3 (drop (length id) b₂) ≡ over text (drop 3 (drop (length id) b)) =
      drop-drop 3 (length id) b₂
      ∙ ap (λ (x : List ℕ). drop (length id + 3) x) written
      ∙ drop_at (take (length id + 3) b₁) (over text (drop (length id + 3) b₁)) (length id + 3) (length-take-le (length id + 3) b₁ room)
      ∙ ap (over text) (sym (drop-drop 3 (length id) b₁) ∙ ap (drop 3) id_dropped) in
      numbered ∙ rw (front, n, back, over_append id (num ++ text) b, over_append num text (drop (length id) b), n)

  -- there is no result
  pub nothing_after : text ≡ [] → b₂ ≡ take (length id + 3) b₁ ++ over text (drop (length id + 3) b₁) → b₃ ≡ over (id ++ (num ++ text)) b
  nothing_after empty written =
      let same : b₂ ≡ b₁ = rw empty at written ∙ take-append-drop (length id + 3) b₁ in
      numbered ∙ rw (same, empty, id_taken, id_dropped, append-nil num, over_append id num b)

-- THE ANSWER

module _ (id b b₁ p₂ p₃ : List ℕ) (r : Rewriting) (bounded : BoundedRewriting r) (copied : b₁ ≡ over id b) (room : length id + 3 ≤ length b₁) where
  abbrev b₂ : List ℕ
  b₂ = put_mid (length id + 3) (length b₁ - (length id + 3)) b₁ p₂

  abbrev b₃ : List ℕ
  b₃ = put_mid (length id) (length b₂ - length id) b₂ p₃

  bytes_put : (size result_size : ℕ) → Puts r.text (mid_of (length id + 3) (length b₁ - (length id + 3)) b₁) p₂ result_size
      → Puts (number_text r.number) (mid_of (length id) (length b₂ - length id) b₂) p₃ size → b₃ ≡ over (id ++ (number_text r.number ++ r.text)) b
  bytes_put size result_size result number = go (dec_lt r.number 10)
    where
      second : b₂ ≡ take (length id + 3) b₁ ++ over r.text (drop (length id + 3) b₁)
      second = tail_put (length id + 3) b₁ p₂ r.text result_size result

      third : b₃ ≡ take (length id) b₂ ++ over (number_text r.number) (drop (length id) b₂)
      third = tail_put (length id) b₂ p₃ (number_text r.number) size number

      go : Dec (r.number < 10) → b₃ ≡ over (id ++ (number_text r.number ++ r.text)) b
      go (yes h) = three_between id (number_text r.number) r.text b b₁ b₂ b₃ copied third (number_one_digit r.number h) room second
      go (no h) = nothing_after id (number_text r.number) r.text b b₁ b₂ b₃ copied third (bounded.empty (omega arith)) second

  pub answer_put : (at size result_size : ℕ) → at ≡ length id
      → Puts r.text (mid_of (at + 3) (length b₁ - (at + 3)) b₁) p₂ result_size
      → Puts (number_text r.number) (mid_of at (length (put_mid (at + 3) (length b₁ - (at + 3)) b₁ p₂) - at) (put_mid (at + 3) (length b₁ - (at + 3)) b₁ p₂)) p₃ size
      → Puts (answer_with id r) b (put_mid at (length (put_mid (at + 3) (length b₁ - (at + 3)) b₁ p₂) - at) (put_mid (at + 3) (length b₁ - (at + 3)) b₁ p₂) p₃) (at + size + result_size)
  answer_put at size result_size e result number =
      rw (answer_is id r)
      (record {
        size_is =
            let l = length-append id (number_text r.number ++ r.text) in
            let l₂ = length-append (number_text r.number) r.text in
            omega (arith, l, l₂, e, result.size_is, number.size_is);
        bytes_are = rw e (bytes_put size result_size (rw e at result) (rw e at number));
      })

pub answer_size : (r : Rewriting) → BoundedRewriting r → (at size result_size : ℕ) → at ≤ most_id → size ≡ length (number_text r.number) → result_size ≡ length r.text
    → at + size + result_size ≤ most_answer
answer_size r bounded at size result_size h p q = go (dec_lt r.number 10)
  where
    go : Dec (r.number < 10) → at + size + result_size ≤ most_answer
    go (yes l) = omega (arith, number_one_digit r.number l, bounded.short)
    go (no l) = omega (arith, number_size r.number, ap length (bounded.empty (omega arith)))
