-- Bytes that are written over a buffer in parts.
use Prim.Native.Nat.{ℕ, ◌+◌, ◌-◌, ◌≤◌, min}
use native.Mathlib.Omega.{arith}
use native.Mathlib.Decide.{dec_le}
use mathlib.Core.Path.{◌≡◌, refl, sym, ap, ◌∙◌}
use mathlib.Core.List.{List, [], ◌++◌, append_assoc, append-nil}
use lib.ListN.{length, take, drop, length-append, length-take, length-drop, drop_of_length-le}
use lib.Seq.{take_all, take-append_seam, drop-append_seam, take-append-add, take-append-le, take-nil, drop-drop, drop-nil}
use borrow.Rule.Slice.PartMut.{mid_of, put_mid}
use Rattle.record.specs.Record.{written_over}

-- the buffer z with u written over it from place c on, as far as it fits
abbrev pub written_from : ℕ → List ℕ → List ℕ → List ℕ
written_from c u z = take c z ++ written_over u (drop c z)

pub written_none : (z : List ℕ) → written_over [] z ≡ z
unfolding written_over
written_none z = ap (λ (x : List ℕ). x ++ z) (take-nil (length z))

-- over no byte nothing is written
written_on_none : (u : List ℕ) → written_over u [] ≡ []
unfolding written_over
written_on_none u = drop-nil (length u)

module _ (s z : List ℕ) where
  -- s fits
  pub written_fitting : length s ≤ length z → written_over s z ≡ s ++ drop (length s) z
  unfolding written_over
  written_fitting h = ap (λ (x : List ℕ). x ++ drop (length s) z) (take_all (length z) s h)

  -- s does not fit
  pub written_filling : length z ≤ length s → written_over s z ≡ take (length z) s
  unfolding written_over
  written_filling h = ap (λ (x : List ℕ). take (length z) s ++ x) (drop_of_length-le z h) ∙ append-nil (take (length z) s)

  -- what fits is at the start
  pub written_kept : length s ≤ length z → take (length s) (written_over s z) ≡ s
  written_kept h = ap (take (length s)) (written_fitting h) ∙ take-append_seam s (drop (length s) z)

pub written_length : (s z : List ℕ) → length (written_over s z) ≡ length z
unfolding written_over
written_length s z = length-append (take (length z) s) (drop (length s) z) ∙ omega (arith, length-drop (length s) z, length-take (length z) s)

-- from a place past its end nothing is written
pub written_past : (c : ℕ) (u z : List ℕ) → length z ≤ c → written_from c u z ≡ z
written_past c u z h =
    ap (λ (x : List ℕ). x ++ written_over u (drop c z)) (take_all c z h)
    ∙ ap (λ (x : List ℕ). z ++ written_over u x) (drop_of_length-le z h)
    ∙ ap (λ (x : List ℕ). z ++ x) (written_on_none u)
    ∙ append-nil z

module _ (s u z : List ℕ) where
  -- u after s, which fits
  pub written_next : length s ≤ length z → written_from (length s) u (written_over s z) ≡ written_over (s ++ u) z
  unfolding written_over
  written_next h =
      let rest = drop (length s) z in
      let left : length s + (length z - length s) ≡ length z = omega arith in
      ap (written_from (length s) u) (written_fitting s z h)
      ∙ ap (λ (x : List ℕ). x ++ written_over u (drop (length s) (s ++ rest))) (take-append_seam s rest)
      ∙ ap (λ (x : List ℕ). s ++ written_over u x) (drop-append_seam s rest)
      ∙ sym (append_assoc s (take (length rest) u) (drop (length u) rest))
      ∙ ap (λ (n : ℕ). (s ++ take n u) ++ drop (length u) rest) (length-drop (length s) z)
      ∙ ap (λ (x : List ℕ). x ++ drop (length u) rest) (sym (take-append-add s u (length z - length s)))
      ∙ ap (λ (n : ℕ). take n (s ++ u) ++ drop (length u) rest) left
      ∙ ap (λ (x : List ℕ). take (length z) (s ++ u) ++ x) (drop-drop (length u) (length s) z)
      ∙ ap (λ (n : ℕ). take (length z) (s ++ u) ++ drop n z) (sym (length-append s u))

  -- u after s, which does not fit
  pub written_dropped : (c : ℕ) → length z ≤ length s → length z ≤ c → written_from c u (written_over s z) ≡ written_over (s ++ u) z
  written_dropped c h g =
      written_past c u (written_over s z) (omega (arith, written_length s z))
      ∙ written_filling s z h
      ∙ sym (take-append-le (length z) s u h)
      ∙ sym (written_filling (s ++ u) z (omega (arith, length-append s u)))

-- LENT FROM A PLACE ON

-- t is copied into the bytes of b from place a on, which p are afterwards
pub put_tail : (a : ℕ) (b t p : List ℕ) → p ≡ t ++ drop (length t) (mid_of a (length b - a) b)
    → put_mid a (length b - a) b p ≡ take a b ++ (t ++ drop (length t) (drop a b))
put_tail a b t p e =
    let lent : mid_of a (length b - a) b ≡ drop a b = take_all (length b - a) (drop a b) (omega (arith, length-drop a b)) in
    let q : p ≡ t ++ drop (length t) (drop a b) = e ∙ ap (λ (x : List ℕ). t ++ drop (length t) x) lent in
    rw (drop_of_length-le (drop a b) {i = length b - a} (omega (arith, length-drop a b)), append-nil p) (ap (λ (x : List ℕ). take a b ++ x) q)

-- as much of u as fits is all that is written of it
pub written_cut : (u d : List ℕ) (n : ℕ) → n ≡ min (length u) (length d) → take n u ++ drop n d ≡ written_over u d
unfolding written_over
written_cut u d n e = go (dec_le (length u) (length d))
  where
    go : Dec (length u ≤ length d) → take n u ++ drop n d ≡ take (length d) u ++ drop (length u) d
    go (yes h) =
        let k : n ≡ length u = omega arith in
        rw (k, take_all (length u) u (omega arith), take_all (length d) u h) refl
    go (no h) =
        let k : n ≡ length d = omega arith in
        rw (k, drop_of_length-le d {i = length d} (omega arith), drop_of_length-le d {i = length u} (omega arith)) refl

-- u is written from place a on, as far as there is room: `from` is a, or the end of the buffer where a is past it
pub part_put : (a : ℕ) (b u : List ℕ) {from size k : ℕ} {p : List ℕ} → from ≡ min a (length b) → size ≡ min (length u) (length b - from) → k ≡ size → p ≡ take size u
    → put_mid from k b p ≡ written_from a u b
part_put a b u {from} {size} {k} {p} at room same e = go (dec_le a (length b))
  where
    go : Dec (a ≤ length b) → put_mid from k b p ≡ written_from a u b
    go (yes h) =
        let f : from ≡ a = omega arith in
        rw (e, same, f) (ap (λ (x : List ℕ). take a b ++ x) (written_cut u (drop a b) size (omega (arith, length-drop a b))))
    go (no h) =
        let f : from ≡ length b = omega arith in
        let z : size ≡ 0 = omega arith in
        rw (e, same, f, z, take_all (length b) b (omega arith), drop_of_length-le b {i = length b} (omega arith), append-nil b) (sym (written_past a u b (omega arith)))
