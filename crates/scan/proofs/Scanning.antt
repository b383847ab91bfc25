-- The run that a search for the first byte outside a class finds.
use Prim.Native.Nat.{ℕ, suc, ◌≤◌, ◌<◌, ◌-◌, ◌+◌}
use native.Mathlib.Omega.{arith}
use mathlib.Core.Path.{◌≡◌, refl, sym, ap, fun_ext, ◌∙◌}
use mathlib.Core.Bool.{Bool, true, false, not, cond}
use mathlib.Core.List.{List, [], ◌∷◌}
use lib.Dec.{ltb}
use lib.ListN.{length, take, drop, get_or, length-drop}
use lib.Seq.{drop-drop, take-length}
use borrow.Author.Tests.{ltb-false}
use Rattle.std.proofs.Common.{Option, Some, None}
use Rattle.std.specs.Option.{MatchOption}
use Rattle.std.specs.List.{position, position_or_len, prefix_len}
use Rattle.std.proofs.lemmas.List.Sums.{prefix_len-le-length}
use Rattle.label.specs.Bytes.{letter, run_on, run as run_of, past_on, past}
use Rattle.label.specs.Ranges.{between}
use Rattle.label.proofs.Basics.{false_true}
use Rattle.label.proofs.Between.{here, byte_inside, length_between}
use Rattle.scan.specs.Runs.{Run}

-- a run and what follows it, by how many bytes the run has
run_prefix : (p : ℕ → Bool) (l : List ℕ) → run_of p l ≡ take (prefix_len p l) l
unfolding run_of
run_prefix p [] = refl
run_prefix p (c ∷ l) = go (p c) (run_prefix p l)
  where
    go : (b : Bool) → run_of p l ≡ take (prefix_len p l) l → run_on b c (run_of p l) ≡ take (cond b (1 + prefix_len p l) 0) (c ∷ l)
    go true e = let n : 1 + prefix_len p l ≡ suc (prefix_len p l) = omega arith in rw n (ap (λ (m : List ℕ). c ∷ m) e)
    go false e = refl

past_prefix : (p : ℕ → Bool) (l : List ℕ) → past p l ≡ drop (prefix_len p l) l
unfolding past
past_prefix p [] = refl
past_prefix p (c ∷ l) = go (p c) (past_prefix p l)
  where
    go : (b : Bool) → past p l ≡ drop (prefix_len p l) l → past_on b (past p l) (c ∷ l) ≡ drop (cond b (1 + prefix_len p l) 0) (c ∷ l)
    go true e = let n : 1 + prefix_len p l ≡ suc (prefix_len p l) = omega arith in rw n e
    go false e = refl

run_to : (p : ℕ → Bool) (s : List ℕ) (at n : ℕ) → at ≤ length s → n ≡ prefix_len p (drop at s) → Run p s at (at + n)
run_to p s at n h e =
    let k : at + n - at ≡ n = omega arith in
    record {
      from = omega arith;
      within = omega (arith, prefix_len-le-length p (drop at s), length-drop at s);
      bytes = rw (k, e) (sym (run_prefix p (drop at s)));
      rest = rw e (sym (past_prefix p (drop at s) ∙ drop-drop (prefix_len p (drop at s)) at s));
    }

not_not : (b : Bool) → not (not b) ≡ b
not_not true = refl
not_not false = refl

-- the place of the first byte outside the class is how many bytes the run has
outside : (p : ℕ → Bool) (l : List ℕ) → position_or_len (λ c. not (p c)) l ≡ prefix_len p l
outside p l = ap (λ (q : ℕ → Bool). prefix_len q l) (fun_ext (λ c. not_not (p c)))

rest_of : (s : List ℕ) (at : ℕ) → between s at (length s) ≡ drop at s
rest_of s at = rw (← length-drop at s) (take-length (drop at s))

-- where the search of a text's rest ends, the run ends
pub ends : (p : ℕ → Bool) (s : List ℕ) (at : ℕ) → at ≤ length s → (r : Option ℕ) → r ≡ position (λ c. not (p c)) (between s at (length s))
    → MatchOption r (Run p s at (length s)) (λ n. Run p s at (at + n))
ends p s at h r e = go r (ltb (position_or_len (λ c. not (p c)) (drop at s)) (length (drop at s))) refl (rw (rest_of s at) at e)
  where
    go : (r : Option ℕ) (t : Bool) → ltb (position_or_len (λ c. not (p c)) (drop at s)) (length (drop at s)) ≡ t
        → r ≡ cond t (Some (position_or_len (λ c. not (p c)) (drop at s))) None
        → MatchOption r (Run p s at (length s)) (λ n. Run p s at (at + n))
    go (Some n) true f e = run_to p s at n h (let w : n ≡ position_or_len (λ c. not (p c)) (drop at s) = cc in w ∙ outside p (drop at s))
    go (Some n) false f e = absurd (cc)
    go None true f e = absurd (cc)
    go None false f e =
        let n : at + (length s - at) ≡ length s = omega arith in
        rw n at (run_to p s at (length s - at) h (omega (arith, ltb-false _ _ f, outside p (drop at s), prefix_len-le-length p (drop at s), length-drop at s)))

-- a letter's run goes on past it
pub letters_ahead : {s : List ℕ} {at e : ℕ} → Run letter s at e → letter (get_or s at 0) ≡ true → at < e
unfolding run_of letter
letters_ahead {s} {at} {e} w f =
    let h : at < length s = byte_inside s at (λ z. false_true (sym (ap letter z) ∙ f)) in
    let n : e - at ≡ suc (length (run_of letter (drop (at + 1) s))) = sym (length_between s at e w.within) ∙ ap length w.bytes ∙ rw (here s at h, f) in
    omega arith
