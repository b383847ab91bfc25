-- A label to itself, and there and back.
use Prim.Native.Nat.{ℕ, zero, suc, ◌*◌}
use native.Mathlib.Omega.{arith}
use native.Mathlib.Nat.{pow-zero, zero-mul}
use mathlib.Core.Path.{◌≡◌, refl, sym, ap, ◌∙◌}
use mathlib.Core.List.{List}
use lib.IntN.{ℤ, pos, negsuc, neg_ℤ, ◌+ℤ◌, ◌-ℤ◌, ◌*ℤ◌, +ℤ_invr, +ℤ_comm, neg_ℤ-+ℤ, neg_ℤ-neg_ℤ}
use Rattle.label.specs.Limits.{parts_of_one}
use Rattle.label.specs.Reading.{Reading, reading}
use Rattle.label.specs.Conversion.{above, below}
use Rattle.claims.specs.Fractions.{Divides, Exact}
use Rattle.claims.specs.Converting.{prime_exponent, WholeIn, FactorIs, Converts, ItselfByOne, BackByTheInverse}
use Rattle.claims.proofs.Coprime.{common_one, common_swap, divides_le}
use Rattle.claims.proofs.WholeLaws.{neg_size}
use Rattle.claims.proofs.ConversionAnswers.{gives_converts}

-- ITSELF

no_exponent : (p : ℕ) (r : Reading) → WholeIn p r r (pos 0)
no_exponent p r = record { is = sym (+ℤ_invr (prime_exponent p r)) }

one_exact : Exact (pos 0) (pos 0) (pos 0) (pos 0) 1 1 (pos 0)
one_exact = record {
  equal = refl;
  positive = omega arith;
  lowest = common_one 1;
  without_five = ((λ (d : Divides 5 1). omega (arith, divides_le d (omega arith))), (λ (d : Divides 5 1). omega (arith, divides_le d (omega arith))));
}

factor_one : (r : Reading) → FactorIs r r 1 1 (pos 0)
factor_one r = record {
  of_2 = pos 0;
  of_3 = pos 0;
  of_5 = pos 0;
  of_487 = pos 0;
  whole_2 = no_exponent 2 r;
  whole_3 = no_exponent 3 r;
  whole_5 = no_exponent 5 r;
  whole_487 = no_exponent 487 r;
  exact = one_exact;
}

pub converts_itself : ItselfByOne
converts_itself n s c u = (gives_converts n s n s 1 1 (pos 0)).1 (record {
  first_clear = c;
  second_clear = c;
  first_known = u;
  second_known = u;
  same_dimensions = λ b h. refl;
  factor = factor_one (reading n s);
  within = omega arith;
})

-- THERE AND BACK

above_neg : (p : ℕ) (z : ℤ) → above p (neg_ℤ z) ≡ below p z
above_neg p (pos zero) = pow-zero p
above_neg p (pos (suc n)) = refl
above_neg p (negsuc n) = refl

below_neg : (p : ℕ) (z : ℤ) → below p (neg_ℤ z) ≡ above p z
below_neg p (pos zero) = sym (pow-zero p)
below_neg p (pos (suc n)) = refl
below_neg p (negsuc n) = refl

neg_difference : (a b : ℤ) → neg_ℤ (a -ℤ b) ≡ b -ℤ a
neg_difference a b = neg_ℤ-+ℤ a (neg_ℤ b) ∙ ap (λ (z : ℤ). neg_ℤ a +ℤ z) (neg_ℤ-neg_ℤ b) ∙ +ℤ_comm (neg_ℤ a) b

neg_times : (w : ℤ) (n : ℕ) → neg_ℤ w *ℤ pos n ≡ neg_ℤ (w *ℤ pos n)
neg_times (pos zero) n = rw (zero-mul n)
neg_times (pos (suc m)) n = refl
neg_times (negsuc m) n = sym (neg_ℤ-neg_ℤ (pos (suc m * n)))

whole_back : {w : ℤ} (p : ℕ) (r q : Reading) → WholeIn p r q w → WholeIn p q r (neg_ℤ w)
whole_back {w} p r q h = record { is = neg_times w parts_of_one ∙ ap neg_ℤ h.is ∙ neg_difference (prime_exponent p r) (prime_exponent p q) }

exact_back : {a b c e k : ℤ} {n d : ℕ} → Exact a b c e n d k → Exact (neg_ℤ a) (neg_ℤ b) (neg_ℤ c) (neg_ℤ e) d n (neg_ℤ k)
exact_back {a} {b} {c} {e} {k} {n} {d} x = record {
  equal = rw (above_neg 10 k, below_neg 10 k, below_neg 2 a, below_neg 3 b, below_neg 5 c, below_neg 487 e, above_neg 2 a, above_neg 3 b, above_neg 5 c, above_neg 487 e) (sym x.equal);
  positive = (x.positive.1, x.positive.0);
  lowest = common_swap x.lowest;
  without_five = (x.without_five.1, x.without_five.0);
}

factor_back : {r q : Reading} {n d : ℕ} {k : ℤ} → FactorIs r q n d k → FactorIs q r d n (neg_ℤ k)
factor_back {r} {q} f = record {
  of_2 = neg_ℤ f.of_2;
  of_3 = neg_ℤ f.of_3;
  of_5 = neg_ℤ f.of_5;
  of_487 = neg_ℤ f.of_487;
  whole_2 = whole_back 2 r q f.whole_2;
  whole_3 = whole_back 3 r q f.whole_3;
  whole_5 = whole_back 5 r q f.whole_5;
  whole_487 = whole_back 487 r q f.whole_487;
  exact = exact_back f.exact;
}

converts_back : {n : ℕ} {s : List ℕ} {m : ℕ} {t : List ℕ} {x y : ℕ} {k : ℤ} → Converts n s m t x y k → Converts m t n s y x (neg_ℤ k)
converts_back {k = k} c = record {
  first_clear = c.second_clear;
  second_clear = c.first_clear;
  first_known = c.second_known;
  second_known = c.first_known;
  same_dimensions = λ b h. sym (c.same_dimensions b h);
  factor = factor_back c.factor;
  within = omega (arith, c.within, neg_size k);
}

pub converts_inverse : BackByTheInverse
converts_inverse n s m t x y k e = (gives_converts m t n s y x (neg_ℤ k)).1 (converts_back ((gives_converts n s m t x y k).0 e))
