-- What a scan over a slice finds, in terms of the text from a place on.
use Rattle.std.specs.Prelude.{ℕ, ◌≤◌, ◌≡◌, Bool, List, eqb, length, drop}
use Rattle.label.specs.Bytes.{space, digit_zero, run, past}
use Rattle.label.specs.Ranges.{between}

abbrev pub is_space : ℕ → Bool
is_space c = eqb c space

abbrev pub is_zero : ℕ → Bool
is_zero c = eqb c digit_zero

-- e is the end of the run of the class p that starts at `at`
pub record Run (p : ℕ → Bool) (s : List ℕ) (at e : ℕ) : Type 0 where
  pub from : at ≤ e
  pub within : e ≤ length s
  pub bytes : between s at e ≡ run p (drop at s)
  pub rest : drop e s ≡ past p (drop at s)

-- whether a byte is of the class p is what `answers` has for it
abbrev pub Decides : (ℕ → Bool → Type 0) → (ℕ → Bool) → Type 0
Decides answers p = (x : ℕ) (b : Bool) → answers x b → b ≡ p x
