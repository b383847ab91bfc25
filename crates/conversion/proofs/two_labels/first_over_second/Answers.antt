-- `conversion::two_labels::first_over_second` meets its contract: the four differences fit the machine.
use Prim.Native.Nat.{◌<◌}
use native.Mathlib.Omega.{arith}
use Rattle.conversion.proofs.Summing.{difference_fits, difference_told, ratio_told}
use Rattle.conversion.proofs.two_labels.first_over_second.Goals as goal

pub overflow_sub-result : goal.overflow_sub-result
overflow_sub-result c = difference_fits c.args.first.now.primes c.args.second.now.primes c.requires.0 c.requires.1 0 (omega arith)

pub overflow_sub-result-2 : goal.overflow_sub-result-2
overflow_sub-result-2 c = difference_fits c.args.first.now.primes c.args.second.now.primes c.requires.0 c.requires.1 1 (omega arith)

pub overflow_sub-result-3 : goal.overflow_sub-result-3
overflow_sub-result-3 c = difference_fits c.args.first.now.primes c.args.second.now.primes c.requires.0 c.requires.1 2 (omega arith)

pub overflow_sub-result-4 : goal.overflow_sub-result-4
overflow_sub-result-4 c = difference_fits c.args.first.now.primes c.args.second.now.primes c.requires.0 c.requires.1 3 (omega arith)

pub returns : goal.returns
returns c =
    let w = c.requires.0 in
    let v = c.requires.1 in
    let xs = c.args.first.now.primes in
    let ys = c.args.second.now.primes in
    let h₀ : 0 < 4 = omega arith in
    let h₁ : 1 < 4 = omega arith in
    let h₂ : 2 < 4 = omega arith in
    let h₃ : 3 < 4 = omega arith in
    ratio_told xs ys w v h₀ h₁ h₂ h₃ (difference_told xs ys w v 0 h₀) (difference_told xs ys w v 1 h₁) (difference_told xs ys w v 2 h₂) (difference_told xs ys w v 3 h₃)
