-- `content::scale::add_primes` meets its contract. The invariant, `Gathered`, says what the primes passed have added.
use Prim.Native.Nat.{◌<◌}
use native.Mathlib.Omega.{arith}
use mathlib.Core.Path.{refl}
use mathlib.Core.List.{[]}
use Rattle.symbols.proofs.UnitLaws.{prime_small}
use Rattle.content.proofs.SlotLaws.{primes_add}
use Rattle.content.proofs.SumLaws.{none_gathered, may_add, one_gathered, none_added, all_gathered}
use Rattle.content.proofs.scale.add_primes.Goals as goal
use Rattle.content.proofs.scale.add_primes.Goals.{then-power-ne0, else-power-ne0}

pub loop-prime-init : goal.loop-prime-init
loop-prime-init c = λ s. none_gathered _ _ _

pub add_power-requires : goal.add_power-requires
add_power-requires c =
    let h : c.loop-prime.prime < 4 = omega arith in
    may_add
    (c.loop-prime.invariant []) c.requires.small h _ _ refl (c.prime_power-power.ensures []) (prime_small c.loop-prime.prime h _)

pub loop-prime-preserved : goal.loop-prime-preserved
loop-prime-preserved c =
    let h : c.loop-prime.prime < 4 = omega arith in
    λ s.
    elim c.if-power-ne0.branch [
      | then-power-ne0 w ↦
          rw w.sums-is
          (one_gathered
          (c.loop-prime.invariant s) c.requires.small h _ _ refl (c.prime_power-power.ensures s)
          (prime_small c.loop-prime.prime h _) _ (omega (arith, c.requires.room)) w.add_power.ensures)
      | else-power-ne0 w ↦
          rw w.sums-is
          (none_added (c.loop-prime.invariant s) _ (c.prime_power-power.ensures s) (prime_small c.loop-prime.prime h _) w.if-power-ne0.false)
    ]

pub returns : goal.returns
returns c =
    λ s.
    let room = c.requires.room in
    all_gathered (c.loop-prime.invariant s) (omega arith) _ (λ b l. primes_add _ b (omega (arith, room)))
