-- `content::dimensions::add_bases` meets its contract. The invariant, `Gathered`, says what the slots passed have added.
use Prim.Native.Nat.{◌<◌}
use native.Mathlib.Omega.{arith}
use mathlib.Core.Path.{◌∙◌, sym}
use mathlib.Core.List.{[]}
use Rattle.symbols.specs.Views.{symbol_in}
use Rattle.symbols.proofs.UnitLaws.{slot_small, slots_are}
use Rattle.content.proofs.SlotLaws.{slot_base_in}
use Rattle.content.proofs.SumLaws.{none_gathered, may_add, one_gathered, none_added, all_gathered}
use Rattle.content.proofs.dimensions.add_bases.Goals as goal
use Rattle.content.proofs.dimensions.add_bases.Goals.{then-power-ne0, else-power-ne0}

pub loop-slot-init : goal.loop-slot-init
loop-slot-init c = λ s. none_gathered _ _ _

pub add_power-requires : goal.add_power-requires
add_power-requires c =
    let h : c.loop-slot.slot < 4 = omega arith in
    may_add
    (c.loop-slot.invariant []) c.requires.small h _ _
    (c.from-base.ensures ∙ c.slot_base.ensures []) (c.slot_power-power.ensures [])
    (omega (arith, slot_small c.loop-slot.slot h (symbol_in [] c.args.x)))

pub bounds-sums-base : goal.bounds-sums-base
bounds-sums-base c = rw (c.from-base.ensures ∙ c.slot_base.ensures []) (slot_base_in c.loop-slot.slot (omega arith) _)

pub bounds-sums-base-then-power-ne0 : goal.bounds-sums-base-then-power-ne0
bounds-sums-base-then-power-ne0 c = rw (c.from-base.ensures ∙ c.slot_base.ensures []) (slot_base_in c.loop-slot.slot (omega arith) _)

pub loop-slot-preserved : goal.loop-slot-preserved
loop-slot-preserved c =
    let h : c.loop-slot.slot < 4 = omega arith in
    λ s.
    elim c.if-power-ne0.branch [
      | then-power-ne0 w ↦
          let base_below : w.from-base.result < 32 = rw (w.from-base.ensures ∙ w.slot_base.ensures []) (slot_base_in c.loop-slot.slot h _) in
          rw w.sums-is
          (one_gathered
          (c.loop-slot.invariant s) c.requires.small h _ _ (w.from-base.ensures ∙ w.slot_base.ensures s) (c.slot_power-power.ensures s)
          (omega (arith, slot_small c.loop-slot.slot h (symbol_in s c.args.x))) _
          (omega (arith, base_below, c.requires.room))
          w.add_power.ensures)
      | else-power-ne0 w ↦
          rw w.sums-is
          (none_added (c.loop-slot.invariant s) _ (c.slot_power-power.ensures s)
          (omega (arith, slot_small c.loop-slot.slot h (symbol_in s c.args.x))) w.if-power-ne0.false)
    ]

pub returns : goal.returns
returns c = λ s. all_gathered (c.loop-slot.invariant s) (omega arith) _ (λ b l. sym (slots_are b _))
