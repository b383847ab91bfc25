-- The cycle of the descent ends, since the bytes left in the label fall. Each turn of a product's loop is a law of `StepLaws`.
use Rattle.std.proofs.Common.{ℕ, ◌+◌, ◌-◌, ◌*◌, List, length}
use Rattle.descent.proofs.StepLaws.{Ongoing}
use Rattle.descent.proofs.descent.+read_group_read_item_read_product.Given as goal

-- four times what is left of the label
abbrev left : List ℕ → ℕ → ℕ
left s at = 4 * (length s - at)

abbrev pub decreases-read_group : goal.decreases-read_group
decreases-read_group l = left l.s.now l.at + 3

abbrev pub decreases-read_item : goal.decreases-read_item
decreases-read_item l = left l.s.now l.at + 1

abbrev pub decreases-read_product : goal.decreases-read_product
decreases-read_product l = left l.s.now l.at + 2

abbrev pub invariant-read_product-loop-end : goal.invariant-read_product-loop-end
invariant-read_product-loop-end l =
    Ongoing l.r l.sense.turned l.s l.at l.initial.terms l.from l.down l.terms

abbrev pub decreases-read_product-loop-end : goal.decreases-read_product-loop-end
decreases-read_product-loop-end l = length l.s - l.from
