use Rattle.std.proofs.Common.{◌≡◌, ◌+◌, ◌-◌, ◌*◌, length}
use Rattle.amount.specs.Expression.{combined, goes_on, group}
use Rattle.amount.specs.steps.Answers.{operator_of, operand_of}
use Rattle.amount.proofs.Forms.{stage}
use Rattle.amount.proofs.expression.+expression.Given as goal

-- the groups that may still open fall at each group; where they are as many, the stage falls
abbrev pub decreases-atom_at : goal.decreases-atom_at
decreases-atom_at l = 10 * l.left + 2

abbrev pub decreases-chain_from : goal.decreases-chain_from
decreases-chain_from l = 10 * l.left + stage l.times + 4

abbrev pub decreases-group_at : goal.decreases-group_at
decreases-group_at l = 10 * l.left + 1

abbrev pub decreases-negation_at : goal.decreases-negation_at
decreases-negation_at l = 10 * l.left + 2

abbrev pub decreases-operand_at : goal.decreases-operand_at
decreases-operand_at l = 10 * l.left + stage l.times + 3

abbrev pub decreases-product_at : goal.decreases-product_at
decreases-product_at l = 10 * l.left + 5

abbrev pub decreases-sum_at : goal.decreases-sum_at
decreases-sum_at l = 10 * l.left + 8

abbrev pub decreases-within_at : goal.decreases-within_at
decreases-within_at l = 10 * l.left + 9

abbrev pub invariant-chain_from-loop : goal.invariant-chain_from-loop
invariant-chain_from-loop l =
    goes_on (combined l.form) (operator_of l.times) (operand_of l.times (combined l.form) (group (combined l.form) l.left l.s) l.s) l.s (length l.s - l.counter) l.value l.end-2
    ≡ goes_on (combined l.form) (operator_of l.times) (operand_of l.times (combined l.form) (group (combined l.form) l.left l.s) l.s) l.s (length l.s) l.initial.value l.initial.end-2
