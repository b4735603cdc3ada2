use Rattle.amount.specs.Expression.{chain, atom, products, sums, in_group, within}
use Rattle.amount.specs.steps.Answers.{operator_of, operand_of, answer_of}
use Rattle.amount.proofs.Forms.{stage, sum_stage, form_laws, operand_laws, goes_laws, goes_more}
use borrow.Author.Rules.{rules}
use Rattle.amount.proofs.expression.+expression.Goals as goal

pub chain_from-overflow_add-i : goal.chain_from-overflow_add-i
chain_from-overflow_add-i t c = search (rules, goes_laws)

pub chain_from-returns-else-is_operator : goal.chain_from-returns-else-is_operator
chain_from-returns-else-is_operator t c = search (rules, goes_laws)

pub chain_from-loop-preserved : goal.chain_from-loop-preserved
chain_from-loop-preserved t c =
    goes_more _ _ _ _ _ _ _ _ c.loop.invariant (search rules) _ _ _ c.run-i.ensures.value c.peek-op.ensures c.is_operator.ensures c.if-is_operator.true _ _
    c.run.ensures.value c.operand_at.ensures _ _ _ _ (search rules) c.in-Ok.is c.combine-value.ensures

pub chain_from-returns : goal.chain_from-returns
chain_from-returns t c = search (rules, goes_laws)

pub group_at-returns-then-left-eq0 : goal.group_at-returns-then-left-eq0
group_at-returns-then-left-eq0 t c = search (rules, form_laws)

pub group_at-returns-then-peek-eq40 : goal.group_at-returns-then-peek-eq40
group_at-returns-then-peek-eq40 t c = search (rules, form_laws)

pub group_at-returns : goal.group_at-returns
group_at-returns t c = search (rules, form_laws)

pub negation_at-returns-then-peek-eq45 : goal.negation_at-returns-then-peek-eq45
negation_at-returns-then-peek-eq45 t c = search (rules, form_laws)

pub negation_at-returns : goal.negation_at-returns
negation_at-returns t c = search (rules, form_laws)

pub operand_at-returns-then-times : goal.operand_at-returns-then-times
operand_at-returns-then-times t c = search (rules, operand_laws)

pub operand_at-product_at-requires : goal.operand_at-product_at-requires
operand_at-product_at-requires t c = let z = sum_stage _ c.if-times.false in search rules

pub operand_at-returns : goal.operand_at-returns
operand_at-returns t c = search (rules, operand_laws)

pub product_at-chain_from-requires : goal.product_at-chain_from-requires
unfolding stage
product_at-chain_from-requires t c = search rules

pub sum_at-chain_from-requires : goal.sum_at-chain_from-requires
unfolding stage
sum_at-chain_from-requires t c = search rules

pub atom_at-returns-in-Err-Miss : goal.atom_at-returns-in-Err-Miss
unfolding atom
atom_at-returns-in-Err-Miss t c = search (rules, form_laws)

pub atom_at-returns-in_default : goal.atom_at-returns-in_default
unfolding atom
atom_at-returns-in_default t c = search (rules, form_laws)

pub atom_at-returns-in_default-2 : goal.atom_at-returns-in_default-2
unfolding atom
atom_at-returns-in_default-2 t c = search (rules, form_laws)

pub chain_from-returns-in-Err-Miss : goal.chain_from-returns-in-Err-Miss
chain_from-returns-in-Err-Miss t c = search (rules, goes_laws)

pub chain_from-returns-in-Err : goal.chain_from-returns-in-Err
chain_from-returns-in-Err t c = search (rules, goes_laws)

pub product_at-returns-in_err-e : goal.product_at-returns-in_err-e
unfolding products chain operator_of operand_of
product_at-returns-in_err-e t c = search (rules, form_laws, c.in_err-e.was)

pub product_at-returns : goal.product_at-returns
unfolding products chain operator_of operand_of
product_at-returns t c = search (rules, form_laws, c.in_ok-e.was)

pub sum_at-returns-in_err-e : goal.sum_at-returns-in_err-e
unfolding sums chain operator_of operand_of
sum_at-returns-in_err-e t c = search (rules, form_laws, c.in_err-e.was)

pub sum_at-returns : goal.sum_at-returns
unfolding sums chain operator_of operand_of
sum_at-returns t c = search (rules, form_laws, c.in_ok-e.was)

pub within_at-returns-in-Err-Miss : goal.within_at-returns-in-Err-Miss
unfolding within in_group
within_at-returns-in-Err-Miss t c = search (rules, form_laws)

pub within_at-returns-in_default : goal.within_at-returns-in_default
unfolding within in_group answer_of
within_at-returns-in_default t c = search (rules, form_laws)

pub within_at-returns-in_default-2 : goal.within_at-returns-in_default-2
unfolding within in_group answer_of
within_at-returns-in_default-2 t c = search (rules, form_laws)
