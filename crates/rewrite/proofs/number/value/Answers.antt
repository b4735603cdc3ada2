use borrow.Author.Rules.{rules}
use Rattle.rewrite.proofs.NumberLaws.{value_laws}
use Rattle.rewrite.proofs.number.value.Goals as goal

pub put-next-requires : goal.put-next-requires
put-next-requires c = search (rules, value_laws)

pub overflow_sub-v : goal.overflow_sub-v
overflow_sub-v c = search (rules, value_laws)

pub overflow_add-v : goal.overflow_add-v
overflow_add-v c = search (rules, value_laws)

pub size-requires : goal.size-requires
size-requires c = search (rules, value_laws)

pub shape_of-out-then-v-ge-BELOW_ZERO : goal.shape_of-out-then-v-ge-BELOW_ZERO
shape_of-out-then-v-ge-BELOW_ZERO c = search (rules, value_laws)

pub returns-then-v-ge-BELOW_ZERO : goal.returns-then-v-ge-BELOW_ZERO
returns-then-v-ge-BELOW_ZERO c = search (rules, value_laws)

pub size-requires-2 : goal.size-requires-2
size-requires-2 c = search (rules, value_laws)

pub shape_of-out : goal.shape_of-out
shape_of-out c = search (rules, value_laws)

pub returns : goal.returns
returns c = search (rules, value_laws)
