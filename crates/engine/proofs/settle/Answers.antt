use Rattle.engine.proofs.Answering.{settle_laws}
use borrow.Author.Rules.{rules}
use Rattle.engine.proofs.settle.Goals as goal

pub negated-requires : goal.negated-requires
negated-requires c = search (rules, settle_laws)

pub returns-then-f : goal.returns-then-f
returns-then-f c = search (rules, settle_laws)

pub run-i-requires : goal.run-i-requires
run-i-requires c = search (rules, settle_laws)

pub peek-op-requires : goal.peek-op-requires
peek-op-requires c = search (rules, settle_laws)

pub is_operator-times-requires : goal.is_operator-times-requires
is_operator-times-requires c = search (rules, settle_laws)

pub is_operator-plus-requires : goal.is_operator-plus-requires
is_operator-plus-requires c = search (rules, settle_laws)

pub after-f-requires : goal.after-f-requires
after-f-requires c = search (rules, settle_laws)

pub overflow_add-i : goal.overflow_add-i
overflow_add-i c = search (rules, settle_laws)

pub run-requires : goal.run-requires
run-requires c = search (rules, settle_laws)

pub returns-then-times-plus : goal.returns-then-times-plus
returns-then-times-plus c = search (rules, settle_laws)

pub total-requires : goal.total-requires
total-requires c = search (rules, settle_laws)

pub returns : goal.returns
returns c = search (rules, settle_laws)
