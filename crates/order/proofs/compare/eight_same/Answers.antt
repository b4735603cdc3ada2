use Rattle.order.proofs.CompareLaws.{eight_same}
use borrow.Author.Rules.{rules}
use Rattle.order.proofs.compare.eight_same.Goals as goal

pub bounds-x-i : goal.bounds-x-i
bounds-x-i c = search (rules, eight_same)

pub bounds-y-i : goal.bounds-y-i
bounds-y-i c = search (rules, eight_same)

pub overflow_add-result : goal.overflow_add-result
overflow_add-result c = search (rules, eight_same)

pub bounds-x-i-2 : goal.bounds-x-i-2
bounds-x-i-2 c = search (rules, eight_same)

pub overflow_add-result-2 : goal.overflow_add-result-2
overflow_add-result-2 c = search (rules, eight_same)

pub bounds-y-i-2 : goal.bounds-y-i-2
bounds-y-i-2 c = search (rules, eight_same)

pub overflow_add-result-3 : goal.overflow_add-result-3
overflow_add-result-3 c = search (rules, eight_same)

pub bounds-x-i-3 : goal.bounds-x-i-3
bounds-x-i-3 c = search (rules, eight_same)

pub overflow_add-result-4 : goal.overflow_add-result-4
overflow_add-result-4 c = search (rules, eight_same)

pub bounds-y-i-3 : goal.bounds-y-i-3
bounds-y-i-3 c = search (rules, eight_same)

pub overflow_add-result-5 : goal.overflow_add-result-5
overflow_add-result-5 c = search (rules, eight_same)

pub bounds-x-i-4 : goal.bounds-x-i-4
bounds-x-i-4 c = search (rules, eight_same)

pub overflow_add-result-6 : goal.overflow_add-result-6
overflow_add-result-6 c = search (rules, eight_same)

pub bounds-y-i-4 : goal.bounds-y-i-4
bounds-y-i-4 c = search (rules, eight_same)

pub overflow_add-result-7 : goal.overflow_add-result-7
overflow_add-result-7 c = search (rules, eight_same)

pub bounds-x-i-5 : goal.bounds-x-i-5
bounds-x-i-5 c = search (rules, eight_same)

pub overflow_add-result-8 : goal.overflow_add-result-8
overflow_add-result-8 c = search (rules, eight_same)

pub bounds-y-i-5 : goal.bounds-y-i-5
bounds-y-i-5 c = search (rules, eight_same)

pub overflow_add-result-9 : goal.overflow_add-result-9
overflow_add-result-9 c = search (rules, eight_same)

pub bounds-x-i-6 : goal.bounds-x-i-6
bounds-x-i-6 c = search (rules, eight_same)

pub overflow_add-result-10 : goal.overflow_add-result-10
overflow_add-result-10 c = search (rules, eight_same)

pub bounds-y-i-6 : goal.bounds-y-i-6
bounds-y-i-6 c = search (rules, eight_same)

pub overflow_add-result-11 : goal.overflow_add-result-11
overflow_add-result-11 c = search (rules, eight_same)

pub bounds-x-i-7 : goal.bounds-x-i-7
bounds-x-i-7 c = search (rules, eight_same)

pub overflow_add-result-12 : goal.overflow_add-result-12
overflow_add-result-12 c = search (rules, eight_same)

pub bounds-y-i-7 : goal.bounds-y-i-7
bounds-y-i-7 c = search (rules, eight_same)

pub overflow_add-result-13 : goal.overflow_add-result-13
overflow_add-result-13 c = search (rules, eight_same)

pub bounds-x-i-8 : goal.bounds-x-i-8
bounds-x-i-8 c = search (rules, eight_same)

pub overflow_add-result-14 : goal.overflow_add-result-14
overflow_add-result-14 c = search (rules, eight_same)

pub bounds-y-i-8 : goal.bounds-y-i-8
bounds-y-i-8 c = search (rules, eight_same)

pub returns : goal.returns
returns c = search (rules, eight_same)
