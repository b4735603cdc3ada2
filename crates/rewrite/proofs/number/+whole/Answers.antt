use borrow.Author.Rules.{rules}
use Rattle.rewrite.proofs.NumberLaws.{whole_laws}
use Rattle.rewrite.proofs.number.+whole.Goals as goal

pub digit_of-requires : goal.digit_of-requires
digit_of-requires t c = search (rules, whole_laws)

pub put-requires : goal.put-requires
put-requires t c = search (rules, whole_laws)

pub shape_of-out-then-k-eq0 : goal.shape_of-out-then-k-eq0
shape_of-out-then-k-eq0 t c = search (rules, whole_laws)

pub returns-then-k-eq0 : goal.returns-then-k-eq0
returns-then-k-eq0 t c = search (rules, whole_laws)

pub digit_of-requires-then-n-lt10 : goal.digit_of-requires-then-n-lt10
digit_of-requires-then-n-lt10 t c = search (rules, whole_laws)

pub put-requires-then-n-lt10 : goal.put-requires-then-n-lt10
put-requires-then-n-lt10 t c = search (rules, whole_laws)

pub shape_of-out-then-n-lt10 : goal.shape_of-out-then-n-lt10
shape_of-out-then-n-lt10 t c = search (rules, whole_laws)

pub returns-then-n-lt10 : goal.returns-then-n-lt10
returns-then-n-lt10 t c = search (rules, whole_laws)

pub overflow_sub-k : goal.overflow_sub-k
overflow_sub-k t c = search (rules, whole_laws)

pub whole-next-requires : goal.whole-next-requires
whole-next-requires t c = search (rules, whole_laws)

pub digit_of-requires-2 : goal.digit_of-requires-2
digit_of-requires-2 t c = search (rules, whole_laws)

pub put-requires-2 : goal.put-requires-2
put-requires-2 t c = search (rules, whole_laws)

pub shape_of-out : goal.shape_of-out
shape_of-out t c = search (rules, whole_laws)

pub returns : goal.returns
returns t c = search (rules, whole_laws)
