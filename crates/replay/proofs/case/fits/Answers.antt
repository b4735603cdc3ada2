use Rattle.replay.proofs.HeaderLaws.{limit_laws}
use borrow.Author.Rules.{rules}
use Rattle.replay.proofs.case.fits.Goals as goal

pub returns-then-first-gt-MOST : goal.returns-then-first-gt-MOST
returns-then-first-gt-MOST c = search (rules, limit_laws)

pub returns-then-second-gt-MOST : goal.returns-then-second-gt-MOST
returns-then-second-gt-MOST c = search (rules, limit_laws)

pub returns-then-lent-gt-MOST : goal.returns-then-lent-gt-MOST
returns-then-lent-gt-MOST c = search (rules, limit_laws)

pub overflow_add-result : goal.overflow_add-result
overflow_add-result c = search (rules, limit_laws)

pub overflow_add-result-2 : goal.overflow_add-result-2
overflow_add-result-2 c = search (rules, limit_laws)

pub overflow_add-result-3 : goal.overflow_add-result-3
overflow_add-result-3 c = search (rules, limit_laws)

pub overflow_add-result-4 : goal.overflow_add-result-4
overflow_add-result-4 c = search (rules, limit_laws)

pub returns : goal.returns
returns c = search (rules, limit_laws)
