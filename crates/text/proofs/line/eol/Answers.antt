use Rattle.text.proofs.LineLaws.{eol_laws}
use borrow.Author.Rules.{rules}
use Rattle.text.proofs.line.eol.Goals as goal

pub overflow_add-result : goal.overflow_add-result
overflow_add-result c = search (rules, eol_laws)

pub returns-then-b-eq10 : goal.returns-then-b-eq10
returns-then-b-eq10 c = search (rules, eol_laws)

pub overflow_add-result-then-n-eq10 : goal.overflow_add-result-then-n-eq10
overflow_add-result-then-n-eq10 c = search (rules, eol_laws)

pub returns-then-n-eq10 : goal.returns-then-n-eq10
returns-then-n-eq10 c = search (rules, eol_laws)

pub returns-else-n-eq10 : goal.returns-else-n-eq10
returns-else-n-eq10 c = search (rules, eol_laws)

pub returns-else-b-eq13 : goal.returns-else-b-eq13
returns-else-b-eq13 c = search (rules, eol_laws)

pub returns : goal.returns
returns c = search (rules, eol_laws)
