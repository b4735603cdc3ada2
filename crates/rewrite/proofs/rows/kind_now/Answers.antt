use borrow.Author.Rules.{rules}
use Rattle.rewrite.proofs.RowsLaws.{kind_laws}
use Rattle.rewrite.proofs.rows.kind_now.Goals as goal

pub returns-then-kind-lt-FIRST_DETAIL : goal.returns-then-kind-lt-FIRST_DETAIL
returns-then-kind-lt-FIRST_DETAIL c = search (rules, kind_laws)

pub returns : goal.returns
returns c = search (rules, kind_laws)
