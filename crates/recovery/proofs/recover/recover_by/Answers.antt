use Rattle.recovery.proofs.RecoverLaws.{recover_laws}
use borrow.Author.Rules.{rules}
use Rattle.recovery.proofs.recover.recover_by.Goals as goal

pub returns-then-ledger-gt-SIZE-clause-answer : goal.returns-then-ledger-gt-SIZE-clause-answer
returns-then-ledger-gt-SIZE-clause-answer c = search (rules, recover_laws)

pub returns-then-ledger-gt-SIZE-clause-rows : goal.returns-then-ledger-gt-SIZE-clause-rows
returns-then-ledger-gt-SIZE-clause-rows c = search (rules, recover_laws)

pub returns-then-table-n-clause-answer : goal.returns-then-table-n-clause-answer
returns-then-table-n-clause-answer c = search (rules, recover_laws)

pub returns-then-table-n-clause-rows : goal.returns-then-table-n-clause-rows
returns-then-table-n-clause-rows c = search (rules, recover_laws)

pub returns-clause-answer : goal.returns-clause-answer
returns-clause-answer c = search (rules, recover_laws)

pub returns-clause-rows : goal.returns-clause-rows
returns-clause-rows c = search (rules, recover_laws)
