use Rattle.entry.proofs.SettleLaws.{settled_laws}
use borrow.Author.Rules.{rules}
use Rattle.entry.proofs.entry.settled_at.Goals as goal

pub returns-in-Some-clause-value : goal.returns-in-Some-clause-value
returns-in-Some-clause-value c = search (rules, settled_laws)

pub returns-in-Some-clause-table_after : goal.returns-in-Some-clause-table_after
returns-in-Some-clause-table_after c = search (rules, settled_laws)

pub returns-in-None-clause-value : goal.returns-in-None-clause-value
returns-in-None-clause-value c = search (rules, settled_laws)

pub returns-in-None-clause-table_after : goal.returns-in-None-clause-table_after
returns-in-None-clause-table_after c = search (rules, settled_laws)
