use Rattle.ledger.proofs.ReadLaws.{verdict_laws}
use borrow.Author.Rules.{rules}
use Rattle.ledger.proofs.read.verdict.Goals as goal

pub returns-then-ledger-gt-SIZE : goal.returns-then-ledger-gt-SIZE
returns-then-ledger-gt-SIZE c = search (rules, verdict_laws)

pub returns : goal.returns
returns c = search (rules, verdict_laws)
