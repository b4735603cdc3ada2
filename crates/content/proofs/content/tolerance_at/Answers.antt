use Rattle.content.proofs.BalanceLaws.{tilde_laws}
use borrow.Author.Rules.{rules}
use Rattle.content.proofs.content.tolerance_at.Goals as goal

pub returns-then-eq : goal.returns-then-eq
returns-then-eq c = search (rules, tilde_laws)

pub returns : goal.returns
returns c = search (rules, tilde_laws)
