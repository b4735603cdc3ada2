use Rattle.amount.proofs.Forms.{closing_laws}
use borrow.Author.Rules.{rules}
use Rattle.amount.proofs.expression.closing.Goals as goal

pub returns-in_err-e : goal.returns-in_err-e
returns-in_err-e c = search (rules, closing_laws, c.in_err-e.was)

pub returns-then-peek-eq41 : goal.returns-then-peek-eq41
returns-then-peek-eq41 c = search (rules, closing_laws, c.in_ok-e.was)

pub returns-else-peek-eq41 : goal.returns-else-peek-eq41
returns-else-peek-eq41 c = search (rules, closing_laws, c.in_ok-e.was)
