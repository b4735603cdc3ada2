use Rattle.amount.proofs.LoneLiteral.{form_laws}
use borrow.Author.Rules.{rules}
use Rattle.amount.proofs.expression.expression_in.Goals as goal

pub returns-in-Exact : goal.returns-in-Exact
returns-in-Exact c = search (rules, form_laws)

pub returns-in-Rounding : goal.returns-in-Rounding
returns-in-Rounding c = search (rules, form_laws)
