use Rattle.posting.proofs.LotLaws.{gap_amount_laws}
use borrow.Author.Rules.{rules}
use Rattle.posting.proofs.cost.gap_amount.Goals as goal

pub returns-in_err-j : goal.returns-in_err-j
returns-in_err-j c = search (rules, gap_amount_laws, c.in_err-j.was)

pub returns : goal.returns
returns c = search (rules, gap_amount_laws, c.in_ok-j.was)
