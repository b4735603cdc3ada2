use Rattle.content.proofs.ContentLaws.{pad_laws}
use borrow.Author.Rules.{rules}
use Rattle.content.proofs.content.pad_at.Goals as goal

pub returns-in_err-e : goal.returns-in_err-e
returns-in_err-e c = search (rules, pad_laws, c.in_err-e.was)

pub gap_account-requires : goal.gap_account-requires
gap_account-requires c = search (rules, pad_laws, c.in_ok-e.was)

pub returns : goal.returns
returns c = search (rules, pad_laws, c.in_ok-e.was)
