use Rattle.content.proofs.ContentLaws.{price_laws}
use borrow.Author.Rules.{rules}
use Rattle.content.proofs.content.price_content.Goals as goal

pub returns-in_err-e : goal.returns-in_err-e
returns-in_err-e c = search (rules, price_laws, c.in_err-e.was)

pub emit-requires : goal.emit-requires
emit-requires c = search (rules, price_laws)

pub returns : goal.returns
returns c = search (rules, price_laws, c.in_ok-e.was)
