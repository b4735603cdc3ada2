use Rattle.transaction.proofs.HeadLaws.{texts_laws}
use borrow.Author.Rules.{rules}
use Rattle.transaction.proofs.transaction.texts_at.Goals as goal

pub second_text-requires : goal.second_text-requires
second_text-requires c = search (rules, texts_laws, c.in-Some.ensures)

pub returns-in-Some : goal.returns-in-Some
returns-in-Some c = search (rules, texts_laws, c.in-Some.ensures)

pub returns-in-None : goal.returns-in-None
returns-in-None c = search (rules, texts_laws, c.in-None.ensures)
