use Rattle.entry.proofs.UndatedLaws.{tag_laws}
use borrow.Author.Rules.{rules}
use Rattle.entry.proofs.entry.tagged_at.Goals as goal

pub returns-in_err-j : goal.returns-in_err-j
returns-in_err-j c = search (rules, tag_laws, c.in_err-j.was)

pub returns-in_err-e : goal.returns-in_err-e
returns-in_err-e c = search (rules, tag_laws, c.in_ok-j.was, c.in_err-e.was)

pub overflow_add-j : goal.overflow_add-j
overflow_add-j c = search (rules, tag_laws, c.in_ok-j.was, c.in_ok-e.was)

pub returns : goal.returns
returns c = search (rules, tag_laws)
