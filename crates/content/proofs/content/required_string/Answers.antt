use Rattle.content.proofs.ContentLaws.{string_laws}
use borrow.Author.Rules.{rules}
use Rattle.content.proofs.content.required_string.Goals as goal

pub returns-in_err-e : goal.returns-in_err-e
returns-in_err-e c = search (rules, string_laws, c.in_err-e.was)

pub overflow_add-at : goal.overflow_add-at
overflow_add-at c = search (rules, string_laws, c.in_ok-e.was)

pub overflow_sub-e : goal.overflow_sub-e
overflow_sub-e c = search (rules, string_laws)

pub returns : goal.returns
returns c = search (rules, string_laws, c.in_ok-e.was)
