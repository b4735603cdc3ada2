use Rattle.entry.proofs.FirstLaws.{first_laws}
use borrow.Author.Rules.{rules}
use Rattle.entry.proofs.entry.form_at.Goals as goal

pub returns-in-Err-Miss : goal.returns-in-Err-Miss
returns-in-Err-Miss c = search (rules, first_laws, c.in-Err-Miss.ensures)

pub returns-in_default : goal.returns-in_default
returns-in_default c = search (rules, first_laws)

pub returns-in_default-2 : goal.returns-in_default-2
returns-in_default-2 c = search (rules, first_laws)

pub returns-then-is_small : goal.returns-then-is_small
returns-then-is_small c = search (rules, first_laws)

pub returns : goal.returns
returns c = search (rules, first_laws)
