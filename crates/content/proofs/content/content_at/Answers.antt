use Rattle.content.proofs.KindLaws.{kind_laws}
use borrow.Author.Rules.{rules}
use Rattle.content.proofs.content.content_at.Goals as goal

pub returns-in-7 : goal.returns-in-7
returns-in-7 c = search (rules, kind_laws)

pub returns-in-8 : goal.returns-in-8
returns-in-8 c = search (rules, kind_laws)

pub returns-in-9 : goal.returns-in-9
returns-in-9 c = search (rules, kind_laws)

pub returns-in-10 : goal.returns-in-10
returns-in-10 c = search (rules, kind_laws)

pub returns-in-11 : goal.returns-in-11
returns-in-11 c = search (rules, kind_laws)

pub returns-in-12 : goal.returns-in-12
returns-in-12 c = search (rules, kind_laws)

pub returns-in_default : goal.returns-in_default
returns-in_default c = search (rules, kind_laws)
