use Rattle.edit.proofs.JudgeLaws.{refuse_laws}
use borrow.Author.Rules.{rules}
use Rattle.edit.proofs.reread.allowed.Goals as goal

pub returns-then-old-gt-SIZE : goal.returns-then-old-gt-SIZE
returns-then-old-gt-SIZE c = search (rules, refuse_laws)

pub returns-then-is_large : goal.returns-then-is_large
returns-then-is_large c = search (rules, refuse_laws)

pub returns-then-is_new : goal.returns-then-is_new
returns-then-is_new c = search (rules, refuse_laws)

pub returns : goal.returns
returns c = search (rules, refuse_laws)
