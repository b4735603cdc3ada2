use Rattle.access.proofs.SingleLaws.{single_laws}
use borrow.Author.Rules.{rules}
use Rattle.access.proofs.single.judge.Goals as goal

pub returns-then-text-gt-SIZE : goal.returns-then-text-gt-SIZE
returns-then-text-gt-SIZE c = search (rules, single_laws)

pub returns-then-c-text : goal.returns-then-c-text
returns-then-c-text c = search (rules, single_laws)

pub returns : goal.returns
returns c = search (rules, single_laws)
