use Rattle.access.proofs.TagLaws.{last_laws}
use borrow.Author.Rules.{rules}
use Rattle.access.proofs.tables.last_named.Goals as goal

pub loop-j-init : goal.loop-j-init
loop-j-init c = search (rules, last_laws)

pub is_named-requires : goal.is_named-requires
is_named-requires c = search (rules, last_laws)

pub row_of-requires : goal.row_of-requires
row_of-requires c = search (rules, last_laws)

pub returns-then-is_named : goal.returns-then-is_named
returns-then-is_named c = search (rules, last_laws)

pub loop-j-smaller : goal.loop-j-smaller
loop-j-smaller c = search (rules, last_laws)

pub loop-j-preserved : goal.loop-j-preserved
loop-j-preserved c = search (rules, last_laws)

pub returns : goal.returns
returns c = search (rules, last_laws)
