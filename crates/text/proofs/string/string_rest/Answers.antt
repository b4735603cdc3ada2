use Rattle.text.proofs.StringLaws.{str_laws}
use borrow.Author.Rules.{rules}
use Rattle.text.proofs.string.string_rest.Goals as goal

pub returns-then-b-eq34 : goal.returns-then-b-eq34
returns-then-b-eq34 c = search (rules, str_laws)

pub returns-then-i-start : goal.returns-then-i-start
returns-then-i-start c = search (rules, str_laws)

pub loop-i-preserved-then-is_escaped : goal.loop-i-preserved-then-is_escaped
loop-i-preserved-then-is_escaped c = search (rules, str_laws)

pub returns-else-is_escaped : goal.returns-else-is_escaped
returns-else-is_escaped c = search (rules, str_laws)

pub loop-i-preserved : goal.loop-i-preserved
loop-i-preserved c = search (rules, str_laws)

pub returns-then-s-i-eq34 : goal.returns-then-s-i-eq34
returns-then-s-i-eq34 c = search (rules, str_laws)

pub returns-else-s-i-eq34 : goal.returns-else-s-i-eq34
returns-else-s-i-eq34 c = search (rules, str_laws)

pub returns-else-i-last : goal.returns-else-i-last
returns-else-i-last c = search (rules, str_laws)
