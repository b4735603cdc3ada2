use Rattle.posting.proofs.FlagLaws.{flag_laws}
use borrow.Author.Rules.{rules}
use Rattle.posting.proofs.posting.flag_gap.Goals as goal

pub returns-in_err-b : goal.returns-in_err-b
returns-in_err-b c = search (rules, flag_laws, c.in_err-b.was)

pub returns-then-b-eq0 : goal.returns-then-b-eq0
returns-then-b-eq0 c = search (rules, flag_laws, c.in_ok-b.was)

pub returns : goal.returns
returns c = search (rules, flag_laws, c.in_ok-b.was)
