use Rattle.content.proofs.ContentLaws.{event_laws}
use borrow.Author.Rules.{rules}
use Rattle.content.proofs.content.event_at.Goals as goal

pub returns-in_err-e : goal.returns-in_err-e
returns-in_err-e c = search (rules, event_laws, c.in_err-e.was)

pub gap_hard_string-requires : goal.gap_hard_string-requires
gap_hard_string-requires c = search (rules, event_laws, c.in_ok-e.was)

pub returns : goal.returns
returns c = search (rules, event_laws, c.in_ok-e.was)
