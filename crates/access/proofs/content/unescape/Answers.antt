use Rattle.text.proofs.TestLaws.{tried}
use Rattle.access.proofs.ContentLaws.{content_laws}
use borrow.Author.Rules.{rules}
use Rattle.access.proofs.content.unescape.Goals as goal

pub returns-in_err-n-clause-answer : goal.returns-in_err-n-clause-answer
returns-in_err-n-clause-answer c = search (rules, content_laws, tried, c.in_err-n.was)

pub returns-in_err-n-clause-bytes : goal.returns-in_err-n-clause-bytes
returns-in_err-n-clause-bytes c = search (rules, content_laws, tried, c.in_err-n.was)

pub returns-then-buffer-n-clause-answer : goal.returns-then-buffer-n-clause-answer
returns-then-buffer-n-clause-answer c = search (rules, content_laws, tried, c.in_ok-n.was)

pub returns-then-buffer-n-clause-bytes : goal.returns-then-buffer-n-clause-bytes
returns-then-buffer-n-clause-bytes c = search (rules, content_laws, tried, c.in_ok-n.was)

pub copied-requires : goal.copied-requires
copied-requires c = search (rules, content_laws, tried, c.in_ok-n.was)

pub returns-clause-answer : goal.returns-clause-answer
returns-clause-answer c = search (rules, content_laws, tried, c.in_ok-n.was)

pub returns-clause-bytes : goal.returns-clause-bytes
returns-clause-bytes c = search (rules, content_laws, tried, c.in_ok-n.was)
