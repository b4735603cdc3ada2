use Rattle.std.specs.Prelude.{Some}
use Rattle.replay.specs.Replies.{outcome}
use Rattle.replay.proofs.VerdictLaws.{verdict_laws}
use borrow.Author.Rules.{rules}
use Rattle.replay.proofs.compare.judged.Goals as goal

pub returns-in_err-r : goal.returns-in_err-r
returns-in_err-r c = search (rules, verdict_laws, c.in_err-r.was)

pub returns : goal.returns
returns c = search (rules, verdict_laws, c.in_ok-r.was)
