use Rattle.replay.proofs.MonthLaws.{kept_parts}
use borrow.Author.Rules.{rules}
use Rattle.replay.proofs.month.is_kept.Goals as goal

pub returns : goal.returns
returns c = search (rules, kept_parts)
