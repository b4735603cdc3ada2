use Rattle.row.proofs.WorkLaws.{clear_filled}
use borrow.Author.Rules.{rules}
use Rattle.row.proofs.work.clear.Goals as goal

pub returns : goal.returns
returns c = search (rules, clear_filled, c.fill.ensures.after (λ y e. e))
