use Rattle.row.specs.Details.{spanned}
use borrow.Author.Rules.{rules}
use Rattle.row.proofs.writer.is_spanned.Goals as goal

pub returns : goal.returns
unfolding spanned
returns c = search rules
