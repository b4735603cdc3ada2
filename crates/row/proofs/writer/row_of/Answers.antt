use Rattle.row.proofs.WriteLaws.{writing}
use borrow.Author.Rules.{rules}
use Rattle.row.proofs.writer.row_of.Goals as goal

pub returns-then-is_spanned : goal.returns-then-is_spanned
returns-then-is_spanned c = search (rules, writing)

pub returns : goal.returns
returns c = search (rules, writing)
