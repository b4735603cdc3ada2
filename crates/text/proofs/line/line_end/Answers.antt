use Rattle.text.proofs.LineLaws.{line_laws}
use borrow.Author.Rules.{rules}
use Rattle.text.proofs.line.line_end.Goals as goal

pub returns : goal.returns
returns c = search (rules, line_laws)
