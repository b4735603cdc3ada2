use Rattle.edit.proofs.PartsLaws.{parts_laws}
use borrow.Author.Rules.{rules}
use borrow.Author.Rules.{rules}
use Rattle.edit.proofs.reread.put_all.Goals as goal

pub returns : goal.returns
returns c = search (rules, parts_laws)
