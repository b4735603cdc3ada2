use Rattle.edit.proofs.FreshLaws.{fresh_laws}
use borrow.Author.Rules.{rules}
use Rattle.edit.proofs.reread.put_new.Goals as goal

pub returns : goal.returns
returns c = search (rules, fresh_laws)
