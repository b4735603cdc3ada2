use Rattle.rewrite.proofs.PutLaws.{put_laws}
use borrow.Author.Rules.{rules}
use Rattle.rewrite.proofs.put.put.Goals as goal

pub returns : goal.returns
returns c = search (rules, put_laws)
