use Rattle.text.proofs.PlainLaws.{chunk_laws}
use borrow.Author.Rules.{rules}
use Rattle.text.proofs.permitted.plain_chunk.Goals as goal

pub loop-b-preserved : goal.loop-b-preserved
loop-b-preserved c = search (rules, chunk_laws)

pub returns : goal.returns
returns c = search (rules, chunk_laws)
