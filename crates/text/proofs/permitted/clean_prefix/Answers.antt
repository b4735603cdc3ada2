use Rattle.text.proofs.PlainLaws.{prefix_laws}
use borrow.Author.Rules.{rules}
use Rattle.text.proofs.permitted.clean_prefix.Goals as goal

pub loop-i-preserved-then-plain_chunk : goal.loop-i-preserved-then-plain_chunk
loop-i-preserved-then-plain_chunk c = search (rules, prefix_laws)

pub loop-i-preserved : goal.loop-i-preserved
loop-i-preserved c = search (rules, prefix_laws)

pub returns-clause-value : goal.returns-clause-value
returns-clause-value c = search (rules, prefix_laws)
