use Rattle.posting.proofs.MetaLaws.{key_laws}
use borrow.Author.Rules.{rules}
use Rattle.posting.proofs.metadata.key.Goals as goal

pub returns-then-is_small : goal.returns-then-is_small
returns-then-is_small c = search (rules, key_laws)

pub returns : goal.returns
returns c = search (rules, key_laws)
