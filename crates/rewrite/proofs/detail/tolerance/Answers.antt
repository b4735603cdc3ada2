use Rattle.text.specs.Bytes.{bytes}
use Rattle.rewrite.proofs.DetailLaws.{text_laws}
use borrow.Author.Rules.{rules}
use Rattle.rewrite.proofs.detail.tolerance.Goals as goal

pub returns : goal.returns
unfolding bytes
returns c = search (rules, text_laws)
