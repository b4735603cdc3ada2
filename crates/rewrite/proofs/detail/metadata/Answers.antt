use Rattle.rewrite.proofs.DetailLaws.{meta_laws}
use borrow.Author.Rules.{rules}
use Rattle.rewrite.proofs.detail.metadata.Goals as goal

pub returns-then-x-eq-STRING_META : goal.returns-then-x-eq-STRING_META
returns-then-x-eq-STRING_META c = search (rules, meta_laws)

pub returns-then-x-eq-NUMBER_META : goal.returns-then-x-eq-NUMBER_META
returns-then-x-eq-NUMBER_META c = search (rules, meta_laws)

pub returns : goal.returns
returns c = search (rules, meta_laws)
