use Rattle.layout.specs.Meaning.{texted}
use Rattle.layout.specs.Written.{detail_text}
use Rattle.rewrite.proofs.DetailLaws.{detail_laws}
use borrow.Author.Rules.{rules}
use Rattle.rewrite.proofs.detail.words.Goals as goal

pub returns-then-x-eq-PAYEE : goal.returns-then-x-eq-PAYEE
unfolding detail_text texted
returns-then-x-eq-PAYEE c = search (rules, detail_laws)

pub returns-then-x-eq-NARRATION : goal.returns-then-x-eq-NARRATION
unfolding detail_text texted
returns-then-x-eq-NARRATION c = search (rules, detail_laws)

pub returns-then-x-eq-TAG : goal.returns-then-x-eq-TAG
unfolding detail_text texted
returns-then-x-eq-TAG c = search (rules, detail_laws)

pub returns-then-x-eq-LINK : goal.returns-then-x-eq-LINK
unfolding detail_text texted
returns-then-x-eq-LINK c = search (rules, detail_laws)

pub returns : goal.returns
unfolding detail_text texted
returns c = search (rules, detail_laws)
