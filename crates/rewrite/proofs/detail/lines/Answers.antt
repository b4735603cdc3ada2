use Rattle.layout.specs.Meaning.{texted}
use Rattle.layout.specs.Written.{detail_text}
use Rattle.rewrite.proofs.DetailLaws.{detail_laws}
use borrow.Author.Rules.{rules}
use Rattle.rewrite.proofs.detail.lines.Goals as goal

pub returns-then-prev-eq-CURRENCY : goal.returns-then-prev-eq-CURRENCY
unfolding detail_text texted
returns-then-prev-eq-CURRENCY c = search (rules, detail_laws)

pub returns-then-x-eq-CURRENCY : goal.returns-then-x-eq-CURRENCY
unfolding detail_text texted
returns-then-x-eq-CURRENCY c = search (rules, detail_laws)

pub returns-then-x-eq-BOOKING : goal.returns-then-x-eq-BOOKING
unfolding detail_text texted
returns-then-x-eq-BOOKING c = search (rules, detail_laws)

pub posting-requires : goal.posting-requires
unfolding detail_text texted
posting-requires c = search (rules, detail_laws)

pub returns-then-x-eq-POSTING : goal.returns-then-x-eq-POSTING
unfolding detail_text texted
returns-then-x-eq-POSTING c = search (rules, detail_laws)

pub returns-then-x-eq-STRING : goal.returns-then-x-eq-STRING
unfolding detail_text texted
returns-then-x-eq-STRING c = search (rules, detail_laws)

pub returns : goal.returns
unfolding detail_text texted
returns c = search (rules, detail_laws)
