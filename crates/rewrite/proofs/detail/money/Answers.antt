use Rattle.row.specs.Details.{spanned}
use Rattle.rewrite.specs.steps.Putting.{ended}
use Rattle.rewrite.specs.steps.Pieces.{cost_text}
use Rattle.text.specs.Bytes.{bytes}
use Rattle.layout.specs.Written.{detail_text, brace_end}
use Rattle.rewrite.proofs.DetailLaws.{detail_laws}
use borrow.Author.Rules.{rules}
use Rattle.rewrite.proofs.detail.money.Goals as goal

pub returns-then-x-eq-TOLERANCE : goal.returns-then-x-eq-TOLERANCE
unfolding detail_text bytes cost_text brace_end ended spanned
returns-then-x-eq-TOLERANCE c = search (rules, detail_laws)

pub returns-then-x-eq-COST : goal.returns-then-x-eq-COST
unfolding detail_text bytes cost_text brace_end ended spanned
returns-then-x-eq-COST c = search (rules, detail_laws)

pub returns-then-x-eq-UNIT_PRICE : goal.returns-then-x-eq-UNIT_PRICE
unfolding detail_text bytes cost_text brace_end ended spanned
returns-then-x-eq-UNIT_PRICE c = search (rules, detail_laws)

pub returns : goal.returns
unfolding detail_text bytes cost_text brace_end ended spanned
returns c = search (rules, detail_laws)
