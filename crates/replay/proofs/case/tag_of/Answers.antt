use Rattle.replay.proofs.HeaderLaws.{header_laws}
use borrow.Author.Rules.{rules}
use Rattle.replay.proofs.case.tag_of.Goals as goal

pub returns-then-field_at-eq-STEP : goal.returns-then-field_at-eq-STEP
returns-then-field_at-eq-STEP c = search (rules, header_laws)

pub returns : goal.returns
returns c = search (rules, header_laws)
