use Rattle.amount.proofs.LiteralLaws.{unsigned_laws}
use borrow.Author.Rules.{rules}
use Rattle.amount.proofs.literal.unsigned_at.Goals as goal
use Rattle.amount.proofs.literal.unsigned_at.Goals.{then-end-s+else-s-end-eq46, else-end-s}

pub returns-then-s-end-eq46 : goal.returns-then-s-end-eq46
returns-then-s-end-eq46 c = search (rules, unsigned_laws)

pub returns : goal.returns
returns c = elim c.if-end-s.branch [ then-end-s+else-s-end-eq46 w ↦ search (rules, unsigned_laws) | else-end-s w ↦ search (rules, unsigned_laws) ]
