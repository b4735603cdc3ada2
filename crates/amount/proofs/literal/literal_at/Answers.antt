use Rattle.amount.proofs.LiteralLaws.{sign_met}
use borrow.Author.Rules.{rules}
use Rattle.amount.proofs.literal.literal_at.Goals as goal

pub returns : goal.returns
returns c = search (rules, sign_met)
