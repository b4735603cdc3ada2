use Rattle.lumbrisse.specs.Numbers.{evaluated_of}
use borrow.Author.Rules.{rules}
use Rattle.lumbrisse.proofs.reply.evaluated_of.Goals as goal

pub returns-in-Ok : goal.returns-in-Ok
unfolding evaluated_of
returns-in-Ok c = search (rules)

pub returns-in-Err : goal.returns-in-Err
unfolding evaluated_of
returns-in-Err c = search (rules)
