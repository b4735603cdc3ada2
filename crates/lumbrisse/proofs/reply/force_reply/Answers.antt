use Rattle.lumbrisse.specs.Numbers.{force_reply}
use borrow.Author.Rules.{rules}
use Rattle.lumbrisse.proofs.reply.force_reply.Goals as goal

pub returns-in-Ok : goal.returns-in-Ok
unfolding force_reply
returns-in-Ok c = search (rules)

pub returns-in-Err : goal.returns-in-Err
unfolding force_reply
returns-in-Err c = search (rules)
