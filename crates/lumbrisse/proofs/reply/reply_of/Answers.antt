use Rattle.lumbrisse.specs.Numbers.{reply_of}
use borrow.Author.Rules.{rules}
use Rattle.lumbrisse.proofs.reply.reply_of.Goals as goal

pub returns-in-Ok : goal.returns-in-Ok
unfolding reply_of
returns-in-Ok c = search (rules)

pub returns-in-Err : goal.returns-in-Err
unfolding reply_of
returns-in-Err c = search (rules)
