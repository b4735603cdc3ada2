use Rattle.lumbrisse.specs.Numbers.{handed_of}
use borrow.Author.Rules.{rules}
use Rattle.lumbrisse.proofs.reply.handed_of.Goals as goal

pub returns-in-Ok-Some-Entry-default : goal.returns-in-Ok-Some-Entry-default
unfolding handed_of
returns-in-Ok-Some-Entry-default c = search (rules)

pub returns-in-Ok-Some-Detail-default : goal.returns-in-Ok-Some-Detail-default
unfolding handed_of
returns-in-Ok-Some-Detail-default c = search (rules)

pub returns-in-Ok-None : goal.returns-in-Ok-None
unfolding handed_of
returns-in-Ok-None c = search (rules)

pub returns-in-Err : goal.returns-in-Err
unfolding handed_of
returns-in-Err c = search (rules)
