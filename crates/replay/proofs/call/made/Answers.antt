use Rattle.replay.proofs.ReplyLaws.{made_laws}
use borrow.Author.Rules.{rules}
use Rattle.replay.proofs.call.made.Goals as goal

pub returns-in-1-clause-answer : goal.returns-in-1-clause-answer
returns-in-1-clause-answer c = search (rules, made_laws)

pub returns-in-1-clause-bytes : goal.returns-in-1-clause-bytes
returns-in-1-clause-bytes c = search (rules, made_laws)

pub returns-in-2-clause-answer : goal.returns-in-2-clause-answer
returns-in-2-clause-answer c = search (rules, made_laws)

pub returns-in-2-clause-bytes : goal.returns-in-2-clause-bytes
returns-in-2-clause-bytes c = search (rules, made_laws)

pub returns-in-3-clause-answer : goal.returns-in-3-clause-answer
returns-in-3-clause-answer c = search (rules, made_laws)

pub returns-in-3-clause-bytes : goal.returns-in-3-clause-bytes
returns-in-3-clause-bytes c = search (rules, made_laws)

pub returns-in-4-clause-answer : goal.returns-in-4-clause-answer
returns-in-4-clause-answer c = search (rules, made_laws)

pub returns-in-4-clause-bytes : goal.returns-in-4-clause-bytes
returns-in-4-clause-bytes c = search (rules, made_laws)

pub returns-in-5-clause-answer : goal.returns-in-5-clause-answer
returns-in-5-clause-answer c = search (rules, made_laws)

pub returns-in-5-clause-bytes : goal.returns-in-5-clause-bytes
returns-in-5-clause-bytes c = search (rules, made_laws)

pub returns-in-6-clause-answer : goal.returns-in-6-clause-answer
returns-in-6-clause-answer c = search (rules, made_laws)

pub returns-in-6-clause-bytes : goal.returns-in-6-clause-bytes
returns-in-6-clause-bytes c = search (rules, made_laws)

pub returns-in-7-clause-answer : goal.returns-in-7-clause-answer
returns-in-7-clause-answer c = search (rules, made_laws)

pub returns-in-7-clause-bytes : goal.returns-in-7-clause-bytes
returns-in-7-clause-bytes c = search (rules, made_laws)

pub returns-in-8-clause-answer : goal.returns-in-8-clause-answer
returns-in-8-clause-answer c = search (rules, made_laws)

pub returns-in-8-clause-bytes : goal.returns-in-8-clause-bytes
returns-in-8-clause-bytes c = search (rules, made_laws)

pub returns-in-9-clause-answer : goal.returns-in-9-clause-answer
returns-in-9-clause-answer c = search (rules, made_laws)

pub returns-in-9-clause-bytes : goal.returns-in-9-clause-bytes
returns-in-9-clause-bytes c = search (rules, made_laws)

pub returns-in-10-clause-answer : goal.returns-in-10-clause-answer
returns-in-10-clause-answer c = search (rules, made_laws)

pub returns-in-10-clause-bytes : goal.returns-in-10-clause-bytes
returns-in-10-clause-bytes c = search (rules, made_laws)

pub returns-in-12-clause-answer : goal.returns-in-12-clause-answer
returns-in-12-clause-answer c = search (rules, made_laws)

pub returns-in-12-clause-bytes : goal.returns-in-12-clause-bytes
returns-in-12-clause-bytes c = search (rules, made_laws)

pub returns-in-13-clause-answer : goal.returns-in-13-clause-answer
returns-in-13-clause-answer c = search (rules, made_laws)

pub returns-in-13-clause-bytes : goal.returns-in-13-clause-bytes
returns-in-13-clause-bytes c = search (rules, made_laws)

pub returns-in-14-clause-answer : goal.returns-in-14-clause-answer
returns-in-14-clause-answer c = search (rules, made_laws)

pub returns-in-14-clause-bytes : goal.returns-in-14-clause-bytes
returns-in-14-clause-bytes c = search (rules, made_laws)

pub returns-in-15-clause-answer : goal.returns-in-15-clause-answer
returns-in-15-clause-answer c = search (rules, made_laws)

pub returns-in-15-clause-bytes : goal.returns-in-15-clause-bytes
returns-in-15-clause-bytes c = search (rules, made_laws)

pub returns-in-16-clause-answer : goal.returns-in-16-clause-answer
returns-in-16-clause-answer c = search (rules, made_laws)

pub returns-in-16-clause-bytes : goal.returns-in-16-clause-bytes
returns-in-16-clause-bytes c = search (rules, made_laws)

pub returns-in-17-clause-answer : goal.returns-in-17-clause-answer
returns-in-17-clause-answer c = search (rules, made_laws)

pub returns-in-17-clause-bytes : goal.returns-in-17-clause-bytes
returns-in-17-clause-bytes c = search (rules, made_laws)

pub returns-in_default-clause-answer : goal.returns-in_default-clause-answer
returns-in_default-clause-answer c = search (rules, made_laws)

pub returns-in_default-clause-bytes : goal.returns-in_default-clause-bytes
returns-in_default-clause-bytes c = search (rules, made_laws)
