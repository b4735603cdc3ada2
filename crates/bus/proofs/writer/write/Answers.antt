use Rattle.bus.proofs.WriteLaws.{write_laws}
use borrow.Author.Rules.{rules}
use Rattle.bus.proofs.writer.write.Goals as goal

pub returns-then-t-n-clause-answer : goal.returns-then-t-n-clause-answer
returns-then-t-n-clause-answer c = search (rules, write_laws)

pub returns-then-t-n-clause-bytes : goal.returns-then-t-n-clause-bytes
returns-then-t-n-clause-bytes c = search (rules, write_laws)

pub returns-in_err-k-clause-answer : goal.returns-in_err-k-clause-answer
returns-in_err-k-clause-answer c = search (rules, write_laws, c.in_err-k.was)

pub returns-in_err-k-clause-bytes : goal.returns-in_err-k-clause-bytes
returns-in_err-k-clause-bytes c = search (rules, write_laws, c.in_err-k.was)

pub returns-then-buffer-k-clause-answer : goal.returns-then-buffer-k-clause-answer
returns-then-buffer-k-clause-answer c = search (rules, write_laws, c.in_ok-k.was)

pub returns-then-buffer-k-clause-bytes : goal.returns-then-buffer-k-clause-bytes
returns-then-buffer-k-clause-bytes c = search (rules, write_laws, c.in_ok-k.was)

pub put_rows-requires : goal.put_rows-requires
put_rows-requires c = search (rules, write_laws, c.in_ok-k.was)

pub returns-clause-answer : goal.returns-clause-answer
returns-clause-answer c = search (rules, write_laws, c.in_ok-k.was)

pub returns-clause-bytes : goal.returns-clause-bytes
returns-clause-bytes c = search (rules, write_laws, c.in_ok-k.was)
