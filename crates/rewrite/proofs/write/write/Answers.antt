use Rattle.rewrite.proofs.WriteLaws.{write_laws}
use borrow.Author.Rules.{rules}
use Rattle.rewrite.proofs.write.write.Goals as goal

pub overflow_mul-result : goal.overflow_mul-result
overflow_mul-result c = search (rules, write_laws, c.in-Err.ensures)

pub returns-in-Err : goal.returns-in-Err
returns-in-Err c = search (rules, write_laws)

pub returns-in-Err-2 : goal.returns-in-Err-2
returns-in-Err-2 c = search (rules, write_laws, c.in-Err.ensures)

pub poured-poured-requires : goal.poured-poured-requires
poured-poured-requires c = search (rules, write_laws, c.in-Ok.ensures)

pub overflow_mul-n : goal.overflow_mul-n
overflow_mul-n c = search (rules, write_laws)

pub clear-requires : goal.clear-requires
clear-requires c = search (rules, write_laws)

pub returns : goal.returns
returns c = search (rules, write_laws)
