use Rattle.row.proofs.FieldLaws.{getting}
use borrow.Author.Rules.{rules}
use Rattle.row.proofs.field.get.Goals as goal

pub overflow_mul-x : goal.overflow_mul-x
overflow_mul-x c = search (rules, getting)

pub overflow_add-x : goal.overflow_add-x
overflow_add-x c = search (rules, getting)

pub loop-i-preserved : goal.loop-i-preserved
loop-i-preserved c = search (rules, getting)
