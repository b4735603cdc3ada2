use Rattle.row.proofs.FieldLaws.{halves}
use borrow.Author.Rules.{rules}
use Rattle.row.proofs.field.get_eight.Goals as goal

pub overflow_mul-result : goal.overflow_mul-result
overflow_mul-result c = search (rules, halves)

pub overflow_add-result : goal.overflow_add-result
overflow_add-result c = search (rules, halves)

pub returns : goal.returns
returns c = search (rules, halves)
