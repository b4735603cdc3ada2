use Rattle.text.proofs.WindowLaws.{class_run_laws}
use borrow.Author.Rules.{rules}
use Rattle.text.proofs.window.link_run.Goals as goal

pub returns-clause-value : goal.returns-clause-value
returns-clause-value c = search (rules, class_run_laws)

pub returns-clause-lower_bound : goal.returns-clause-lower_bound
returns-clause-lower_bound c = search (rules, class_run_laws)
