use Rattle.text.proofs.WordLaws.{word_laws}
use borrow.Author.Rules.{rules}
use Rattle.text.proofs.word.word.Goals as goal

pub returns-then-starts_with : goal.returns-then-starts_with
returns-then-starts_with c = search (rules, word_laws)

pub returns-else-starts_with : goal.returns-else-starts_with
returns-else-starts_with c = search (rules, word_laws)

pub returns-then-w-gt0 : goal.returns-then-w-gt0
returns-then-w-gt0 c = search (rules, word_laws)
