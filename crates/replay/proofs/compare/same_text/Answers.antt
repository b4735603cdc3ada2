use Rattle.replay.proofs.VerdictLaws.{text_laws}
use borrow.Author.Rules.{rules}
use Rattle.replay.proofs.compare.same_text.Goals as goal

pub text_of-requires : goal.text_of-requires
text_of-requires c = search (rules, text_laws)

pub is_same-requires : goal.is_same-requires
is_same-requires c = search (rules, text_laws)

pub returns-then-c-eq-SPAN : goal.returns-then-c-eq-SPAN
returns-then-c-eq-SPAN c = search (rules, text_laws)

pub returns : goal.returns
returns c = search (rules, text_laws)
