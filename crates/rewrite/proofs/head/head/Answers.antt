use Rattle.layout.specs.Meaning.{texted}
use Rattle.text.specs.Bytes.{bytes}
use Rattle.layout.specs.Written.{head_text}
use Rattle.rewrite.proofs.HeadLaws.{head_laws}
use borrow.Author.Rules.{rules}
use Rattle.rewrite.proofs.head.head.Goals as goal

pub returns-then-x-eq-BLANK : goal.returns-then-x-eq-BLANK
unfolding head_text bytes texted
returns-then-x-eq-BLANK c = search (rules, head_laws)

pub returns-then-x-eq-OPTION : goal.returns-then-x-eq-OPTION
unfolding head_text bytes texted
returns-then-x-eq-OPTION c = search (rules, head_laws)

pub returns-then-x-eq-INCLUDE : goal.returns-then-x-eq-INCLUDE
unfolding head_text bytes texted
returns-then-x-eq-INCLUDE c = search (rules, head_laws)

pub returns-then-x-eq-PUSHTAG : goal.returns-then-x-eq-PUSHTAG
unfolding head_text bytes texted
returns-then-x-eq-PUSHTAG c = search (rules, head_laws)

pub returns-then-x-eq-POPTAG : goal.returns-then-x-eq-POPTAG
unfolding head_text bytes texted
returns-then-x-eq-POPTAG c = search (rules, head_laws)

pub returns : goal.returns
unfolding head_text bytes texted
returns c = search (rules, head_laws)
