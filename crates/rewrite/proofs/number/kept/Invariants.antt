use Rattle.rewrite.proofs.NumberLaws.{Looked}
use Rattle.rewrite.proofs.number.kept.Given as goal

abbrev pub invariant-loop-i : goal.invariant-loop-i
invariant-loop-i l = Looked l.d l.i
