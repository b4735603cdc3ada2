use Rattle.rewrite.proofs.number.+whole.Given as goal

abbrev pub decreases-whole : goal.decreases-whole
decreases-whole l = l.k
