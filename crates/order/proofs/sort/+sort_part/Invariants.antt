use lib.ListN.{length}
use Rattle.order.proofs.sort.+sort_part.Given as goal

abbrev pub decreases-sort_part : goal.decreases-sort_part
decreases-sort_part l = length l.t.now
