use Prim.Native.Nat.{◌-◌}
use Rattle.totals.proofs.ListingLaws.{Putting}
use Rattle.totals.proofs.listing.put_items.Given as goal

abbrev pub invariant-loop-i : goal.invariant-loop-i
invariant-loop-i l = Putting l.s l.t l.initial.items l.items l.i l.k

abbrev pub decreases-loop-i : goal.decreases-loop-i
decreases-loop-i l = l.n - l.i
