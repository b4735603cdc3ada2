use Prim.Native.Nat.{◌-◌}
use lib.ListN.{length}
use Rattle.text.specs.Answer.{many}
use Rattle.posting.specs.Postings.{body_step}
use Rattle.row.proofs.ManyLaws.{Turns}
use Rattle.posting.proofs.body.body_at.Given as goal

abbrev pub invariant-loop : goal.invariant-loop
invariant-loop l =
    Turns l.base (length l.s) (body_step l.s) (many (body_step l.s) l.most l.at) l.initial.o l.initial.table (l.most - l.counter) l.i l.o l.table
