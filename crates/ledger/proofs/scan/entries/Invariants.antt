use Prim.Native.Nat.{◌-◌, ◌≤◌}
use mathlib.Core.Path.{◌≡◌}
use lib.ListN.{length}
use Rattle.ledger.specs.steps.Objections.{ledger_reach, Near}
use Rattle.ledger.proofs.ScanLaws.{Reached}
use Rattle.ledger.proofs.StrictScan.{Judged}
use Rattle.ledger.proofs.scan.entries.Given as goal

abbrev pub invariant-loop-at : goal.invariant-loop-at
invariant-loop-at l = Reached l.base l.s l.initial.table l.at l.n l.table × Judged l.profile l.s l.at l.held × Near ledger_reach l.held × (length l.table ≡ length l.initial.table)

abbrev pub decreases-loop-at : goal.decreases-loop-at
decreases-loop-at l = length l.s - l.at
