use lib.ListN.{drop}
use mathlib.Core.Path.{◌≡◌}
use Rattle.text.specs.Bytes.{in_account}
use Rattle.text.specs.Run.{run_to}
use Rattle.text.specs.steps.Accounts.{parts_from}
use Rattle.text.proofs.account.first_part_end.Given as goal

abbrev pub invariant-loop-i : goal.invariant-loop-i
invariant-loop-i l = (l.end ≡ parts_from (drop l.i l.s) l.i) × (run_to in_account l.s l.at ≡ run_to in_account l.s l.i)
