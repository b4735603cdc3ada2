use lib.ListN.{drop}
use mathlib.Core.Path.{◌≡◌}
use Rattle.text.specs.steps.Accounts.{parts_from}
use Rattle.text.proofs.account.short_end.Given as goal

abbrev pub invariant-loop-i : goal.invariant-loop-i
invariant-loop-i l = parts_from (drop l.at l.s) l.at ≡ parts_from (drop l.i l.s) l.i
