use mathlib.Core.Path.{◌≡◌}
use Rattle.std.specs.Prelude.{Err}
use Rattle.totals.proofs.CallLaws.{call_laws, done_stopped}
use borrow.Author.Rules.{rules}
use Rattle.totals.proofs.totals.totals.Goals as goal

pub returns-in_err-verdict : goal.returns-in_err-verdict
returns-in_err-verdict c =
    let a = c.args in
    let stopped : c.from_residual.result ≡ Err c.in_err-verdict.field-0.0 = search (rules, c.in_err-verdict.was) in
    done_stopped a.ledger.now a.year a.month a.items.now a.work.now a.spare.now _ c.verdict.ensures _ _ c.in_err-verdict.was stopped

pub month_totals-requires : goal.month_totals-requires
month_totals-requires c = search (rules, call_laws, c.in_ok-verdict.was)

pub returns : goal.returns
returns c = search (rules, call_laws, c.in_ok-verdict.was)
