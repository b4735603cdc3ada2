use Rattle.transaction.proofs.ChainLaws.{marked_laws}
use mathlib.Core.Path.{◌≡◌}
use Rattle.std.specs.Prelude.{Some, None, Err}
use Rattle.text.specs.Refusals.{missing}
use Rattle.text.specs.declared.stop.Stop.{Stop}
use Rattle.text.proofs.TestLaws.{tried}
use borrow.Author.Rules.{rules}
use Rattle.transaction.proofs.transaction.marked_at.Goals as goal

pub returns-in_err-e : goal.returns-in_err-e
returns-in_err-e c = search (rules, marked_laws, c.in_err-e.was)

pub returns-in_err-f : goal.returns-in_err-f
returns-in_err-f c =
    let no_end : c.line_end.result ≡ None = search (rules, tried, c.in_err-f.was) in
    let stopped : c.from_residual-in_err-f.result ≡ Err (Stop.Hard missing c.in_ok-e.e) = search (rules, tried, c.in_err-f.was) in
    rw stopped (search (rules, marked_laws, c.in_ok-e.was, no_end))

pub metadata_at-requires : goal.metadata_at-requires
metadata_at-requires c = search (rules, marked_laws, c.in_ok-e.was, c.in_ok-f.was)

pub returns : goal.returns
returns c =
    let ended : c.line_end.result ≡ Some c.in_ok-f.f = search (rules, tried, c.in_ok-f.was) in
    search (rules, marked_laws, c.in_ok-e.was, ended)
