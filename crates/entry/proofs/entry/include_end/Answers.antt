use Rattle.entry.proofs.UndatedLaws.{include_laws}
use mathlib.Core.Path.{◌≡◌}
use Rattle.std.specs.Prelude.{None, Err}
use Rattle.text.specs.Refusals.{missing}
use Rattle.text.specs.declared.stop.Stop.{Stop}
use Rattle.text.proofs.TestLaws.{tried}
use borrow.Author.Rules.{rules}
use Rattle.entry.proofs.entry.include_end.Goals as goal

pub returns-in_err-e : goal.returns-in_err-e
returns-in_err-e c = search (rules, include_laws, c.in_err-e.was)

pub returns-in_err-f : goal.returns-in_err-f
returns-in_err-f c =
    let no_end : c.line_end.result ≡ None = search (rules, tried, c.in_err-f.was) in
    let stopped : c.from_residual-in_err-f.result ≡ Err (Stop.Hard missing c.in_ok-e.e) = search (rules, tried, c.in_err-f.was) in
    rw stopped (search (rules, include_laws, c.in_ok-e.was, no_end))

pub returns : goal.returns
returns c = search (rules, include_laws, c.in_ok-e.was, c.in_ok-f.was)
