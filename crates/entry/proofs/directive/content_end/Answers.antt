use Rattle.entry.proofs.FormLaws.{content_laws}
use mathlib.Core.Path.{◌≡◌}
use Rattle.std.specs.Prelude.{None, Err}
use Rattle.text.specs.declared.stop.Stop.{Stop}
use Rattle.text.proofs.TestLaws.{tried}
use borrow.Author.Rules.{rules}
use Rattle.entry.proofs.directive.content_end.Goals as goal

pub returns-in_err-e : goal.returns-in_err-e
returns-in_err-e c = search (rules, content_laws, c.in_err-e.was)

pub returns-in_err-f : goal.returns-in_err-f
returns-in_err-f c =
    let no_end : c.line_end.result ≡ None = search (rules, tried, c.in_err-f.was) in
    let stopped : c.from_residual-in_err-f.result ≡ Err Stop.Miss = search (rules, tried, c.in_err-f.was) in
    rw stopped (search (rules, content_laws, c.in_ok-e.was, no_end))

pub metadata_at-requires : goal.metadata_at-requires
metadata_at-requires c = search (rules, content_laws, c.in_ok-e.was, c.in_ok-f.was)

pub returns : goal.returns
returns c = search (rules, content_laws)
