use Rattle.entry.proofs.UndatedLaws.{option_end_laws}
use mathlib.Core.Path.{◌≡◌}
use Rattle.std.specs.Prelude.{None, Err}
use Rattle.text.specs.declared.stop.Stop.{Stop}
use Rattle.text.proofs.TestLaws.{tried}
use borrow.Author.Rules.{rules}
use Rattle.entry.proofs.entry.option_end.Goals as goal

pub returns-in_err-f : goal.returns-in_err-f
returns-in_err-f c = search (rules, option_end_laws, c.in_err-f.was)

pub returns-in_err-g : goal.returns-in_err-g
returns-in_err-g c =
    let no_end : c.line_end.result ≡ None = search (rules, tried, c.in_err-g.was) in
    let stopped : c.from_residual-in_err-g.result ≡ Err Stop.Miss = search (rules, tried, c.in_err-g.was) in
    rw stopped (search (rules, option_end_laws, c.in_ok-f.was, no_end))

pub emit-requires : goal.emit-requires
emit-requires c = search (rules, option_end_laws)

pub returns : goal.returns
returns c = search (rules, option_end_laws)
