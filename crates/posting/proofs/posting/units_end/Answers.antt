use Rattle.posting.proofs.PostWrites.{ended_laws}
use mathlib.Core.Path.{◌≡◌}
use Rattle.std.specs.Prelude.{Err}
use Rattle.text.specs.declared.stop.Stop.{Stop}
use Rattle.text.proofs.TestLaws.{tried}
use borrow.Author.Rules.{rules}
use Rattle.posting.proofs.posting.units_end.Goals as goal

pub returns-in_err-e : goal.returns-in_err-e
returns-in_err-e c = search (rules, ended_laws, c.in_err-e.was)

pub returns-in_err-f : goal.returns-in_err-f
returns-in_err-f c =
    let missed : c.from_residual-in_err-f.result ≡ Err Stop.Miss = search (rules, tried, c.in_err-f.was) in
    rw missed (search (rules, ended_laws, c.in_ok-e.was, c.in_err-f.was))

pub returns : goal.returns
returns c = search (rules, ended_laws, c.in_ok-e.was, c.in_ok-f.was)
