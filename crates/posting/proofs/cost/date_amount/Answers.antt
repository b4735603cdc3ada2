use Rattle.posting.proofs.LotLaws.{date_amount_laws}
use mathlib.Core.Path.{◌≡◌}
use Rattle.std.specs.Prelude.{Some}
use Rattle.text.proofs.TestLaws.{tried}
use borrow.Author.Rules.{rules}
use Rattle.posting.proofs.cost.date_amount.Goals as goal

pub returns-in_err-e : goal.returns-in_err-e
returns-in_err-e c = search (rules, date_amount_laws, c.in_err-e.was)

pub returns-in_err-f : goal.returns-in_err-f
returns-in_err-f c = search (rules, date_amount_laws, c.in_ok-e.was, c.in_err-f.was)

pub returns-in_err-g : goal.returns-in_err-g
returns-in_err-g c = search (rules, date_amount_laws, c.in_ok-e.was, c.in_ok-f.was, c.in_err-g.was)

pub returns : goal.returns
returns c =
    let found : c.args.d ≡ Some (c.in_ok-e.e, c.in_ok-e.y) = search (rules, tried, c.in_ok-e.was) in
    let comma : c.comma_at.result ≡ Some c.in_ok-f.f = search (rules, tried, c.in_ok-f.was) in
    search (rules, date_amount_laws, c.in_ok-g.was, found, comma)
